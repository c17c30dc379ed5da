-- The script programs of document 01: records of 20 bytes in, a line for each out, and the host after it for `trace`.
use Rattle.std.specs.Prelude.{ℕ, ◌+◌, ◌*◌, ◌/◌, ◌%◌, ◌^◌, min, Bool, true, false, cond, not, ◌&&◌, List, [], ◌∷◌, ◌++◌, ltb, leb, eqb, length, get_or, drop}
use Rattle.std.proofs.lemmas.List.Edits.{sets}
use Rattle.system.specs.declared.Answer.TheVariants.{TooLarge, BadScript}
use Rattle.host.specs.declared.Host.{Host}
use Rattle.calls.specs.declared.Request.{Request}
use Rattle.calls.specs.declared.Call.{Call}
use Rattle.records.specs.declared.Record.{Record}
use Rattle.records.specs.declared.Plan.{Plan}
use Rattle.script.specs.declared.Script.{Script}
use Rattle.script.specs.declared.Taken.{Taken}
use Rattle.page.specs.Host.{times}
use Rattle.page.specs.Policy.{new_policy}
use Rattle.page.specs.Calls.{new_system}
use Rattle.page.specs.Steps.{Step, step, build, number_of}
use Rattle.page.specs.Numbers.{parts, bytes, field}
use Rattle.page.specs.Lines.{answer_line, put}
use Rattle.page.specs.Trace.{host_text}

-- ---- A record: kind (2 bytes), domain (2), vCPU (4), third (4), value (8)
abbrev pub record_of : List ℕ → Record
record_of bs =
    record { kind = field bs 0 2; dom = field bs 2 2; vcpu = field bs 4 4; third = field bs 8 4; value = field bs 12 8 }

-- one that is cut off is of no kind
abbrev pub record_at : List ℕ → Record
record_at bs = cond (leb 20 (length bs)) (record_of bs) (record { kind = 65535; dom = 0; vcpu = 0; third = 0; value = 0 })

abbrev pub record_bytes : Record → List ℕ
record_bytes r = bytes 2 r.kind ++ bytes 2 r.dom ++ bytes 4 r.vcpu ++ bytes 4 r.third ++ bytes 8 r.value

-- written where there is room
abbrev pub put_record : List ℕ → ℕ → Record → List ℕ
put_record out at r = cond (leb (at + 20) (length out)) (sets out at (record_bytes r)) out

-- ---- What is done of the record at the start of the bytes; 9 is BadScript, 7 TooLarge
unfoldable pub plan : Bool → List ℕ → Plan
plan built bs =
    let d = field bs 2 2 in
    let v = field bs 4 4 in
    let third = field bs 8 4 in
    let value = field bs 12 8 in
    let no : Plan = Plan.Refuse BadScript in
    let call : Call → Plan = λ c. cond built (Plan.Call c) no in
    cond (ltb (length bs) 20) no
    (cond (eqb (field bs 0 2) 0)
    (cond (leb d 16 && (leb v 8 && leb third 64))
    (Plan.Build (record { num_domains = d; vcpus_per_domain = v; num_pcpus = third; quantum = value }))
    (Plan.Refuse TooLarge))
    (get_or
    (no
    ∷ call (Call.Ask d v Request.Admit)
    ∷ call (Call.Ask d v (Request.Run third value))
    ∷ call (Call.Ask d v (Request.Preempt value))
    ∷ call (Call.Ask d v (Request.Block value))
    ∷ call (Call.Ask d v Request.Wake)
    ∷ call (Call.Ask d v (Request.Offline value))
    ∷ call (Call.Ask d v (Request.SetAffinity value))
    ∷ call (Call.SetWeight d v third)
    ∷ call (Call.Advance value)
    ∷ call (Call.SetWakeBoost (not (eqb value 0)))
    ∷ [])
    (field bs 0 2)
    no))

-- ---- What it is told, its moves, the host after it and whether there is one
pub record Played : Type 0 where
  pub number : ℕ
  pub count : ℕ
  pub host : Host
  pub built : Bool

abbrev pub did : Bool → Step → Played
did built r = record { number = r.number; count = length r.moves; host = r.host; built = built }

-- a refused record leaves the host as it is
abbrev pub carry : Host → Bool → Plan → Played
carry h built (Plan.Refuse a) = record { number = number_of a; count = 0; host = h; built = built }
carry h built (Plan.Build s) = did true (build s.num_domains s.vcpus_per_domain s.num_pcpus s.quantum)
carry h built (Plan.Call c) = did built (step h c)

-- ---- A script: its number of records, and its host once one is built
abbrev pub begun : Script
begun =
    record { number = 0; built = false; host = record { system = new_system 0 0 0; scheduler = new_policy 0 0 0 } }

abbrev pub obey : Script → List ℕ → Played
obey c bs = carry c.host c.built (plan c.built bs)

-- records are counted in 64 bits
abbrev pub counted : Script → ℕ
counted c = (c.number + 1) % 2 ^ 64

abbrev pub next : Script → List ℕ → Script
next c bs = record { number = counted c; built = (obey c bs).built; host = (obey c bs).host }

-- after n records of 20 bytes
unfoldable pub after : Script → List ℕ → ℕ → Script
after c bs n = times (λ k r. next r (drop (k * 20) bs)) n c

-- a line for each record: its number from 1, the answer, the moves; then the host, where it is shown and there is one
abbrev pub entry : Bool → Script → List ℕ → List ℕ
entry shown c bs =
    let r = obey c bs in
    answer_line (counted c) r.number r.count
    ++ cond (shown && r.built) (host_text r.host.system r.host.scheduler) []

unfoldable pub text : Bool → Script → List ℕ → ℕ → List ℕ
text shown c bs n = parts n (λ k. entry shown (after c bs k) (drop (k * 20) bs))

-- the last record may be cut off
abbrev pub records : List ℕ → ℕ
records bs = (length bs + 19) / 20

-- what `replay` and `trace` write of a whole script
abbrev pub output : Bool → List ℕ → List ℕ
output shown bs = text shown begun bs (records bs)

-- ---- A stretch: as many records as there are and as there is room for, of 63 bytes each, or of 28,700 with the host
abbrev pub taken : Bool → List ℕ → List ℕ → ℕ
taken shown bs out = min (records bs) (cond shown (length out / 28700) (length out / 63))

abbrev pub replayed : Bool → Script → List ℕ → List ℕ → Taken
replayed shown c bs out =
    let n = taken shown bs out in record { records = n; written = length (text shown c bs n) }

-- the script that is left
abbrev pub replayed_script : Bool → Script → List ℕ → List ℕ → Script
replayed_script shown c bs out = after c bs (taken shown bs out)

abbrev pub replayed_out : Bool → Script → List ℕ → List ℕ → List ℕ
replayed_out shown c bs out = put out 0 (text shown c bs (taken shown bs out))
