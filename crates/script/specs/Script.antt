-- A script: what each record is told, and the text that is written of it.
use Rattle.std.specs.Prelude.{◌≡◌, ℕ, zero, suc, ◌+◌, ◌*◌, ◌/◌, ◌%◌, ◌^◌, ◌≤◌, min, Bool, true, false, cond, ◌&&◌, List, [], ◌++◌, length, drop}
use Rattle.system.specs.Answers.{told}
use Rattle.host.specs.declared.Host.{Host}
use Rattle.host.specs.Step.{step, fresh_host}
use Rattle.host.specs.Outcomes.{HostOutcome, step_counted, built_host}
use Rattle.records.specs.declared.Plan.{Plan}
use Rattle.records.specs.Records.{plan_of}
use Rattle.text.specs.Lines.{answer_line, answer_room}
use Rattle.text.specs.Places.{Placed}
use Rattle.host_text.specs.HostText.{host_text}
use Rattle.script.specs.declared.Script.{Script}
use Rattle.script.specs.declared.Taken.{Taken}

-- a script of which nothing was read: no host is built yet
abbrev pub begun : Script
begun = record { number = 0; built = false; host = fresh_host 0 0 0 0 0 0 }

-- what a host is told: a refused record leaves it as it is
unfoldable pub carried : Host → Plan → HostOutcome
carried h (Plan.Refuse a) = record { number = told a; host = h; count = 0 }
carried h (Plan.Build s) = built_host s.num_domains s.vcpus_per_domain s.num_pcpus s.quantum
carried h (Plan.Call c) = step_counted (step h c)

-- whether there is a host after it
abbrev pub built_after : Bool → Plan → Bool
built_after b (Plan.Refuse a) = b
built_after b (Plan.Build s) = true
built_after b (Plan.Call c) = b

-- the record at the start of what is left of a script: what it does, what it is told, the script after it
abbrev pub plan : Script → List ℕ → Plan
plan c bs = plan_of c.built bs

abbrev pub answered : Script → List ℕ → HostOutcome
answered c bs = carried c.host (plan c bs)

unfoldable pub script_next : Script → List ℕ → Script
script_next c bs =
    record {
      number = (c.number + 1) % 2 ^ 64;
      built = built_after c.built (plan c bs);
      host = (answered c bs).host;
    }

abbrev pub line_told : Script → List ℕ → List ℕ
line_told c bs = answer_line ((c.number + 1) % 2 ^ 64) (answered c bs).number (answered c bs).count

-- the host after it, where it is asked for and there is one
abbrev pub host_shown : Bool → Script → List ℕ
host_shown states c = cond (states && c.built) (host_text c.host.system c.host.scheduler) []

unfoldable pub entry : Bool → Script → List ℕ → List ℕ
entry states c bs = line_told c bs ++ host_shown states (script_next c bs)

-- the script after n records, and the text of them; a record has 20 bytes
unfoldable pub script_after : Script → List ℕ → ℕ → Script
script_after c bs zero = c
script_after c bs (suc n) = script_next (script_after c bs n) (drop (n * 20) bs)

unfoldable pub text : Bool → Script → List ℕ → ℕ → List ℕ
text states c bs zero = []
text states c bs (suc n) = text states c bs n ++ entry states (script_after c bs n) (drop (n * 20) bs)

-- how many records some bytes are: the last may be cut off
abbrev pub records_in : List ℕ → ℕ
records_in bs = (length bs + 19) / 20

-- the most bytes that a record's text takes: where the host is written too, a round number above what it takes with the line
abbrev pub entry_room : ℕ
entry_room = 28700

abbrev pub room : Bool → ℕ
room true = entry_room
room false = answer_room

-- as many records as there are, and as there is room for
abbrev pub taken : Bool → List ℕ → List ℕ → ℕ
taken states bs out = min (records_in bs) (length out / room states)

-- a script by its parts
abbrev pub script_of : ℕ → Bool → Host → Script
script_of number built h = record { number = number; built = built; host = h }

-- what a replay of n records hands back, the script that it leaves, and what it leaves of the bytes that it writes over
pub record Replayed (states : Bool) (c : Script) (bs : List ℕ) (n : ℕ) (before : List ℕ) (after : Script) (r : Taken) (out : List ℕ)
    : Type 0 where
  pub script : after ≡ script_after c bs n
  pub records : r.records ≡ n
  pub placed : Placed before 0 (text states c bs n) out r.written
  pub whole : r.written ≤ length out
