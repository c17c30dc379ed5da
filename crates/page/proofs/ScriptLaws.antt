-- A record, what a script does of it, and the text of any script are the page's, for any bytes. Assumes nothing.
use Rattle.std.specs.Prelude.{None}
use Prim.Native.Nat.{ℕ, zero, suc, ◌+◌, ◌*◌}
use mathlib.Core.Bool.{Bool, true, false, cond, ◌&&◌}
use mathlib.Core.List.{List, [], ◌++◌}
use mathlib.Core.Path.{◌≡◌, refl, sym, ◌∙◌, ap, ap₂}
use native.Mathlib.Nat.{zero-add}
use lib.Dec.{ltb, leb, eqb}
use lib.ListN.{length, drop, get_or-map}
use lib.Seq.{sets}
use Rattle.host.specs.declared.Host.{Host}
use Rattle.host.specs.Step as host
use Rattle.host.specs.Outcomes.{HostOutcome}
use Rattle.records.specs.declared.Plan.{Plan}
use Rattle.records.specs.declared.Record.{Record}
use Rattle.records.specs.Records as records
use Rattle.records.specs.Records.{plan_of, planned, calls_of, after_build}
use Rattle.records.specs.Bytes as written
use Rattle.system.specs.declared.Answer.TheVariants.{BadScript}
use Rattle.system.specs.Shape as shape
use Rattle.policy.specs.Accounts as accounts
use Rattle.script.specs.declared.Script.{Script}
use Rattle.script.specs.declared.Taken.{Taken}
use Rattle.text.specs.Lines as lines
use Rattle.host_text.specs.HostText as hosts
use Rattle.script.specs.Script as script
use Rattle.script.specs.Script.{carried, built_after, Replayed}
use Rattle.script.specs.Example.{example, example-records}
use Rattle.script.proofs.Example.{example-text}
use Rattle.text.specs.Ascii.{ascii}
use Rattle.big_endian.specs.Numbers as numbers
use Rattle.page.specs.Page.{times, new_system, new_policy}
use Rattle.page.specs.Steps as steps
use Rattle.page.specs.Numbers.{bytes}
use Rattle.page.specs.Lines.{put}
use Rattle.page.specs.Script as page
use Rattle.page.specs.Script.{Played, did, carry}
use Rattle.page.proofs.Steps.{step_is, as_many, build-is, answer-is, none-moved}
use Rattle.page.proofs.NumberLaws.{field_is}
use Rattle.page.proofs.LineLaws.{answer-line-is}
use Rattle.page.proofs.TraceLaws.{host-text-is}

-- ---- a record
record_of-is : (bs : List ℕ) → records.record_of bs ≡ page.record_of bs
record_of-is bs = rw (field_is bs 0 2, field_is bs 2 2, field_is bs 4 4, field_is bs 8 4, field_is bs 12 8)

pub record_at-is : (bs : List ℕ) → records.record_at bs ≡ page.record_at bs
unfolding records.record_at
record_at-is bs = ap (λ (r : Record). cond (leb 20 (length bs)) r records.cut_off) (record_of-is bs)

pub record_bytes_are : (r : Record) → written.record_bytes r ≡ page.record_bytes r
unfolding numbers.bytes bytes times
record_bytes_are r = refl

pub put_record_is : (out : List ℕ) (at : ℕ) (r : Record) → written.put_record out at r ≡ page.put_record out at r
put_record_is out at r = ap (λ (l : List ℕ). cond (leb (at + 20) (length out)) (sets out at l) out) (record_bytes_are r)

-- ---- what a script does of it
pub plan-is : (b : Bool) (bs : List ℕ) → plan_of b bs ≡ page.plan b bs
unfolding plan_of page.plan
plan-is b bs =
    let r = page.record_of bs in
    ap (λ (x : Record). cond (ltb (length bs) 20) (Plan.Refuse BadScript) (planned b x)) (record_of-is bs)
    ∙ ap
    (λ (p : Plan). cond (ltb (length bs) 20) (Plan.Refuse BadScript) (cond (eqb r.kind 0) (records.build_of r) p))
    (sym (get_or-map (after_build b) (calls_of r) r.kind None))

abbrev of-plan : Host → Bool → Plan → Played
of-plan h b p =
    record { number = (carried h p).number; count = (carried h p).count; host = (carried h p).host; built = built_after b p }

pub carry-is : (h : Host) (b : Bool) (p : Plan) → of-plan h b p ≡ carry h b p
unfolding carried
carry-is h b (Plan.Refuse a) = ap (λ (n : ℕ). record { number = n; count = 0; host = h; built = b }) (answer-is a)
carry-is h b (Plan.Build s) =
    ap (λ (x : HostOutcome). record { number = x.number; count = x.count; host = x.host; built = true })
    (build-is s.num_domains s.vcpus_per_domain s.num_pcpus s.quantum)
    ∙ ap counts (sym (none-moved s.num_domains s.vcpus_per_domain s.num_pcpus s.quantum))
  where
    counts : ℕ → Played
    counts n =
        let r = steps.build s.num_domains s.vcpus_per_domain s.num_pcpus s.quantum in
        record { number = r.number; count = n; host = r.host; built = true }
carry-is h b (Plan.Call c) =
    ap (λ (n : ℕ). record { number = (host.step h c).number; count = n; host = (host.step h c).host; built = b })
    (as_many (host.step h c).moves)
    ∙ ap (did b) (step_is h c)

-- ---- a script
pub begun-is : script.begun ≡ page.begun
unfolding shape.fresh accounts.fresh_policy new_system new_policy
begun-is = refl

obey-is : (c : Script) (bs : List ℕ) → of-plan c.host c.built (script.plan c bs) ≡ page.obey c bs
obey-is c bs =
    ap (of-plan c.host c.built) (plan-is c.built bs) ∙ carry-is c.host c.built (page.plan c.built bs)

pub after_is : (c : Script) (bs : List ℕ) (n : ℕ) → script.script_after c bs n ≡ page.after c bs n
unfolding script.script_after script.script_next page.after times
after_is c bs zero = refl
after_is c bs (suc n) =
    ap (λ (r : Script). script.script_next r (drop (n * 20) bs)) (after_is c bs n)
    ∙ ap (λ (r : Played). record { number = page.counted (page.after c bs n); built = r.built; host = r.host })
    (obey-is (page.after c bs n) (drop (n * 20) bs))

entry-is : (shown : Bool) (c : Script) (bs : List ℕ) → script.entry shown c bs ≡ page.entry shown c bs
unfolding script.entry script.script_next
entry-is shown c bs =
    ap (λ (r : Played). lines.answer_line (page.counted c) r.number r.count ++ cond (shown && r.built) (hosts.host_text r.host.system r.host.scheduler) [])
    (obey-is c bs)
    ∙ (let r = page.obey c bs in
    ap₂ (λ (l m : List ℕ). l ++ cond (shown && r.built) m []) (answer-line-is (page.counted c) r.number r.count)
    (host-text-is r.host.system r.host.scheduler))

-- `replay` is false, `trace` true
pub text-is : (shown : Bool) (c : Script) (bs : List ℕ) (n : ℕ) → script.text shown c bs n ≡ page.text shown c bs n
unfolding script.text page.text times
text-is shown c bs zero = refl
text-is shown c bs (suc n) =
    ap₂ ◌++◌ (text-is shown c bs n)
    (ap (λ (r : Script). script.entry shown r (drop (n * 20) bs)) (after_is c bs n)
    ∙ entry-is shown (page.after c bs n) (drop (n * 20) bs))

pub output-is : (shown : Bool) (bs : List ℕ) → script.text shown script.begun bs (script.records_in bs)
    ≡ page.output shown bs
output-is shown bs =
    ap (λ (c : Script). script.text shown c bs (script.records_in bs)) begun-is
    ∙ text-is shown page.begun bs (page.records bs)

-- the script that document 01 shows
pub example-is : page.output false example ≡ ascii "1 0 0\n2 0 0\n3 0 0\n4 0 1\n5 0 0\n6 0 2\n7 5 0\n"
example-is = sym (output-is false example)
    ∙ (ap (script.text false script.begun example) example-records ∙ example-text)

taken_is : (shown : Bool) (bs out : List ℕ) → script.taken shown bs out ≡ page.taken shown bs out
taken_is true bs out = refl
taken_is false bs out = refl

-- what `replay` hands back, and what it leaves of the script and of the bytes that it writes over
pub record ReplayedOnPage (shown : Bool) (c : Script) (bs before : List ℕ) (after : Script) (r : Taken) (out : List ℕ) : Type 0 where
  pub script : after ≡ page.replayed_script shown c bs before
  pub handed_back : r ≡ page.replayed shown c bs before
  pub bytes_after : out ≡ page.replayed_out shown c bs before

pub replayed-is : (shown : Bool) (c : Script) (bs before : List ℕ) (after : Script) (r : Taken) (out : List ℕ)
    → Replayed shown c bs (script.taken shown bs before) before after r out → ReplayedOnPage shown c bs before after r out
replayed-is shown c bs before after r out h =
    let n = page.taken shown bs before in
    let same : script.text shown c bs (script.taken shown bs before) ≡ page.text shown c bs n =
    ap (script.text shown c bs) (taken_is shown bs before) ∙ text-is shown c bs n in
    let a : after ≡ page.after c bs n =
    h.script ∙ (ap (script.script_after c bs) (taken_is shown bs before) ∙ after_is c bs n) in
    let b : r.records ≡ n = h.records ∙ taken_is shown bs before in
    let w : r.written ≡ length (page.text shown c bs n) = h.placed.past ∙ (zero-add _ ∙ ap length same) in
    record { script = a; handed_back = λ i. record { records = b i; written = w i }; bytes_after = h.placed.bytes ∙ ap (put before 0) same }
