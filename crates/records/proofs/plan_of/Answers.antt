-- `records::plan_of` meets its contract. Assumes nothing.
use Rattle.std.proofs.Common.{◌≡◌, ◌∙◌, ap, Bool, length, le-ltb, ne_eqb}
use Rattle.records.specs.declared.Record.{Record}
use Rattle.records.specs.Records.{call_of, after_build, planned, plan_of}
use Rattle.records.proofs.plan_of.Goals as goal

calls : (built : Bool) (r : Record) → (r.kind ≡ 0 → ⊥) → after_build built (call_of r) ≡ planned built r
calls built r ne = rw (ne_eqb r.kind 0 ne)

pub returns : goal.returns
unfolding plan_of
returns c =
    let built = c.args.built in
    let r = c.record_of-r in
    rw (le-ltb (length c.args.bytes.now) 20 c.if-bytes-lt-RECORD.false)
    (c.after_build.ensures ∙ ap (after_build built) c.call_of.ensures ∙ calls built r.result c.if-r-eq0.false ∙ ap (planned built) r.ensures)
