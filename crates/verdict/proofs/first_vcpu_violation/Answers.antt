-- What one turn of the scan of the slots finds is what the definition says. Assumes nothing.
use Rattle.std.specs.Prelude.{None}
use Rattle.std.proofs.Common.{◌≡◌, refl, sym, ◌∙◌, add-one, arith}
use Rattle.system.specs.Reads.{vcpu_at, occupant_at}
use Rattle.verdict.specs.Violations.{slot_violation, earliest}
use Rattle.verdict.proofs.VerdictScan.{is-clean, step, stop, counts, slot-told, slot-absent}
use Rattle.verdict.proofs.first_vcpu_violation.Goals as goal
use Rattle.verdict.proofs.first_vcpu_violation.Goals.{then-i-s+else-is_some, else-i-s}

pub loop-i-init : goal.loop-i-init
unfolding earliest
loop-i-init c = refl

pub returns-then-is_some : goal.returns-then-is_some
unfolding vcpu_at occupant_at
returns-then-is_some c =
    let s = c.args.s.now in
    stop (slot_violation s) c.loop-i.i _ c.loop-i.invariant
    (slot-told s c.requires c.loop-i.i _ _ c.if-i-s.true c.pcpu_index.ensures c.vcpu_violation-found.ensures)
    (sym c.is_some.ensures ∙ c.if-is_some.true)
    (omega (arith, counts s c.requires))

pub loop-i-preserved : goal.loop-i-preserved
unfolding vcpu_at occupant_at
loop-i-preserved c =
    let s = c.args.s.now in
    let i = c.loop-i.i in
    let clean : slot_violation s i ≡ None =
    elim c.if-i-s.branch [
      | then-i-s+else-is_some w ↦
          sym (slot-told s c.requires i _ _ w.if-i-s.true w.pcpu_index.ensures w.vcpu_violation-found.ensures)
          ∙ is-clean _ (sym w.is_some.ensures ∙ w.if-is_some.false)
      | else-i-s w ↦ slot-absent s c.requires i w.if-i-s.false
    ] in
    rw add-one (step (slot_violation s) i c.loop-i.invariant clean)
