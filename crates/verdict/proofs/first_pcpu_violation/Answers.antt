-- What one turn of the scan of the pCPUs finds is what the definition says. Assumes nothing.
use Rattle.std.proofs.Common.{refl, sym, ◌∙◌, add-one, arith}
use Rattle.system.specs.Reads.{vcpu_at, occupant_at}
use Rattle.verdict.specs.Violations.{pcpu_violation, earliest}
use Rattle.verdict.proofs.VerdictScan.{is-clean, step, stop, counts, pcpu-told}
use Rattle.verdict.proofs.first_pcpu_violation.Goals as goal

pub loop-p-init : goal.loop-p-init
unfolding earliest
loop-p-init c = refl

pub returns-then-is_some : goal.returns-then-is_some
unfolding vcpu_at occupant_at
returns-then-is_some c =
    let s = c.args.s.now in
    stop (pcpu_violation s) c.loop-p.p _ c.loop-p.invariant
    (pcpu-told s c.requires c.loop-p.p _ _ c.holder_slot.ensures c.pcpu_violation-found.ensures)
    (sym c.is_some.ensures ∙ c.if-is_some.true)
    (omega (arith, counts s c.requires))

pub loop-p-preserved : goal.loop-p-preserved
unfolding vcpu_at occupant_at
loop-p-preserved c =
    let s = c.args.s.now in
    let told = pcpu-told s c.requires c.loop-p.p _ _ c.holder_slot.ensures c.pcpu_violation-found.ensures in
    let clean = sym told ∙ is-clean _ (sym c.is_some.ensures ∙ c.if-is_some.false) in
    rw add-one (step (pcpu_violation s) c.loop-p.p c.loop-p.invariant clean)
