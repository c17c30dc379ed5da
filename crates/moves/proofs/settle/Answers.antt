-- What `moves::settle` leaves to show. Assumes nothing.
use Rattle.std.proofs.Common.{arith}
use Rattle.std.proofs.Math.Nat.{mod-eq_of_lt}
use Rattle.std.proofs.Math.Path.{ap₂}
use Rattle.moves.specs.declared.Choice.TheVariants.{Run, Preempt}
use Rattle.moves.proofs.SettleLoop.{starts, goes_on, rests, ends}
use Rattle.moves.proofs.settle.Goals as goal

pub loop-left-init : goal.loop-left-init
loop-left-init c = starts _ c.told-log

pub loop-left-preserved-in-Run : goal.loop-left-preserved-in-Run
loop-left-preserved-in-Run c =
    let w = c.in-Run.ensures.within in
    goes_on c.loop-left.invariant (Run c.in-Run.at c.in-Run.pcpu) _ _ _ c.loop-left-test.true (omega arith) c.in-Run.ensures.next
    (ap₂ Run (mod-eq_of_lt w.0) (mod-eq_of_lt w.1))

pub loop-left-preserved-in-Preempt : goal.loop-left-preserved-in-Preempt
loop-left-preserved-in-Preempt c =
    let w = c.in-Preempt.ensures.within in
    goes_on c.loop-left.invariant (Preempt c.in-Preempt.at c.in-Preempt.pcpu) _ _ _ c.loop-left-test.true (omega arith) c.in-Preempt.ensures.next
    (ap₂ Preempt (mod-eq_of_lt w.0) (mod-eq_of_lt w.1))

pub loop-left-preserved : goal.loop-left-preserved
loop-left-preserved c = rests c.loop-left.invariant _ _ c.loop-left-test.true c.in-Rest.ensures.next

pub returns-clause-count : goal.returns-clause-count
returns-clause-count c = rw (← c.min-left.ensures) (ends c.loop-left.invariant (omega (arith, c.loop-left-test.false)) (omega arith)).many

pub returns-clause-logged : goal.returns-clause-logged
returns-clause-logged c = rw (← c.min-left.ensures) (ends c.loop-left.invariant (omega (arith, c.loop-left-test.false)) (omega arith)).each
