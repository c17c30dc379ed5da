-- The loop of `verdict::invariants_hold`: what it has tested is the definition's soundness as far as slot i. Assumes nothing.
use Rattle.verdict.proofs.Testing.{Testing}
use Rattle.verdict.proofs.invariants_hold.Given as goal

abbrev pub invariant-loop-i : goal.invariant-loop-i
invariant-loop-i l = Testing l.fn.s l.sound l.running l.i
