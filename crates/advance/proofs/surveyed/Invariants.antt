-- The loop of `advance::surveyed`: each slot so far was looked at. Assumes nothing.
use Rattle.advance.specs.Survey.{Seen}
use Rattle.advance.proofs.surveyed.Given as goal

abbrev pub invariant-loop-i : goal.invariant-loop-i
invariant-loop-i l = Seen l.s l.accounts l.quantum l.now l.survey l.i
