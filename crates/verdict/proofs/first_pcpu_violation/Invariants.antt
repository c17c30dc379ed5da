-- Nothing that was passed is in violation. Assumes nothing.
use Rattle.std.specs.Prelude.{None}
use Rattle.std.proofs.Common.{◌≡◌}
use Rattle.verdict.specs.Violations.{pcpu_violation, earliest}
use Rattle.verdict.proofs.first_pcpu_violation.Given as goal

abbrev pub invariant-loop-p : goal.invariant-loop-p
invariant-loop-p l = earliest (pcpu_violation l.fn.s) l.p ≡ None
