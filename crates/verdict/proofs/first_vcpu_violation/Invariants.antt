-- Nothing that was passed is in violation. Assumes nothing.
use Rattle.std.specs.Prelude.{None}
use Rattle.std.proofs.Common.{◌≡◌}
use Rattle.verdict.specs.Violations.{slot_violation, earliest}
use Rattle.verdict.proofs.first_vcpu_violation.Given as goal

abbrev pub invariant-loop-i : goal.invariant-loop-i
invariant-loop-i l = earliest (slot_violation l.fn.s) l.i ≡ None
