-- The loop of `advance::tabulate`: the table has each slot so far. Assumes nothing.
use Rattle.settling.specs.TableOf.{TableOf}
use Rattle.advance.specs.ServiceRule.{rule_of}
use Rattle.advance.proofs.tabulate.Given as goal

abbrev pub invariant-loop-i : goal.invariant-loop-i
invariant-loop-i l = TableOf l.s (rule_of l.p) l.now l.table l.i
