-- After d turns of the loop the first d lines are stored. Assumes nothing.
use Rattle.std.proofs.Common.{◌≡◌}
use Rattle.std.proofs.lemmas.List.Edits.{sets}
use Rattle.usage_layout.specs.Layout.{each, entry}
use Rattle.usage_write.proofs.put_entries.Given as goal

abbrev pub invariant-loop-d : goal.invariant-loop-d
invariant-loop-d l = l.out ≡ sets l.fn.out 6 (each l.d (entry l.n l.k))
