-- The loop of `moves::some_affine_waiter_beats`. Assumes nothing.
use Rattle.std.proofs.Common.{◌≡◌, false}
use Rattle.moves.specs.Decide.{beaten}
use Rattle.moves.specs.Table.{tabled}
use Rattle.moves.proofs.some_affine_waiter_beats.Given as goal

abbrev pub invariant-loop-row : goal.invariant-loop-row
invariant-loop-row l = beaten (tabled l.rows 0) l.row-index l.runner.at ≡ false
