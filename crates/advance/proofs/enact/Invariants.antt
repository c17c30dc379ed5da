-- The loop of `advance::enact`: the moves so far are done. Assumes nothing.
use Rattle.std.proofs.Common.{◌≡◌}
use Rattle.std.specs.Prelude.{map, take}
use Rattle.moves.specs.Settling.{choice_of}
use Rattle.settling.specs.AfterMoves.{after_moves}
use Rattle.advance.proofs.enact.Given as goal

abbrev pub invariant-loop-m : goal.invariant-loop-m
invariant-loop-m l = l.s ≡ after_moves l.fn.s l.now (map choice_of (take l.m-index l.log))
