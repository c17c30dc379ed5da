-- The loop of `moves::best_placement`. Assumes nothing.
use Rattle.moves.specs.Leads.{LeadsChosen}
use Rattle.moves.proofs.best_placement.Given as goal

abbrev pub invariant-loop-i : goal.invariant-loop-i
invariant-loop-i l = LeadsChosen l.rows l.idle l.i l.best
