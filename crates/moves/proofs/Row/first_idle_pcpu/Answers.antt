-- What `moves::Row::first_idle_pcpu` leaves to show. Assumes nothing.
use Rattle.std.proofs.Common.{◌∙◌}
use Rattle.masks.specs.Laws.{lowest-and}
use Rattle.moves.proofs.Row.first_idle_pcpu.Goals as goal

pub returns : goal.returns
returns c = c.lowest_pcpu.ensures ∙ lowest-and _ _
