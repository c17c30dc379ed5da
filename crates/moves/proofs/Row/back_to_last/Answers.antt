-- What `moves::Row::back_to_last` leaves to show. Assumes nothing.
use Rattle.masks.specs.Laws.{and-permits}
use Rattle.moves.proofs.Row.back_to_last.Goals as goal

pub returns-then-mask_permits : goal.returns-then-mask_permits
returns-then-mask_permits c = rw (← and-permits c.args.idle c.args.self.now.mask c.args.self.now.last, ← c.mask_permits.ensures, c.if-mask_permits.true)

pub returns-else-mask_permits : goal.returns-else-mask_permits
returns-else-mask_permits c = rw (← and-permits c.args.idle c.args.self.now.mask c.args.self.now.last, ← c.mask_permits.ensures, c.if-mask_permits.false)
