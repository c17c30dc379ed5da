-- `promised::of_advance::next` meets its contract. Assumes nothing.
use Rattle.page.proofs.Laws.{hands-decision}
use Rattle.promised.proofs.of_advance.next.Goals as goal

pub returns : goal.returns
returns c = hands-decision _ _ _ _ c.next.ensures.recommended c.next.ensures.refused
