-- `promised::of_advance::advance` meets its contract. Assumes nothing.
use Rattle.page.proofs.Laws.{hands-advance}
use Rattle.promised.proofs.of_advance.advance.Goals as goal

pub returns : goal.returns
returns c = hands-advance _ _ _ _ _ _ c.advance.ensures
