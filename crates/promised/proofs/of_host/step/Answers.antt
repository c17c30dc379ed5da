-- `promised::of_host::step` meets its contract. Assumes nothing.
use Rattle.page.proofs.Laws.{hands-step}
use Rattle.promised.proofs.of_host.step.Goals as goal

pub returns : goal.returns
returns c = hands-step _ _ _ _ c.step.ensures.stepped
