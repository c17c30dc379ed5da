-- `promised::of_host::new` meets its contract. Assumes nothing.
use Rattle.page.proofs.Laws.{hands-new-host}
use Rattle.promised.proofs.of_host.new.Goals as goal

pub returns : goal.returns
returns c = hands-new-host _ _ _ _ _ c.new.ensures.built c.new.ensures.refused
