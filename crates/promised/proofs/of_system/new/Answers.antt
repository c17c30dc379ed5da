-- `promised::of_system::new` meets its contract. Assumes nothing.
use Rattle.page.proofs.Laws.{hands-new-system}
use Rattle.promised.proofs.of_system.new.Goals as goal

pub returns : goal.returns
returns c = hands-new-system c.args.num_domains c.args.vcpus_per_domain c.args.num_pcpus _ c.new.ensures.built c.new.ensures.refused
