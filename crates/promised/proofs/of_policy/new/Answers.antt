-- `promised::of_policy::new` meets its contract. Assumes nothing.
use Rattle.page.proofs.Laws.{hands-new-policy}
use Rattle.promised.proofs.of_policy.new.Goals as goal

pub returns : goal.returns
returns c = hands-new-policy c.args.num_domains c.args.vcpus_per_domain c.args.quantum _ c.new.ensures.built c.new.ensures.refused
