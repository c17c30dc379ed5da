-- `policy::Share::lifted` meets its contract. Assumes nothing.
use Rattle.std.proofs.Common.{◌∙◌}
use Rattle.service.specs.Service.{value}
use Rattle.policy.proofs.Lifts.{lifts}
use Rattle.policy.proofs.Share.lifted.Goals as goal

pub returns : goal.returns
returns c =
    c.difference.ensures
    ∙ rw (c.from_u64.ensures, c.quotient-worth.ensures, c.product.ensures)
    (lifts (value c.args.self.now.service) c.args.self.now.weight c.args.weight c.args.runtime)
