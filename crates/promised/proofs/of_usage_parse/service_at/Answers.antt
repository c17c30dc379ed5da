-- `promised::of_usage_parse::service_at` meets its contract. Assumes nothing.
use Rattle.page.proofs.Laws.{whole_is, service-of-body-is}
use Rattle.promised.proofs.of_usage_parse.service_at.Goals as goal

pub returns : goal.returns
returns c =
    let said = c.service_at.ensures in
    let e = whole_is _ _ _ said.held said.exact (service-of-body-is c.args.body.now c.args.vcpu) in
    record { limbs = e.0; exact = e.1 }
