-- `promised::of_system::runtime_until` meets its contract. Assumes nothing.
use Rattle.std.proofs.Common.{ℕ, ◌+◌, ap}
use Rattle.page.proofs.Laws.{whole_is, flight-is}
use Rattle.promised.proofs.of_system.runtime_until.Goals as goal

pub returns : goal.returns
returns c =
    let said = c.runtime_until.ensures in
    let e = whole_is _ _ _ said.held said.exact (ap (λ (n : ℕ). c.args.v.now.runtime + n) (flight-is c.args.v.now c.args.now)) in
    record { limbs = e.0; exact = e.1 }
