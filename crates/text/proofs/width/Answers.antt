-- `text::width` meets its contract. Assumes nothing.
use Rattle.std.proofs.Common.{length, ap, sym, arith}
use Rattle.text.proofs.DigitsInPlace.{decimal-one, decimal-width}
use Rattle.text.proofs.width.Goals as goal

pub returns-in-None : goal.returns-in-None
returns-in-None c = sym (ap length (decimal-one c.args.n (omega (arith, c.in-None.ensures.none))))

pub returns-in-Some : goal.returns-in-Some
returns-in-Some c =
    let said = c.in-Some.ensures in
    sym (decimal-width c.in-Some.k c.args.n said.bound said.power_le said.next_power_gt)
