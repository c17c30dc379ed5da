-- `text::put_number` meets its contract. Assumes nothing.
use Rattle.std.proofs.Common.{◌+◌, length, refl, ap, arith}
use Rattle.text.specs.Lengths.{decimal-short}
use Rattle.text.proofs.DigitsInPlace.{decimal-one, decimal-is, written-placed}
use Rattle.text.proofs.put_number.Goals as goal

pub returns-then-n-lt10-clause-placed : goal.returns-then-n-lt10-clause-placed
returns-then-n-lt10-clause-placed c = rw (decimal-one c.args.n (omega arith)) c.put_byte.ensures

pub overflow_add-end : goal.overflow_add-end
overflow_add-end c = omega (arith, c.width.ensures, decimal-short c.args.n)

pub write_digits-requires : goal.write_digits-requires
write_digits-requires c =
    let same = ap length (decimal-is c.args.n c.ranges.n.fits) in
    (omega (arith, same, c.width.ensures), omega (arith, c.width.ensures, decimal-short c.args.n))

pub returns-clause-placed : goal.returns-clause-placed
returns-clause-placed c =
    let a = c.args in
    let put = c.write_digits.ensures in
    written-placed _ _ _ a.n a.at _ _ c.ranges.n.fits (ap (λ k. a.at + k) c.width.ensures) refl put.start put.written put.before

pub returns-clause-upper_bound : goal.returns-clause-upper_bound
returns-clause-upper_bound c = omega (arith, c.width.ensures, decimal-short c.args.n)
