-- `text::numbers_line` meets its contract. Assumes nothing.
use Rattle.std.proofs.Common.{zero-le, arith}
use Rattle.text.specs.Lines.{numbers_line}
use Rattle.text.specs.Places.{placed-then, line-of, text-of}
use Rattle.text.proofs.numbers_line.Goals as goal

pub returns : goal.returns
unfolding numbers_line
returns c =
    let put = placed-then zero-le c.put_fields-a.ensures.placed c.put_byte-length.ensures in
    record { line = line-of put; text = text-of put; within = omega (arith, c.put_byte-length.ensures.past) }
