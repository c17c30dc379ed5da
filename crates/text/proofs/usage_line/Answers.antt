-- `text::usage_line` meets its contract. Assumes nothing.
use Rattle.std.proofs.Common.{zero-le, arith}
use Rattle.text.specs.Lines.{usage_line}
use Rattle.text.specs.Places.{placed-then, line-of, text-of}
use Rattle.text.proofs.usage_line.Goals as goal

pub returns : goal.returns
unfolding usage_line
returns c =
    let named = placed-then zero-le c.put_number-a.ensures.placed c.put_field-b.ensures.placed in
    let weighed = placed-then zero-le (placed-then zero-le named c.put_field-c.ensures.placed) c.put_byte-d.ensures in
    let put = placed-then zero-le (placed-then zero-le weighed c.put_wide-e.ensures.placed) c.put_byte-length.ensures in
    record { line = line-of put; text = text-of put; within = omega (arith, c.put_byte-length.ensures.past) }
