-- `text::pcpu_line` meets its contract. Assumes nothing.
use Rattle.std.proofs.Common.{zero-le, arith}
use Rattle.text.specs.Lines.{pcpu_line}
use Rattle.text.specs.Places.{placed-then, line-of, text-of}
use Rattle.text.proofs.pcpu_line.Goals as goal

pub returns : goal.returns
unfolding pcpu_line
returns c =
    let opened = placed-then zero-le c.put_byte-a.ensures c.put_byte-b.ensures in
    let numbered = placed-then zero-le (placed-then zero-le opened c.put_field-c.ensures.placed) c.put_field-d.ensures.placed in
    let put = placed-then zero-le (placed-then zero-le numbered c.put_field-e.ensures.placed) c.put_byte-length.ensures in
    record { line = line-of put; text = text-of put; within = omega (arith, c.put_byte-length.ensures.past) }
