-- `test_reads::put_reads` meets its contract. Assumes nothing.
use Rattle.std.proofs.Common.{◌≤◌, length, refl, ap, arith}
use Rattle.text.specs.Lines.{numbers_line}
use Rattle.text.specs.Places.{placed-then, placed_as}
use Rattle.test_reads.specs.Reads.{reads_text}
use Rattle.test_reads.proofs.put_reads.Goals as goal

pub returns : goal.returns
unfolding reads_text
returns c =
    let room : c.args.at ≤ length c.args.out.now = omega arith in
    placed-then room
    (placed-then room
    (placed-then room
    (placed-then room (placed_as c.put_numbers-a.ensures.placed (ap numbers_line c.vcpu_numbers.ensures) refl refl)
    (placed_as c.put_numbers-b.ensures.placed (ap numbers_line c.domain_numbers.ensures) refl refl))
    (placed_as c.put_numbers-c.ensures.placed (ap numbers_line c.host_numbers.ensures) refl refl))
    (placed_as c.put_numbers-d.ensures.placed (ap numbers_line c.move_numbers.ensures) refl refl))
    (placed_as c.put_numbers.ensures.placed (ap numbers_line c.kept.ensures) refl refl)
