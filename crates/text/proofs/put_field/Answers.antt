-- `text::put_field` meets its contract. Assumes nothing.
use Rattle.std.proofs.Common.{arith}
use Rattle.text.specs.Lines.{field}
use Rattle.text.specs.Places.{placed-then}
use Rattle.text.proofs.put_field.Goals as goal

pub returns : goal.returns
unfolding field
returns c =
    let number = c.put_number.ensures in
    let space = c.put_byte-past.ensures in record {
      placed = placed-then (omega (arith, c.requires)) space number.placed;
      upper_bound = omega (arith, number.upper_bound, space.past);
    }
