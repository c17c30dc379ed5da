-- `text::put_wide` meets its contract. Assumes nothing.
use Rattle.text.specs.Lines.{wide_decimal}
use Rattle.text.proofs.put_wide.Goals as goal

pub returns : goal.returns
unfolding wide_decimal
returns c = record { placed = c.put_digits.ensures.placed; upper_bound = c.put_digits.ensures.upper_bound }
