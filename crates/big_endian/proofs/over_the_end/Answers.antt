-- `over_the_end` meets its contract. Assumes nothing.
use Rattle.std.proofs.Common.{List, ℕ, ap, ◌∙◌}
use Rattle.big_endian.specs.Numbers.{number}
use Rattle.big_endian.proofs.Ends.{number-over}
use Rattle.big_endian.proofs.over_the_end.Goals as goal

pub returns : goal.returns
returns c n h = ap (λ (l : List ℕ). number l 0 n) c.put_what_fits.ensures ∙ number-over c.args.bytes.now c.args.at n c.min.ensures h
