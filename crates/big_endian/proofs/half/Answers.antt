-- `big_endian::half` meets its contract. Assumes nothing.
use Rattle.std.proofs.Common.{rules}
use Rattle.big_endian.specs.Numbers.{number}
use Rattle.big_endian.proofs.half.Goals as goal

pub returns : goal.returns
unfolding number
returns c = search rules
