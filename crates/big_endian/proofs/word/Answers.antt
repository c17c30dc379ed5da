-- `big_endian::word` meets its contract. Assumes nothing.
use Rattle.std.proofs.Common.{rules}
use Rattle.big_endian.specs.Numbers.{number}
use Rattle.big_endian.proofs.word.Goals as goal

pub returns : goal.returns
unfolding number
returns c = search rules
