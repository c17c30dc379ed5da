-- `big_endian::word_bytes` meets its contract. Assumes nothing.
use Rattle.std.proofs.Common.{◌/◌, ◌<◌, arith, mod-eq_of_lt}
use native.Mathlib.Nat.{div-one}
use Rattle.big_endian.specs.Numbers.{bytes}
use Rattle.big_endian.proofs.word_bytes.Goals as goal

pub returns : goal.returns
unfolding bytes
returns c =
    let upper : c.args.n / 16777216 < 256 = omega arith in
    simp (div-one, mod-eq_of_lt upper)
