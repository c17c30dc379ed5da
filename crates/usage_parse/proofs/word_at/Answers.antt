-- `usage_parse::word_at` meets its contract. Assumes nothing.
use Rattle.std.proofs.Common.{◌+◌, ◌-◌, ◌≡◌, ◌∙◌, add-zero, arith}
use Rattle.big_endian.specs.Laws.{number-within}
use Rattle.usage_parse.proofs.word_at.Goals as goal

pub returns : goal.returns
returns c =
    let at = c.args.at in
    let size : at + 4 - at ≡ 4 = omega arith in
    c.read_at.ensures ∙ rw size (number-within c.args.s.now at 4 0 4 (omega arith) ∙ rw add-zero)
