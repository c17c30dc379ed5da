-- `read_at` of a `u16` meets its contract. Assumes nothing.
use Rattle.std.proofs.Common.{◌∙◌, arith}
use Rattle.big_endian.proofs.Std.{read-half, number-there}
use Rattle.big_endian.proofs.U16BigEndian.read_at.Goals as goal

pub returns-then-saturating_add-bytes : goal.returns-then-saturating_add-bytes
returns-then-saturating_add-bytes c =
    read-half _ c.first_chunk.ensures.cases c.unwrap.ensures c.from_be_bytes.ensures ∙ number-there c.args.bytes.now c.args.at 2

pub returns-else-saturating_add-bytes : goal.returns-else-saturating_add-bytes
returns-else-saturating_add-bytes c =
    read-half _ c.first_chunk-else-saturating_add-bytes.ensures.cases c.unwrap-else-saturating_add-bytes.ensures
    c.from_be_bytes-else-saturating_add-bytes.ensures
    ∙ c.over_the_end.ensures 2 (omega arith)
