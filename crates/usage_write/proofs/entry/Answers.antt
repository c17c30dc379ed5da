-- `usage_write::entry` meets its contract: the count is stored right behind the offset. Assumes nothing.
use Rattle.std.proofs.Common.{◌∙◌, replicate, arith}
use Rattle.big_endian.specs.Numbers.{bytes}
use Rattle.big_endian.specs.Laws.{length-bytes}
use Rattle.big_endian.specs.Stores.{stored-behind}
use Rattle.usage_layout.specs.Layout.{start}
use Rattle.usage_layout.proofs.Laws.{entry_length}
use Rattle.usage_write.proofs.Stores.{stored-whole}
use Rattle.usage_write.proofs.entry.Goals as goal

pub returns : goal.returns
returns c =
    let a = c.args in
    let offset = start a.n a.k a.d in
    stored-behind (replicate 6 0) 0 (bytes 4 offset) (bytes 2 a.k) c.put_at.ensures c.put_at-2.ensures (omega (arith, length-bytes 4 offset))
    ∙ stored-whole (replicate 6 0) _ (entry_length a.n a.k a.d)
