-- `masks::pcpu_bit` meets its contract: entry p of the table is 2 ^ p. Assumes nothing.
use Rattle.std.proofs.Common.{◌^◌, lt-ltb}
use Rattle.masks.specs.Table.{entry}
use Rattle.masks.proofs.pcpu_bit.Goals as goal

pub returns-then-pcpu-lt64 : goal.returns-then-pcpu-lt64
returns-then-pcpu-lt64 c =
    let p = c.args.pcpu in
    let h = c.if-pcpu-lt64.true in
    rw (lt-ltb p 64 h) (entry (λ k. 2 ^ k) 64 p h)
