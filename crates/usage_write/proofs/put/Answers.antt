-- `usage_write::put` meets its contract. Assumes nothing.
use Rattle.std.proofs.Common.{◌≡◌, length, arith, rules}
use Rattle.usage_write.proofs.Stores.{copied}
use Rattle.usage_write.proofs.put.Goals as goal

pub returns : goal.returns
returns c =
    let full : length c.args.out.now ≡ 2662 = search rules in
    copied c.args.out.now c.args.at c.copy_from_slice.ensures.after (omega (arith, full, c.requires))
