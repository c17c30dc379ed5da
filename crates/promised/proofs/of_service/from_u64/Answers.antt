-- `promised::of_service::from_u64` meets its contract: 64 bits are held whole. Assumes nothing.
use borrow.Author.Rules.{rules}
use Prim.Native.Nat.{◌<◌, ◌^◌}
use mathlib.Core.Path.{refl}
use native.Mathlib.Nat.{lt_trans}
use lib.Dec.{lit<}
use Rattle.service.specs.Laws.{exactly}
use Rattle.page.proofs.Laws.{whole_is}
use Rattle.promised.proofs.of_service.from_u64.Goals as goal

pub returns : goal.returns
returns c =
    let below : c.args.x < 2 ^ 64 = search rules in
    let e = exactly (lt_trans below (lit< tt)) c.from_u64.ensures in
    (whole_is _ _ _ e.0 e.1 refl).0
