-- The lists of which the page speaks are exactly those of demand 3: no list is left out. `all_Typed` says it of those that fit
-- their types; here it is said of those that form a pool, and of those whose clocks do not run back. Assumes nothing.
use Prim.Native.Nat.{ℕ}
use mathlib.Core.List.{List}
use mathlib.Core.Path.{sym}
use mathlib.Core.Logic.Iff
use mathlib.Core.Logic.{◌↔◌}
use Rattle.host.specs.declared.Host.{Host}
use Rattle.calls.specs.declared.Call.{Call}
use Rattle.demand3.specs.ServiceMachine.{service_machine}
use Rattle.demand3.specs.Lists as lists
use Rattle.demand3.proofs.Laws.{fresh_kept}
use Rattle.page.specs.Lists as page
use Rattle.page.specs.Lists.{Fresh, Sized}
use Rattle.page.specs.DatedMoves.{Forward}
use Rattle.page.proofs.CallLists.{along, forward, of-forward}
use Rattle.page.proofs.Pools.{pool_list, of-pool_list}
use Rattle.page.proofs.AtPoints.{whole, fresh, host-is}

module _ (f : Fresh) (sized : Sized f.shape) (cs : List Call) where
  pub same-pools : (g : ℕ) → page.PoolList f g cs ↔ lists.PoolList service_machine g (fresh f sized) cs
  same-pools g =
      let K = fresh_kept (whole f sized) in
      Iff.trans (along (λ (h : Host). page.PoolFrom f.shape g h cs) (sym (host-is f sized)))
      (pool_list f.shape sized.pcpus K, of-pool_list f.shape sized.pcpus K)

  pub same-forward : (c : ℕ) → Forward (page.host f) 0 cs c ↔ lists.Forward service_machine (fresh f sized) 0 cs c
  same-forward c = Iff.trans (along (λ (h : Host). Forward h 0 cs c) (sym (host-is f sized))) (forward, of-forward)
