-- The pool lists in the page's words are those of demand 3, both ways. Assumes nothing.
use Prim.Native.Nat.{ℕ, ◌≤◌, min}
use mathlib.Core.List.{List}
use mathlib.Core.Path.{◌≡◌}
use mathlib.Core.Logic.{◌↔◌}
use native.Mathlib.Omega.{arith}
use Rattle.host.specs.declared.Host.{Host}
use Rattle.calls.specs.declared.Call.{Call}
use Rattle.demand3.specs.Book.{Book}
use Rattle.demand3.specs.ServiceMachine.{service_machine}
use Rattle.demand3.specs.Lists as lists
use Rattle.demand3.proofs.Laws.{Kept, step-goes, service_lawful}
use Rattle.page.specs.Book.{Shape}
use Rattle.page.specs.Lists as page
use Rattle.page.proofs.ByIds.{shape}
use Rattle.page.proofs.CallLists.{refused-is, left_is}

departs : {c : Call} → page.Departs c ↔ lists.Departs c
departs = (there, back)
  where
    there : {c : Call} → page.Departs c → lists.Departs c
    there (page.Departs.block d v now) = lists.Departs.block d v now
    there (page.Departs.offline d v now) = lists.Departs.offline d v now
    there (page.Departs.offline-all d now) = lists.Departs.offline-all d now

    back : {c : Call} → lists.Departs c → page.Departs c
    back (lists.Departs.block d v now) = page.Departs.block d v now
    back (lists.Departs.offline d v now) = page.Departs.offline d v now
    back (lists.Departs.offline-all d now) = page.Departs.offline-all d now

-- ---- after the first advance

pool-rest : {g : ℕ} {h : Host} {t : ℕ} {cs : List Call} → page.PoolRest g h t cs → lists.PoolRest service_machine g h t cs
pool-rest page.PoolRest.done = lists.PoolRest.done
pool-rest {g} (page.PoolRest.advances {h} {t} {n} {cs} a b r) =
    lists.PoolRest.advances a b ((left_is (λ i. lists.PoolRest service_machine g i n cs) h (Call.Advance n)).0 (pool-rest r))
pool-rest {g} (page.PoolRest.departs {h} {t} {c} {cs} x r) =
    lists.PoolRest.departs (departs.0 x) ((left_is (λ i. lists.PoolRest service_machine g i t cs) h c).0 (pool-rest r))
pool-rest {g} (page.PoolRest.boosts {h} {t} {on} {cs} r) =
    lists.PoolRest.boosts ((left_is (λ i. lists.PoolRest service_machine g i t cs) h (Call.SetWakeBoost on)).0 (pool-rest r))
pool-rest {g} (page.PoolRest.refused {h} {t} {c} {cs} x r) =
    lists.PoolRest.refused ((refused-is h c).0 x) ((left_is (λ i. lists.PoolRest service_machine g i t cs) h c).0 (pool-rest r))

of-pool-rest : {g : ℕ} {h : Host} {t : ℕ} {cs : List Call} → lists.PoolRest service_machine g h t cs → page.PoolRest g h t cs
of-pool-rest lists.PoolRest.done = page.PoolRest.done
of-pool-rest {g} (lists.PoolRest.advances {h} {t} {n} {cs} a b r) =
    page.PoolRest.advances a b ((left_is (λ i. page.PoolRest g i n cs) h (Call.Advance n)).1 (of-pool-rest r))
of-pool-rest {g} (lists.PoolRest.departs {h} {t} {c} {cs} x r) =
    page.PoolRest.departs (departs.1 x) ((left_is (λ i. page.PoolRest g i t cs) h c).1 (of-pool-rest r))
of-pool-rest {g} (lists.PoolRest.boosts {h} {t} {on} {cs} r) =
    page.PoolRest.boosts ((left_is (λ i. page.PoolRest g i t cs) h (Call.SetWakeBoost on)).1 (of-pool-rest r))
of-pool-rest {g} (lists.PoolRest.refused {h} {t} {c} {cs} x r) =
    page.PoolRest.refused ((refused-is h c).1 x) ((left_is (λ i. page.PoolRest g i t cs) h c).1 (of-pool-rest r))

-- ---- before it

module _ (k : Shape) (few : k.pcpus ≤ 64) where
  prepares : (n : ℕ) → n ≡ k.pcpus → {c : Call} → page.Prepares k c ↔ lists.Prepares n c
  prepares n e = (there, back)
    where
      size : min n 64 ≡ k.pcpus
      size = omega (arith, few)

      there : {c : Call} → page.Prepares k c → lists.Prepares n c
      there (page.Prepares.admit d v) = lists.Prepares.admit d v
      there (page.Prepares.block d v now) = lists.Prepares.block d v now
      there (page.Prepares.wake d v) = lists.Prepares.wake d v
      there (page.Prepares.offline d v now) = lists.Prepares.offline d v now
      there (page.Prepares.offline-all d now) = lists.Prepares.offline-all d now
      there (page.Prepares.mask d v m x) = lists.Prepares.mask d v m (rw size x)
      there (page.Prepares.weigh d v w) = lists.Prepares.weigh d v w
      there (page.Prepares.boost on) = lists.Prepares.boost on

      back : {c : Call} → lists.Prepares n c → page.Prepares k c
      back (lists.Prepares.admit d v) = page.Prepares.admit d v
      back (lists.Prepares.block d v now) = page.Prepares.block d v now
      back (lists.Prepares.wake d v) = page.Prepares.wake d v
      back (lists.Prepares.offline d v now) = page.Prepares.offline d v now
      back (lists.Prepares.offline-all d now) = page.Prepares.offline-all d now
      back (lists.Prepares.mask d v m x) = page.Prepares.mask d v m (rw (← size) x)
      back (lists.Prepares.weigh d v w) = page.Prepares.weigh d v w
      back (lists.Prepares.boost on) = page.Prepares.boost on

  -- a call keeps the host in step with its book, so that it has as many pCPUs
  pub pool_list : {g : ℕ} {h : Host} {b : Book} {cs : List Call} → Kept service_machine (shape k) b h
      → page.PoolFrom k g h cs → lists.PoolList service_machine g h cs
  pool_list K page.PoolFrom.done = lists.PoolList.done
  pool_list {g} K (page.PoolFrom.prepares {h} {c} {cs} x r) =
      lists.PoolList.prepares ((prepares _ K.in_step.shaped.pcpus).0 x)
      ((left_is (λ i. lists.PoolList service_machine g i cs) h c).0
      (pool_list ((left_is (Kept service_machine (shape k) _) h c).1 (step-goes service_lawful c K).kept) r))
  pool_list {g} K (page.PoolFrom.refused {h} {c} {cs} x r) =
      lists.PoolList.refused ((refused-is h c).0 x)
      ((left_is (λ i. lists.PoolList service_machine g i cs) h c).0
      (pool_list ((left_is (Kept service_machine (shape k) _) h c).1 (step-goes service_lawful c K).kept) r))
  pool_list {g} K (page.PoolFrom.starts {h} {n} {cs} r) =
      lists.PoolList.starts ((left_is (λ i. lists.PoolRest service_machine g i n cs) h (Call.Advance n)).0 (pool-rest r))

  pub of-pool_list : {g : ℕ} {h : Host} {b : Book} {cs : List Call} → Kept service_machine (shape k) b h
      → lists.PoolList service_machine g h cs → page.PoolFrom k g h cs
  of-pool_list K lists.PoolList.done = page.PoolFrom.done
  of-pool_list {g} K (lists.PoolList.prepares {h} {c} {cs} x r) =
      page.PoolFrom.prepares ((prepares _ K.in_step.shaped.pcpus).1 x)
      ((left_is (λ i. page.PoolFrom k g i cs) h c).1 (of-pool_list (step-goes service_lawful c K).kept r))
  of-pool_list {g} K (lists.PoolList.refused {h} {c} {cs} x r) =
      page.PoolFrom.refused ((refused-is h c).1 x)
      ((left_is (λ i. page.PoolFrom k g i cs) h c).1 (of-pool_list (step-goes service_lawful c K).kept r))
  of-pool_list {g} K (lists.PoolList.starts {h} {n} {cs} r) =
      page.PoolFrom.starts ((left_is (λ i. page.PoolRest g i n cs) h (Call.Advance n)).1 (of-pool-rest r))
