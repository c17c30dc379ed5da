-- Each clause of demand 3 that is of a pool list, on the largest host: all 128 are in the pool, so that 64 wait. For
-- every slice (the lag from 1 up) and every gap, none included, after an advance, a departure, a refused call and a
-- boost call. It is written out with the numbers themselves: a clause that said less, or fewer pool lists, would not
-- give it. Assumes nothing.
use Prim.Native.Nat.{ℕ, zero, suc, ◌+◌, ◌-◌, ◌*◌, ◌/◌, ◌%◌, ◌^◌, ◌≤◌, ◌<◌}
use mathlib.Core.Bool.{true, false}
use mathlib.Core.Path.{◌≡◌, refl}
use mathlib.Core.List.{List, [], ◌∷◌, ◌++◌}
use native.Mathlib.Omega.{arith}
use borrow.Author.Rules.{rules}
use Rattle.system.specs.declared.RunState.TheVariants.{Runnable}
use Rattle.system.specs.Shape.{fresh}
use Rattle.system.specs.States.{schedulable}
use Rattle.policy.specs.Accounts.{offset_of}
use Rattle.policy.specs.Standing.{service_at}
use Rattle.host.specs.declared.Host.{Host}
use Rattle.calls.specs.declared.Call.{Call}
use Rattle.calls.specs.Asked as call
use Rattle.host.specs.Step.{step}
use Rattle.demand3.specs.Book.{Shape, enter}
use Rattle.demand3.specs.ServiceMachine.{service_machine}
use Rattle.demand3.specs.Agreement.{PresentIn}
use Rattle.demand3.specs.Lists.{AllTyped, after_all, PoolList, latest, book_service}
use Rattle.demand3.specs.Lists as lists
use Rattle.demand3.specs.Weights.{weight_through}
use Rattle.demand3.specs.Fresh.{Fresh, first_host, host_at, book_at}
use Rattle.demand3.specs.InPool.{InPool}
use Rattle.demand3.specs.Demand3.{Demand-3}
use Rattle.demand3.proofs.Laws.{demand_3}
use Rattle.situations.proofs.Extremes.{largest-shape, largest-host, typed-both}
use Rattle.situations.proofs.LargestHost.{present}

abbrev k : Shape
k = largest-shape

last : PresentIn k 127
last = present 127 (omega arith)

last-but-one : PresentIn k 126
last-but-one = present 126 (omega arith)

-- every call that may set a pool up, and a run onto pCPU 64, which is refused
abbrev setup : List Call
setup =
    call.set_affinity 15 7 (2 ^ 64 - 1) ∷ call.run 15 7 64 (2 ^ 64 - 1) ∷ Call.SetWeight 15 7 (2 ^ 32 - 1) ∷ Call.SetWakeBoost false
    ∷ Call.SetWakeBoost true ∷ call.admit 15 7 ∷ call.block 15 7 (2 ^ 64 - 1) ∷ call.wake 15 7 ∷ call.offline 15 7 0
    ∷ Call.OfflineAll 15 (2 ^ 64 - 1) ∷ []

-- the vCPUs of the first n slots are admitted
unfoldable pub admits : ℕ → List Call
admits zero = []
admits (suc n) = call.admit (n / 8) (n % 8) ∷ admits n

-- two advances, the first at clock a, the second at the largest clock
abbrev advances : ℕ → List Call
advances a = Call.Advance a ∷ Call.Advance (2 ^ 64 - 1) ∷ []

abbrev pub start : ℕ → List Call
start a = setup ++ (admits 128 ++ advances a)

-- 0/0, 0/1 and domain 1 depart, at any clocks; a run is refused; the boost goes off and on
abbrev pub rest : List Call
rest =
    call.block 0 0 0 ∷ call.run 15 7 64 5 ∷ Call.SetWakeBoost false ∷ Call.SetWakeBoost true ∷ call.offline 0 1 (2 ^ 64 - 1)
    ∷ Call.OfflineAll 1 0 ∷ []

admits-typed : (n : ℕ) → n ≤ 128 → AllTyped (admits n)
unfolding admits
admits-typed zero l = tt
admits-typed (suc n) l = ((omega arith, omega arith, tt), admits-typed n (omega arith))

-- the slice is q; the first advance is at a, the second at most g later: g is 0 where a is the largest clock
module _ (q a g : ℕ) (early : a < 2 ^ 64) (near : 2 ^ 64 - 1 ≤ a + g) where
  abbrev f : Fresh
  f = largest-host 16 8 q

  abbrev cs : List Call
  cs = start a ++ rest

  holds : Demand-3 f cs
  holds =
      demand_3 f cs
      (typed-both (start a) rest
      (typed-both setup (admits 128 ++ advances a) (search rules)
      (typed-both (admits 128) (advances a) (admits-typed 128 (omega arith)) (early, (omega arith, tt))))
      (search rules))

  -- 0/0 departs, a run is refused, the boost is off
  abbrev departed : List Call
  departed = start a ++ (call.block 0 0 0 ∷ [])

  abbrev refusal : List Call
  refusal = start a ++ (call.block 0 0 0 ∷ call.run 15 7 64 5 ∷ [])

  abbrev unboosted : List Call
  unboosted = start a ++ (call.block 0 0 0 ∷ call.run 15 7 64 5 ∷ Call.SetWakeBoost false ∷ [])

  -- pCPU 64 is not there
  refused : (before after : List Call) (now : ℕ) → cs ≡ before ++ (call.run 15 7 64 now ∷ after)
      → (step (host_at f before) (call.run 15 7 64 now)).number ≡ 3
  unfolding enter
  refused before after now x = ((holds before _ x).call (call.run 15 7 64 now)).told

  admitted : (n : ℕ) (h : Host) {cs : List Call} → PoolList service_machine g (after_all service_machine h (admits n)) cs
      → PoolList service_machine g h (admits n ++ cs)
  unfolding after_all admits
  admitted zero h l = l
  admitted (suc n) h l = lists.prepares (lists.admit (n / 8) (n % 8)) (admitted n _ l)

  pool : PoolList service_machine g (first_host f) cs
  unfolding after_all fresh admits
  pool =
      lists.prepares (lists.mask 15 7 (2 ^ 64 - 1) refl)
      (lists.refused {h = host_at f masked} {c = call.run 15 7 64 (2 ^ 64 - 1)} (λ e. omega (arith, refused masked _ (2 ^ 64 - 1) refl))
      (lists.prepares (lists.weigh 15 7 (2 ^ 32 - 1)) (lists.prepares (lists.boost false) (lists.prepares (lists.boost true)
      (lists.prepares (lists.admit 15 7) (lists.prepares (lists.block 15 7 (2 ^ 64 - 1)) (lists.prepares (lists.wake 15 7)
      (lists.prepares (lists.offline 15 7 0) (lists.prepares (lists.offline-all 15 (2 ^ 64 - 1))
      (admitted 128 _
      (lists.starts (lists.advances {t = a} {n = 2 ^ 64 - 1} (omega arith) near
      (lists.departs (lists.block 0 0 0)
      (lists.refused {h = host_at f departed} {c = call.run 15 7 64 5} (λ e. omega (arith, refused departed _ 5 refl))
      (lists.boosts (lists.boosts
      (lists.departs (lists.offline 0 1 (2 ^ 64 - 1)) (lists.departs (lists.offline-all 1 0) lists.done))))))))))))))))))
    where
      masked : List Call
      masked = call.set_affinity 15 7 (2 ^ 64 - 1) ∷ []

  -- ---- at the points: after an advance, a departure, a refused call, the boost off; and at the end

  pooled : (before after : List Call) → cs ≡ before ++ after → InPool f before g
  pooled before after x = (holds before after x).pool g pool

  -- how far the last slot, of the largest weight, is ahead of the one before it, of weight 256, which waits
  abbrev Lags : List Call → Type 0
  Lags before =
      let b = book_at f before in
      (r : ℕ) → r ≤ 2 ^ 64 - 1 + g → schedulable (b 127).state ≡ true → (b 126).state ≡ Runnable
      → book_service b r 127 * 256 ≤ book_service b r 126 * (2 ^ 32 - 1) + (q + g - 1) * 256

  pub lag-there : 1 ≤ q → Lags (start a) × Lags departed × Lags refusal × Lags unboosted × Lags cs
  unfolding latest weight_through admits
  lag-there sliced = (
    λ r l. (pooled (start a) _ refl).lag sliced (2 ^ 64 - 1) r refl l 127 126 last last-but-one,
    λ r l. (pooled departed _ refl).lag sliced (2 ^ 64 - 1) r refl l 127 126 last last-but-one,
    λ r l. (pooled refusal _ refl).lag sliced (2 ^ 64 - 1) r refl l 127 126 last last-but-one,
    λ r l. (pooled unboosted _ refl).lag sliced (2 ^ 64 - 1) r refl l 127 126 last last-but-one,
    λ r l. (pooled cs _ refl).lag sliced (2 ^ 64 - 1) r refl l 127 126 last last-but-one,
  )

  -- nobody has an offset, before the first advance neither, so that all are ranked by the book's service, at readings up to the largest
  abbrev Plain : List Call → Type 0
  Plain before =
      let h' = host_at f before in
      ((i : ℕ) → offset_of h'.scheduler (i / 8) (i % 8) ≡ 0)
      × ((r i : ℕ) → r < 2 ^ 64 → i < 128 → service_at h'.system h'.scheduler r i ≡ book_service (book_at f before) r i)

  plain : (before after : List Call) → cs ≡ before ++ after → Plain before
  plain before after x = let y = pooled before after x in (y.offsets, λ r i l m. y.services r l i (present i m))

  pub plain-there : Plain setup × Plain (start a) × Plain departed × Plain refusal × Plain unboosted × Plain cs
  unfolding admits
  plain-there = (
    plain setup _ refl,
    plain (start a) _ refl,
    plain departed _ refl,
    plain refusal _ refl,
    plain unboosted _ refl,
    plain cs [] refl,
  )
