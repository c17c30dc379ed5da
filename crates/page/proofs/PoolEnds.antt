-- Each clause of demand 3 that is of a pool list, at the ends of the largest host, 16 × 8 on 64: the last vCPUs, slice 1,
-- G of 0 and of 2^64 − 1, the largest clock and weight, the last reading. It is written out with the numbers themselves:
-- a clause that said less would not give it. Assumes nothing.
use Rattle.std.specs.Prelude.{Some}
use Prim.Native.Nat.{ℕ, ◌+◌, ◌-◌, ◌*◌, ◌^◌, ◌≤◌, ◌<◌}
use mathlib.Core.Bool.{true}
use mathlib.Core.List.{List, ◌++◌}
use mathlib.Core.Path.{◌≡◌, subst₂}
use native.Mathlib.Omega.{arith}
use Rattle.system.specs.declared.RunState.TheVariants.{Runnable}
use Rattle.host.specs.declared.Host.{Host}
use Rattle.calls.specs.declared.Call.{Call}
use Rattle.page.specs.Policy.{account, number}
use Rattle.page.specs.Standing.{in_flight, service}
use Rattle.page.specs.Accounting.{pooled}
use Rattle.page.specs.Book.{Book}
use Rattle.page.specs.Lists.{AllTyped, PoolList, host_after, book_after, weight_from, weight_after, latest}
use Rattle.page.specs.Demand3.{Pools}
use Rattle.page.proofs.Demand3.{demand_3}
use Rattle.page.proofs.Ends.{largest, sizes}

-- every point of every list
module _ (cs before rest : List Call) (typed : AllTyped cs) (split : cs ≡ before ++ rest) where
  -- a policy of n × m
  module _ (n m : ℕ) where
    abbrev h : Host
    h = host_after (largest n m 1) before

    abbrev b : Book
    b = book_after (largest n m 1) before

    abbrev w : ℕ → ℕ → ℕ
    w = weight_after (largest n m 1) before

    -- service at a reading, by the book
    abbrev S : ℕ → ℕ → ℕ → ℕ
    S r d v = let l = b d v in l.time + in_flight l.state (r - l.clock)

    -- a pool of any G
    module _ (g : ℕ) (pool : PoolList (largest n m 1) g cs) where
      here : Pools (largest n m 1) g before
      here = (demand_3 (largest n m 1) sizes cs typed before rest split).pools g pool

      pub ranked_there : let π = h.scheduler in
          (number (account π 15 7).offset ≡ 0) × (number (account π 16 7).offset ≡ 0)
          × (number (account π 15 8).offset ≡ 0) × (service h.system π (2 ^ 64 - 1) 15 7 ≡ S (2 ^ 64 - 1) 15 7)
      ranked_there =
          let services = here.services 15 7 (2 ^ 64 - 1) (omega arith) (omega arith) (omega arith) in
          (here.offsets 15 7, here.offsets 16 7, here.offsets 15 8, services)

      -- d/v is in the pool and e/u waits; the latest advance was at the largest clock, and the reading is up to G later
      lag : (r d v e u : ℕ) → r ≤ 2 ^ 64 - 1 + g → d < 16 → v < 8 → e < 16 → u < 8 → latest before ≡ Some (2 ^ 64 - 1)
          → pooled (b d v).state ≡ true → (b e u).state ≡ Runnable
          → S r d v * w e u ≤ S r e u * w d v + (1 + g - 1) * w e u
      lag r d v e u early xd xv xe xu late = here.lag (omega arith) (2 ^ 64 - 1) r late early d v e u xd xv xe xu

  -- ---- a policy of 16 × 8: 15/7 is in the pool, with the largest weight, and 15/6 waits, with 256

  abbrev Lags : ℕ → ℕ → Type 0
  Lags r bound = weight_from 15 7 256 before ≡ 2 ^ 32 - 1 → weight_from 15 6 256 before ≡ 256
      → latest before ≡ Some (2 ^ 64 - 1) → pooled (b 16 8 15 7).state ≡ true → (b 16 8 15 6).state ≡ Runnable
      → S 16 8 r 15 7 * 256 ≤ S 16 8 r 15 6 * (2 ^ 32 - 1) + bound * 256

  lags : (g r : ℕ) → r ≤ 2 ^ 64 - 1 + g → PoolList (largest 16 8 1) g cs → Lags r (1 + g - 1)
  lags g r early pool heavy plain late is_in_pool waits =
      subst₂ (λ w x. S 16 8 r 15 7 * x ≤ S 16 8 r 15 6 * w + (1 + g - 1) * x) heavy plain
      (lag 16 8 g pool r 15 7 15 6 early (omega arith) (omega arith) (omega arith) (omega arith) late is_in_pool waits)

  pub lag-at_once : PoolList (largest 16 8 1) 0 cs → Lags (2 ^ 64 - 1) 0
  lag-at_once = lags 0 (2 ^ 64 - 1) (omega arith)

  pub lag-at-last : PoolList (largest 16 8 1) (2 ^ 64 - 1) cs → Lags (2 ^ 65 - 2) (2 ^ 64 - 1)
  lag-at-last = lags (2 ^ 64 - 1) (2 ^ 65 - 2) (omega arith)

  -- ---- a policy of 2 × 3: 15/7 is in the pool and 14/6, of another domain, waits. Both are outside it and weigh 256
  pub lag-outside : PoolList (largest 2 3 1) (2 ^ 64 - 1) cs → latest before ≡ Some (2 ^ 64 - 1)
      → pooled (b 2 3 15 7).state ≡ true → (b 2 3 14 6).state ≡ Runnable
      → S 2 3 0 15 7 * 256 ≤ S 2 3 0 14 6 * 256 + (2 ^ 64 - 1) * 256
  lag-outside pool =
      lag 2 3 (2 ^ 64 - 1) pool 0 15 7 14 6 (omega arith) (omega arith) (omega arith) (omega arith) (omega arith)
