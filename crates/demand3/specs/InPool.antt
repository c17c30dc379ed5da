-- What holds of a fresh host at every point of a pool list whose advances are at most g apart.
use Rattle.std.specs.Prelude.{ℕ, ◌+◌, ◌-◌, ◌*◌, ◌/◌, ◌%◌, ◌^◌, ◌≤◌, ◌<◌, true, ◌≡◌, List}
use Rattle.system.specs.declared.RunState.TheVariants.{Runnable}
use Rattle.system.specs.States.{schedulable}
use Rattle.policy.specs.Accounts.{offset_of}
use Rattle.policy.specs.Standing.{service_at}
use Rattle.calls.specs.declared.Call.{Call}
use Rattle.demand3.specs.Agreement.{PresentIn}
use Rattle.demand3.specs.Weights.{weight_after}
use Rattle.demand3.specs.Lists.{latest, book_service}
use Rattle.demand3.specs.Lists as lists
use Rattle.demand3.specs.Fresh.{Fresh, host_at, book_at}

pub record InPool (f : Fresh) (before : List Call) (g : ℕ) : Type 0 where
  -- S_i · w_j ≤ S_j · w_i + (Q + G − 1) · w_j for i in the pool and j waiting, after the first advance and at every reading
  -- up to G after the latest one, with a slice of 1 or more
  pub lag : 1 ≤ f.slice → (t r : ℕ) → latest before ≡ lists.at t → r ≤ t + g
      → let k = f.shape in
      let q = f.slice in
      let b = book_at f before in
      let w : ℕ → ℕ = λ i. weight_after f.domains f.vcpus before (i / 8) (i % 8) in
      (i j : ℕ) → PresentIn k i → PresentIn k j → schedulable (b i).state ≡ true → (b j).state ≡ Runnable
      → book_service b r i * w j ≤ book_service b r j * w i + (q + g - 1) * w j
  -- with any slice, every offset is 0
  pub offsets : (i : ℕ) → offset_of (host_at f before).scheduler (i / 8) (i % 8) ≡ 0
  -- so that the service by which vCPUs are ranked is the book's, at every reading
  pub services : (r : ℕ) → r < 2 ^ 64 → (i : ℕ) → PresentIn f.shape i
      → let h = host_at f before in service_at h.system h.scheduler r i ≡ book_service (book_at f before) r i
