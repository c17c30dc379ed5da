-- A vCPU that no weight was set for, in the policy's shape or outside it, ranks as one set to 256. Proved in proofs/DefaultLaws, as
-- `defaults`.
use Rattle.std.specs.Prelude.{ℕ, ◌/◌, ◌%◌, max, true, false, ◌≡◌}
use Rattle.service.specs.Service.{more_deserving}
use Rattle.system.specs.declared.System.{System}
use Rattle.policy.specs.declared.Scheduler.{Scheduler}
use Rattle.policy.specs.Accounts.{Tabled, covers, weight_of, fresh_policy, set_weight}
use Rattle.policy.specs.Standing.{weight_at, service_at, deserves}

-- against everybody, i counts by its service over w
pub record RanksAt (w : ℕ) (s : System) (π : Scheduler) (now i : ℕ) : Type 0 where
  pub before : (j : ℕ) → deserves s π now i j ≡ more_deserving (service_at s π now i) w (service_at s π now j) (weight_at π j)
  pub behind : (j : ℕ) → deserves s π now j i ≡ more_deserving (service_at s π now j) (weight_at π j) (service_at s π now i) w

pub record Defaults : Type 0 where
  -- one that a weight was set for ranks at that weight, with 0 as 1
  pub set : (π : Scheduler) → Tabled π → (i w : ℕ) → covers π (i / 8) (i % 8) ≡ true → (s : System) (now : ℕ)
      → RanksAt (max w 1) s (set_weight π (i / 8) (i % 8) w) now i
  -- in a new policy of any shape everybody ranks at 256, in the shape or outside it
  pub new : (e u q : ℕ) (s : System) (now i : ℕ) → RanksAt 256 s (fresh_policy e u q) now i
  -- and so does, under any policy, whoever is outside its shape
  pub outside : (π : Scheduler) (i : ℕ) → covers π (i / 8) (i % 8) ≡ false → (s : System) (now : ℕ) → RanksAt 256 s π now i
  -- the weights looked up, for ids of any size
  pub new-weight : (e u q d v : ℕ) → weight_of (fresh_policy e u q) d v ≡ 256
  pub outside-weight : (π : Scheduler) (d v : ℕ) → covers π d v ≡ false → weight_of π d v ≡ 256
  -- to set 256 in a new policy changes nothing
  pub set-alike : (e u q d v : ℕ) → set_weight (fresh_policy e u q) d v 256 ≡ fresh_policy e u q
