-- The laws of accounting, of the floor and of unset weights at the last slots, those of 15/7 and 15/6: written out with the numbers
-- themselves, so that a law of fewer slots would not give them. Assumes nothing.
use Prim.Native.Nat.{ℕ, ◌-◌, ◌*◌, ◌/◌, ◌%◌, ◌^◌, ◌≤◌, ◌<◌, min, max}
use mathlib.Core.Bool.{true, false}
use mathlib.Core.Logic.{◌≢◌}
use mathlib.Core.Path.{◌≡◌, ◌∙◌}
use native.Mathlib.Omega.{arith}
use lib.ListN.{length}
use Rattle.service.specs.Service.{more_deserving}
use Rattle.scans.specs.Scan.{nobody, at}
use Rattle.scans.specs.Booleans.{zero_one}
use Rattle.system.specs.declared.System.{System}
use Rattle.system.specs.Reads.{runtime_at, pooled}
use Rattle.system.specs.Slots.{Present}
use Rattle.policy.specs.declared.Scheduler.{Scheduler}
use Rattle.policy.specs.Accounts.{covers, account_of, weight_of, offset_of, was_schedulable, fresh_policy, set_weight}
use Rattle.policy.specs.Standing.{weight_at, service_at, deserves}
use Rattle.policy.specs.Accounting.{floor, accounted, renewed}
use Rattle.policy.specs.FloorLaws.{Stayed, floor-stayed, floor-found, floor-least, floor-earliest}
use Rattle.policy.specs.Renewal as renewal
use Rattle.policy.specs.Renewal.{Renewal}
use Rattle.policy.proofs.RenewalLaws.{accounted-renewal}
use Rattle.policy.proofs.DefaultLaws.{defaults}

-- ---- accounting, for every system, policy and clock

module _ (s : System) (π : Scheduler) (L : length π.accounts ≡ 128) (now : ℕ) where
  abbrev ρ : Scheduler
  ρ = accounted s π now

  r : Renewal s π now 127 ρ
  r = accounted-renewal s π (record { accounts = L }) now 127

  pub policy-kept : (ρ.domain_count ≡ π.domain_count) × (ρ.vcpus_per_domain ≡ π.vcpus_per_domain) × (ρ.quantum ≡ π.quantum)
      × (ρ.wake_boost ≡ π.wake_boost) × (length ρ.accounts ≡ 128) × (weight_of ρ 15 7 ≡ weight_of π 15 7)
  policy-kept = let y = r.same in (y.domains, y.vcpus, y.quantum, y.boost, y.tabled ∙ L, r.weight)

  pub account-renewed : Present s 127 → covers π 15 7 ≡ true
      → (account_of ρ 15 7 ≡ renewed s π now 127) × (was_schedulable ρ 15 7 ≡ pooled s 127)
  account-renewed p c = (r.renewed (record { present = p; covered = c }), r.snapshot (record { present = p; covered = c }))

  pub account-kept : (Present s 127 → covers π 15 7 ≡ true → ⊥) → account_of ρ 15 7 ≡ account_of π 15 7
  account-kept n = r.kept (λ h. n h.present h.covered)

  -- 15/7 joined the pool, and 15/6 is the floor
  pub offset-lifted : π.wake_boost ≡ true → Present s 127 → covers π 15 7 ≡ true → pooled s 127 ≡ true → was_schedulable π 15 7 ≡ false
      → floor s π now ≡ at 126
      → offset_of ρ 15 7 ≡ min (service_at s π now 126 * weight_of π 15 7) (2 ^ 128 - 1) / weight_of π 15 6 - runtime_at s 127
  offset-lifted b p c i w f =
      r.lifted b (record { account = record { present = p; covered = c }; is-pooled = i; was-not = w }) 126 f

  abbrev Stays : Type 0
  Stays = offset_of ρ 15 7 ≡ offset_of π 15 7

  pub offset-kept : (π.wake_boost ≡ false → Stays) × (floor s π now ≡ nobody → Stays) × (pooled s 127 ≡ false → Stays)
      × (was_schedulable π 15 7 ≡ true → Stays)
  offset-kept = (
    λ e. r.unlifted (renewal.boost-off e),
    λ e. r.unlifted (renewal.no_floor e),
    λ e. r.unlifted (renewal.not-joined (λ j. zero_one (cc j.is-pooled))),
    λ e. r.unlifted (renewal.not-joined (λ j. zero_one (cc j.was-not))),
  )

-- ---- the floor

module _ (s : System) (π : Scheduler) (now : ℕ) where
  pub last-sets-floor : floor s π now ≡ at 127 → Present s 127 × (pooled s 127 ≡ true) × (was_schedulable π 15 7 ≡ true)
  last-sets-floor e = let y = floor-stayed s π now 127 e in (y.present, y.is-pooled, y.was-pooled)

  stayed : (i : ℕ) → Present s i → pooled s i ≡ true → was_schedulable π (i / 8) (i % 8) ≡ true → Stayed s π i
  stayed i p q w = record { present = p; is-pooled = q; was-pooled = w }

  pub last-has-floor : Present s 127 → pooled s 127 ≡ true → was_schedulable π 15 7 ≡ true → (f : ℕ) × (floor s π now ≡ at f)
  last-has-floor p q w = floor-found s π now 127 (stayed 127 p q w)

  -- no product of two that stayed is held
  module _ (U : (i j : ℕ) → i ≢ j → Stayed s π i → Stayed s π j → service_at s π now i * weight_at π j < 2 ^ 128) where
    pub last-floor-least : floor s π now ≡ at 127 → Present s 126 → pooled s 126 ≡ true → was_schedulable π 15 6 ≡ true
        → service_at s π now 127 * weight_of π 15 6 < service_at s π now 126 * weight_of π 15 7
    last-floor-least e p q w = floor-earliest s π now (record { products = U }) 127 126 e (stayed 126 p q w) (omega arith)

    pub floor-least-of-last : floor s π now ≡ at 126 → Present s 127 → pooled s 127 ≡ true → was_schedulable π 15 7 ≡ true
        → service_at s π now 126 * weight_of π 15 7 ≤ service_at s π now 127 * weight_of π 15 6
    floor-least-of-last e p q w = floor-least s π now (record { products = U }) 126 127 e (stayed 127 p q w)

-- ---- weights

-- under π, slot 127 counts by its service over w, against everybody, on any system at any clock
abbrev Counts : Scheduler → ℕ → Type 0
Counts π w = (s : System) (now j : ℕ)
    → (deserves s π now 127 j ≡ more_deserving (service_at s π now 127) w (service_at s π now j) (weight_at π j))
    × (deserves s π now j 127 ≡ more_deserving (service_at s π now j) (weight_at π j) (service_at s π now 127) w)

-- set to the largest weight, and to 0
pub set-counts : (π : Scheduler) → length π.accounts ≡ 128 → covers π 15 7 ≡ true
    → Counts (set_weight π 15 7 (2 ^ 32 - 1)) (2 ^ 32 - 1) × Counts (set_weight π 15 7 0) 1
set-counts π L c = (counted (2 ^ 32 - 1), counted 0)
  where
    counted : (w : ℕ) → Counts (set_weight π 15 7 w) (max w 1)
    counted w s now j = let y = defaults.set π (record { accounts = L }) 127 w c s now in (y.before j, y.behind j)

-- in a new policy of any shape, and outside the shape of any
pub unset-counts : (e u q : ℕ) → Counts (fresh_policy e u q) 256
unset-counts e u q s now j = let y = defaults.new e u q s now 127 in (y.before j, y.behind j)

pub outside-counts : (π : Scheduler) → covers π 15 7 ≡ false → Counts π 256
outside-counts π c s now j = let y = defaults.outside π 127 c s now in (y.before j, y.behind j)

pub unset-weights : (e u q : ℕ) → (weight_of (fresh_policy e u q) 15 7 ≡ 256)
    × (set_weight (fresh_policy e u q) 15 7 256 ≡ fresh_policy e u q)
unset-weights e u q = (defaults.new-weight e u q 15 7, defaults.set-alike e u q 15 7)

pub outside-weight : (π : Scheduler) → covers π 15 7 ≡ false → weight_of π 15 7 ≡ 256
outside-weight π c = defaults.outside-weight π 15 7 c
