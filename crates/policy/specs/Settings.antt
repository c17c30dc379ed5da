-- What `set_weight` and `set_wake_boost` leave of a policy: the statements `SetWeightLeaves` and `SetWakeBoostLeaves`, proved in
-- proofs/SettingLaws as `set-weighed` and `cleared`.
use Rattle.std.specs.Prelude.{ℕ, max, Bool, true, false, ◌≡◌, length}
use Rattle.policy.specs.declared.Scheduler.{Scheduler}
use Rattle.policy.specs.Accounts.{Tabled, covers, weight_of, offset_of, was_schedulable, set_weight, set_wake_boost}

-- ρ is π but for its accounts
pub record SamePolicy (π ρ : Scheduler) : Type 0 where
  pub domains : ρ.domain_count ≡ π.domain_count
  pub vcpus : ρ.vcpus_per_domain ≡ π.vcpus_per_domain
  pub quantum : ρ.quantum ≡ π.quantum
  pub boost : ρ.wake_boost ≡ π.wake_boost
  pub tabled : length ρ.accounts ≡ length π.accounts

-- after `set_weight` of d/v to w
pub record Weighed (π : Scheduler) (d v w : ℕ) (ρ : Scheduler) : Type 0 where
  -- ids outside the shape are ignored
  pub ignored : covers π d v ≡ false → ρ ≡ π
  -- a weight of 0 becomes 1
  pub weight : covers π d v ≡ true → weight_of ρ d v ≡ max w 1
  -- no other weight changes, no offset, and no snapshot
  pub others : (e u : ℕ) → ((e ≡ d) × (u ≡ v) → ⊥) → weight_of ρ e u ≡ weight_of π e u
  pub offset : (e u : ℕ) → offset_of ρ e u ≡ offset_of π e u
  pub snapshot : (e u : ℕ) → was_schedulable ρ e u ≡ was_schedulable π e u
  pub same : SamePolicy π ρ

-- of every policy of 128 accounts, for ids and a weight of any size
abbrev pub SetWeightLeaves : Type 0
SetWeightLeaves = (π : Scheduler) → Tabled π → (d v w : ℕ) → Weighed π d v w (set_weight π d v w)

-- after `set_wake_boost`
pub record Cleared (π : Scheduler) (on : Bool) (ρ : Scheduler) : Type 0 where
  pub boost : ρ.wake_boost ≡ on
  -- every offset is cleared
  pub offset : (d v : ℕ) → offset_of ρ d v ≡ 0
  -- no weight changes, and no snapshot
  pub weight : (d v : ℕ) → weight_of ρ d v ≡ weight_of π d v
  pub snapshot : (d v : ℕ) → was_schedulable ρ d v ≡ was_schedulable π d v
  -- nor does the shape, or the slice
  pub domains : ρ.domain_count ≡ π.domain_count
  pub vcpus : ρ.vcpus_per_domain ≡ π.vcpus_per_domain
  pub quantum : ρ.quantum ≡ π.quantum

-- of every policy
abbrev pub SetWakeBoostLeaves : Type 0
SetWakeBoostLeaves = (π : Scheduler) (on : Bool) → Cleared π on (set_wake_boost π on)
