-- What accounting leaves of each account: the statement `AccountingLeaves`, proved in proofs/RenewalLaws as `accounted-renewal`.
use Rattle.std.specs.Prelude.{ℕ, ◌-◌, ◌*◌, ◌/◌, ◌%◌, ◌^◌, min, true, false, ◌≡◌}
use Rattle.scans.specs.Scan.{nobody, at}
use Rattle.system.specs.declared.System.{System}
use Rattle.system.specs.Reads.{runtime_at, pooled}
use Rattle.system.specs.Slots.{Present}
use Rattle.policy.specs.declared.Scheduler.{Scheduler}
use Rattle.policy.specs.Accounts.{Tabled, covers, account_of, offset_of, was_schedulable}
use Rattle.policy.specs.Standing.{weight_at, service_at}
use Rattle.policy.specs.Settings.{SamePolicy}
use Rattle.policy.specs.Accounting as accounting
use Rattle.policy.specs.Accounting.{floor, accounted}

-- slot i has a vCPU, and the policy's shape covers it
pub record HasAccount (s : System) (π : Scheduler) (i : ℕ) : Type 0 where
  pub present : Present s i
  pub covered : covers π (i / 8) (i % 8) ≡ true

-- it joined the pool: it is in it, and was not at the last snapshot
pub record Joined (s : System) (π : Scheduler) (i : ℕ) : Type 0 where
  pub account : HasAccount s π i
  pub is-pooled : pooled s i ≡ true
  pub was-not : was_schedulable π (i / 8) (i % 8) ≡ false

-- why an offset stays: boost is off, there is no floor, or the vCPU did not join the pool
pub data Unlifted (s : System) (π : Scheduler) (now i : ℕ) : Type 0 where
  boost-off : π.wake_boost ≡ false → Unlifted s π now i
  no_floor : floor s π now ≡ nobody → Unlifted s π now i
  not-joined : (Joined s π i → ⊥) → Unlifted s π now i

-- what accounting leaves at slot i
pub record Renewal (s : System) (π : Scheduler) (now i : ℕ) (ρ : Scheduler) : Type 0 where
  -- the account is renewed, and where there is none the look-up is as before
  pub renewed : HasAccount s π i → account_of ρ (i / 8) (i % 8) ≡ accounting.renewed s π now i
  pub kept : (HasAccount s π i → ⊥) → account_of ρ (i / 8) (i % 8) ≡ account_of π (i / 8) (i % 8)
  -- neither the shape changes, nor slice and boost, nor any weight
  pub same : SamePolicy π ρ
  pub weight : weight_at ρ i ≡ weight_at π i
  -- the snapshot is whether the vCPU is in the pool
  pub snapshot : HasAccount s π i → was_schedulable ρ (i / 8) (i % 8) ≡ pooled s i
  -- with boost on, the offset of one that joined is replaced, whatever it was, if there is a floor f: what the floor's service is worth
  -- at its weight, less its run time, at least 0; the product is held
  pub lifted : π.wake_boost ≡ true → Joined s π i → (f : ℕ) → floor s π now ≡ at f
      → offset_of ρ (i / 8) (i % 8) ≡ min (service_at s π now f * weight_at π i) (2 ^ 128 - 1) / weight_at π f - runtime_at s i
  -- else it is as it was
  pub unlifted : Unlifted s π now i → offset_of ρ (i / 8) (i % 8) ≡ offset_of π (i / 8) (i % 8)

-- of every system, every policy of 128 accounts and every clock, at every slot
abbrev pub AccountingLeaves : Type 0
AccountingLeaves = (s : System) (π : Scheduler) → Tabled π → (now i : ℕ) → Renewal s π now i (accounted s π now)
