-- Accounting: a vCPU that joins the pool is placed at the floor of those that stayed in it.
use Rattle.std.specs.Prelude.{ℕ, zero, suc, ◌-◌, ◌*◌, ◌/◌, ◌%◌, ◌^◌, min, cond, not, ◌&&◌, List}
use Rattle.service.specs.Service.{held}
use Rattle.system.specs.declared.System.{System}
use Rattle.system.specs.Reads.{vcpu_at, pooled}
use Rattle.system.specs.Slots.{slots, present}
use Rattle.scans.specs.Scan.{Pick, nobody, at, scan}
use Rattle.policy.specs.declared.Account.{Account}
use Rattle.policy.specs.declared.Scheduler.{Scheduler}
use Rattle.policy.specs.Accounts.{account_of, was_schedulable, put_account}
use Rattle.policy.specs.Standing.{weight_at, service_at, deserves}

-- the most deserving vCPU that is in the pool now and was at the last snapshot, the earliest on a tie
unfoldable pub floor : System → Scheduler → ℕ → Pick
floor s π now = scan (λ i. present s i && (pooled s i && was_schedulable π (i / 8) (i % 8))) (deserves s π now) (slots s)

-- max(0, floor service × weight ÷ floor weight − run time); the product is held
abbrev pub lift : ℕ → ℕ → ℕ → ℕ → ℕ
lift service floor_weight weight runtime = min (service * weight) (2 ^ 128 - 1) / floor_weight - runtime

-- the offset of a vCPU that joins the pool: no floor, and the old one stays; else it is replaced
abbrev pub lifted : System → Scheduler → ℕ → ℕ → List ℕ → Pick → List ℕ
lifted s π now i old nobody = old
lifted s π now i old (at f) =
    held (lift (service_at s π now f) (weight_at π f) (weight_at π i) (vcpu_at s i).runtime)

-- with boost on, one that is in the pool and was not is lifted; the snapshot is renewed
unfoldable pub renewed : System → Scheduler → ℕ → ℕ → Account
renewed s π now i =
    let a = account_of π (i / 8) (i % 8) in
    record {
      weight = a.weight;
      offset =
          cond (π.wake_boost && (pooled s i && not a.was_schedulable)) (lifted s π now i a.offset (floor s π now)) a.offset;
      was_schedulable = pooled s i;
    }

-- the accounts of the first k slots renewed
unfoldable pub renew_first : System → Scheduler → ℕ → ℕ → Scheduler
renew_first s π now zero = π
renew_first s π now (suc k) =
    let ρ = renew_first s π now k in
    cond (present s k) (put_account ρ (k / 8) (k % 8) (renewed s π now k)) ρ

unfoldable pub accounted : System → Scheduler → ℕ → Scheduler
accounted s π now = renew_first s π now (slots s)
