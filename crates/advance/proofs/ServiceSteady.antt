-- The rule of the service policy is a steady one. Assumes nothing.
use Prim.Native.Nat.{ℕ, ◌+◌, ◌-◌, ◌/◌, ◌%◌, ◌^◌, ◌<◌, min}
use mathlib.Core.Path.{◌≡◌, refl, sym, ◌∙◌, ap, ap₂}
use native.Mathlib.Omega.{arith}
use Rattle.service.specs.Service.{value}
use Rattle.system.specs.declared.RunState.TheVariants.{Runnable}
use Rattle.system.specs.declared.VirtualCpu.{VirtualCpu}
use Rattle.system.specs.Records.{flight, in_flight}
use Rattle.changes.specs.Records.{dispatched, left}
use Rattle.policy.specs.declared.Scheduler.{Scheduler}
use Rattle.policy.specs.Accounts.{account_of}
use Rattle.policy.specs.Standing.{service_by}
use Rattle.rules.specs.Steady.{Steady}
use Rattle.advance.specs.ServiceRule.{rule_of}

-- what a runner had before its dispatch has nothing in flight
waiting : (v : VirtualCpu) (now : ℕ) → v.state ≡ Runnable → in_flight v now ≡ 0
unfolding in_flight
waiting v now e = ap (flight v now) e

-- run times and parts in flight that are the same make the same service
same : (π : Scheduler) (u v : VirtualCpu) (now i : ℕ) → u.runtime ≡ v.runtime → in_flight u now ≡ in_flight v now
    → service_by π u now i ≡ service_by π v now i
unfolding service_by
same π u v now i r f = ap₂ (λ (x y : ℕ). min (x + y + value (account_of π (i / 8) (i % 8)).offset) (2 ^ 128 - 1)) r f

module _ (π : Scheduler) (v : VirtualCpu) (p now i : ℕ) (e : v.state ≡ Runnable) where
  dispatched-same : service_by π (dispatched v p now) now i ≡ service_by π v now i
  unfolding dispatched in_flight
  dispatched-same = same π (dispatched v p now) v now i refl (let z : now - now ≡ 0 = omega arith in z ∙ sym (waiting v now e))

  back-same : v.runtime < 2 ^ 64 → service_by π (left (dispatched v p now) Runnable now) now i ≡ service_by π v now i
  unfolding dispatched left in_flight
  back-same h = same π (left (dispatched v p now) Runnable now) v now i (omega (arith, h)) (sym (waiting v now e))

pub service_steady : (π : Scheduler) → Steady (rule_of π)
service_steady π =
    record {
      barred = λ now j T S m. refl;
      onto = dispatched-same π;
      off = back-same π;
    }
