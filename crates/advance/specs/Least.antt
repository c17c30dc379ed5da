-- Where no product is held, whoever is dispatched has the least service over weight, and whoever is preempted the most; each is
-- the earliest of those that have it. Assumes nothing.
use Rattle.std.specs.Prelude.{ℕ, zero, suc, ◌*◌, ◌^◌, ◌≤◌, ◌<◌, true, ◌≢◌, ◌≡◌}
use Rattle.std.proofs.Math.Path.{refl}
use Rattle.std.proofs.Common.{arith, lit<, lit≤}
use Rattle.service.specs.Service.{value, limbs, held}
use Rattle.system.specs.declared.RunState.TheVariants.{Runnable}
use Rattle.system.specs.declared.System.{System}
use Rattle.system.specs.declared.VirtualCpu.{VirtualCpu}
use Rattle.system.specs.Reads.{vcpu_at, occupant_at}
use Rattle.system.specs.Records.{in_flight}
use Rattle.system.specs.Shape.{fresh}
use Rattle.system.specs.Slots.{Present}
use Rattle.system.specs.Writes.{put_vcpu}
use Rattle.sched.specs.CanRun.{CanRun}
use Rattle.moves.specs.declared.Choice.TheVariants.{Run, Preempt}
use Rattle.policy.specs.declared.Scheduler.{Scheduler}
use Rattle.policy.specs.Accounts.{account_at, account_of, put_account, fresh_policy}
use Rattle.policy.specs.Standing.{weight_at, service_by, service_at, deserves}
use Rattle.policy.specs.Exact.{Unheld, before, not-before, unheld-ranks}
use Rattle.rules.specs.Choices.{choice}
use Rattle.rules.specs.ChoiceLaws.{CanPreempt, Rival, Placeable, Preemptible}
use Rattle.rules.proofs.ChoiceLaws.{choice-run, choice-preempt, choice-beaten}
use Rattle.rules.proofs.ChoiceLaws.{choice-least, choice-earliest, choice_worst, choice_worst_earliest}
use Rattle.advance.specs.ServiceRule.{rule_of}

module _ (s : System) (π : Scheduler) (now : ℕ) (U : Unheld s π now (Placeable s (rule_of π) now)) (i p j q : ℕ)
    (e : choice s (rule_of π) now ≡ Run i p) (c : CanRun s j q) where
  this : Placeable s (rule_of π) now i
  this = record { onto = p; can = choice-run s (rule_of π) now i p e; unbarred = refl }

  other : Placeable s (rule_of π) now j
  other = record { onto = q; can = c; unbarred = refl }

  -- whoever else could be dispatched has no less
  pub run-least : service_at s π now i * weight_at π j ≤ service_at s π now j * weight_at π i
  unfolding deserves
  run-least = not-before U j i other this (choice-least s (rule_of π) now (unheld-ranks U) i p j q e c refl)

  -- and more, if it comes earlier
  pub run-earliest : j < i → service_at s π now i * weight_at π j < service_at s π now j * weight_at π i
  unfolding deserves
  run-earliest l = before U i j this other (choice-earliest s (rule_of π) now (unheld-ranks U) i p j q e c refl l)

module _ (s : System) (π : Scheduler) (now : ℕ) (U : Unheld s π now (Preemptible s (rule_of π) now)) (i p j q k : ℕ)
    (e : choice s (rule_of π) now ≡ Preempt i p) (c : CanPreempt s (rule_of π) now j q) (r : Rival s (rule_of π) now j q k) where
  victim : Preemptible s (rule_of π) now i
  victim =
      let b = choice-beaten s (rule_of π) now i p e in
      record { on = p; can = choice-preempt s (rule_of π) now i p e; by = b.0; rival = b.1 }

  spared : Preemptible s (rule_of π) now j
  spared = record { on = q; can = c; by = k; rival = r }

  -- whoever else could be preempted has no more
  pub preempt-most : service_at s π now j * weight_at π i ≤ service_at s π now i * weight_at π j
  unfolding deserves
  preempt-most = not-before U i j victim spared (choice_worst s (rule_of π) now (unheld-ranks U) i p j q k e c r)

  -- and less, if it comes earlier
  pub preempt-earliest : j < i → service_at s π now j * weight_at π i < service_at s π now i * weight_at π j
  unfolding deserves
  preempt-earliest l = before U j i spared victim (choice_worst_earliest s (rule_of π) now (unheld-ranks U) i p j q k e c r l)

-- ---- an example: two wait for one pCPU, with services 2^100 and 1 at weights 2^30 and 1

abbrev waiting : VirtualCpu
waiting = record { state = Runnable; runtime = 0; dispatched_at = 0; affinity = 1; last = 64 }

abbrev two : System
two = put_vcpu (put_vcpu (fresh 1 2 1) 0 waiting) 1 waiting

abbrev apart : Scheduler
apart =
    put_account (put_account (fresh_policy 1 2 10) 0 0 (record { weight = 2 ^ 30; offset = held (2 ^ 100); was_schedulable = true })) 0 1
    (record { weight = 1; offset = held 1; was_schedulable = true })

-- either could be dispatched
pub two-can : (i : ℕ) → i < 2 → CanRun two i 0
unfolding vcpu_at occupant_at fresh put_vcpu
two-can zero l =
    record { present = record { domain = lit< tt; vcpu = lit< tt }; ready = refl; exists = lit< tt; free = refl; affine = refl }
two-can (suc zero) l =
    record { present = record { domain = lit< tt; vcpu = lit< tt }; ready = refl; exists = lit< tt; free = refl; affine = refl }
two-can (suc (suc i)) l = absurd (omega arith)

-- no product that ranks the two is held
pub two-unheld : Unheld two apart 0 (Placeable two (rule_of apart) 0)
unfolding value limbs held in_flight vcpu_at fresh put_vcpu account_at account_of put_account fresh_policy service_by
two-unheld = record { products = λ i j n a b. go i j n a.can.present b.can.present }
  where
    go : (i j : ℕ) → i ≢ j → Present two i → Present two j → service_at two apart 0 i * weight_at apart j < 2 ^ 128
    go zero zero n a b = absurd (n refl)
    go zero (suc zero) n a b = lit< tt
    go (suc zero) zero n a b = lit< tt
    go (suc zero) (suc zero) n a b = absurd (n refl)
    go zero (suc (suc j)) n a b = absurd (omega (arith, b.domain, b.vcpu))
    go (suc zero) (suc (suc j)) n a b = absurd (omega (arith, b.domain, b.vcpu))
    go (suc (suc i)) j n a b = absurd (omega (arith, a.domain, a.vcpu))

-- though the first one's own would be
pub two-own : 2 ^ 128 ≤ service_at two apart 0 0 * weight_at apart 0
unfolding value limbs held in_flight vcpu_at fresh put_vcpu account_at account_of put_account fresh_policy service_by
two-own = lit≤ tt
