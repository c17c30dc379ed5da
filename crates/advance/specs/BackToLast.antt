-- Where `next` dispatches a vCPU, and `next` beside upstream's, which keeps no pCPU: of every system, sound or not, and
-- of that system with every kept pCPU forgotten it is told the same and recommends the same move of the same vCPU, but
-- that the pCPU of a Run may be another. The statements `RunPlaced` and `NextForgets` are proved as `next-placed` and `next-forgets`.
use Rattle.std.specs.Prelude.{ℕ, ◌≤◌, ◌≡◌, map}
use Rattle.system.specs.declared.VirtualCpu.{VirtualCpu}
use Rattle.system.specs.declared.System.{System}
use Rattle.system.specs.Records.{no_pcpu}
use Rattle.system.specs.Reads.{last_at}
use Rattle.system.specs.Slots.{slot}
use Rattle.verdict.specs.Violations.{first_violation}
use Rattle.sched.specs.CanRun.{CanRun}
use Rattle.policy.specs.declared.Scheduler.{Scheduler}
use Rattle.policy.specs.Standing.{service_at}
use Rattle.advance.specs.declared.Decision.{Decision}
use Rattle.advance.specs.declared.Decision.TheVariants as decision
use Rattle.advance.specs.Advance.{NextOutcome, next}

-- the vCPU of slot i goes onto pCPU p: the one that it was last on if it may be dispatched there, else the lowest-numbered that it
-- may be dispatched onto
pub record PlacedRun (s : System) (i p : ℕ) : Type 0 where
  pub can : CanRun s i p
  pub back : CanRun s i (last_at s i) → p ≡ last_at s i
  pub lowest : (CanRun s i (last_at s i) → ⊥) → (q : ℕ) → CanRun s i q → p ≤ q

-- so does whoever `next` says to run, on every system
abbrev pub RunPlaced : Type 0
RunPlaced = (s : System) (π : Scheduler) (now d v p : ℕ) → (next s π now).decision ≡ decision.Run d v p → PlacedRun s (slot d v) p

-- a vCPU as if it had been dispatched onto none
abbrev pub without_last : VirtualCpu → VirtualCpu
without_last v =
    record { state = v.state; runtime = v.runtime; dispatched_at = v.dispatched_at; affinity = v.affinity; last = no_pcpu }

-- a system with every kept pCPU forgotten: all that upstream has of it
unfoldable pub without_lasts : System → System
without_lasts s =
    record {
      domain_count = s.domain_count;
      vcpus_per_domain = s.vcpus_per_domain;
      pcpu_count = s.pcpu_count;
      vcpus = map without_last s.vcpus;
      pcpus = s.pcpus;
    }

-- a decision, whatever pCPU its vCPU is dispatched onto
abbrev pub anywhere : Decision → Decision
anywhere (decision.Run d v p) = decision.Run d v 64
anywhere (decision.Preempt d v p) = decision.Preempt d v p
anywhere decision.Idle = decision.Idle

-- alike but for that pCPU
pub record AlikeAnywhere (x y : NextOutcome) : Type 0 where
  pub number : x.number ≡ y.number
  pub decision : anywhere x.decision ≡ anywhere y.decision

-- what the kept pCPUs of a system leave as it is
pub record Forgets (s : System) (π : Scheduler) (now : ℕ) : Type 0 where
  -- neither the verdict nor a service reads them
  pub verdict : first_violation (without_lasts s) ≡ first_violation s
  pub service : (i : ℕ) → service_at (without_lasts s) π now i ≡ service_at s π now i
  -- and `next` tells and picks the same without them
  pub alike : AlikeAnywhere (next s π now) (next (without_lasts s) π now)
  -- by upstream's rule: onto the lowest-numbered pCPU that it may be dispatched onto
  pub lowest : (d v p q : ℕ) → (next (without_lasts s) π now).decision ≡ decision.Run d v p
      → CanRun (without_lasts s) (slot d v) q → p ≤ q

-- on every system, under every policy and at every clock
abbrev pub NextForgets : Type 0
NextForgets = (s : System) (π : Scheduler) (now : ℕ) → Forgets s π now
