-- What `next` answers, by the ids that it names and by what can be read of the system, sound or not. Proved as
-- `next-run-accepted`, `next-preempt-accepted`, `next-preempts` and `next-least`.
use Rattle.std.specs.Prelude.{ℕ, ◌*◌, ◌^◌, ◌≤◌, ◌<◌, true, ◌≡◌, ◌⊎◌, Some}
use Rattle.system.specs.declared.RunState.TheVariants.{Runnable, Running}
use Rattle.system.specs.declared.Occupant.TheVariants.{Idle}
use Rattle.system.specs.declared.System.{System}
use Rattle.system.specs.declared.Answer.TheVariants.{Done}
use Rattle.system.specs.Answers.{told}
use Rattle.system.specs.Reads.{state_of, occupant_of, affinity_permits}
use Rattle.system.specs.Slots.{slot}
use Rattle.sched.specs.Steps.{run, preempt}
use Rattle.policy.specs.declared.Scheduler.{Scheduler}
use Rattle.policy.specs.Accounts.{weight_of}
use Rattle.policy.specs.Standing.{service_at}
use Rattle.advance.specs.declared.Decision.TheVariants.{Run, Preempt}
use Rattle.advance.specs.Advance.{next}

-- who is told to run a vCPU, and runs it, is told 0
abbrev pub RunAccepted : Type 0
RunAccepted = (s : System) (π : Scheduler) (now d v p : ℕ) → (next s π now).decision ≡ Run d v p
    → (run s d v p now).number ≡ told Done

-- and so is who is told to preempt one, and does
abbrev pub PreemptAccepted : Type 0
PreemptAccepted = (s : System) (π : Scheduler) (now d v p : ℕ) → (next s π now).decision ≡ Preempt d v p
    → (preempt s d v now).number ≡ told Done

-- whoever is to be preempted is Running on the pCPU that is named
abbrev pub PreemptsThere : Type 0
PreemptsThere = (s : System) (π : Scheduler) (now d v p : ℕ) → (next s π now).decision ≡ Preempt d v p
    → state_of s d v ≡ Some (Running p)

-- d/v waits, and p is an idle pCPU that its mask admits
pub record MayGo (s : System) (d v p : ℕ) : Type 0 where
  pub ready : state_of s d v ≡ Some Runnable
  pub free : occupant_of s p ≡ Idle
  pub affine : affinity_permits s d v p ≡ true

module _ (s : System) (π : Scheduler) (now : ℕ) where
  abbrev pub service_of : ℕ → ℕ → ℕ
  service_of d v = service_at s π now (slot d v)

  -- no product that ranks two of those that may go is held
  pub record NoneHeld : Type 0 where
    pub products : (d v p e u q : ℕ) → MayGo s d v p → MayGo s e u q → ((d ≡ e) × (v ≡ u) → ⊥)
        → service_of d v * weight_of π e u < 2 ^ 128

  -- d/v has the least service over weight of those that may go, and is the first that has it, by domain, then vCPU
  pub record LeastOf (d v : ℕ) : Type 0 where
    pub least : (e u q : ℕ) → MayGo s e u q → service_of d v * weight_of π e u ≤ service_of e u * weight_of π d v
    pub first : (e u q : ℕ) → MayGo s e u q → service_of d v * weight_of π e u ≡ service_of e u * weight_of π d v
        → (d < e) ⊎ ((d ≡ e) × (v ≤ u))

-- whoever is to run is the least, where no product is held
abbrev pub RunsTheLeast : Type 0
RunsTheLeast = (s : System) (π : Scheduler) (now : ℕ) → NoneHeld s π now
    → (d v p : ℕ) → (next s π now).decision ≡ Run d v p → LeastOf s π now d v
