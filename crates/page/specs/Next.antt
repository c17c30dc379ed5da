-- Placement, what `next` decides, and how many moves an advance may make.
use Rattle.std.specs.Prelude.{ℕ, zero, suc, ◌+◌, ◌-◌, ◌*◌, ◌/◌, ◌%◌, ◌^◌, Bool, true, false, cond, ◌&&◌, ltb, leb, eqb}
use Rattle.system.specs.declared.RunState.{RunState}
use Rattle.system.specs.declared.RunState.TheVariants.{Offline, Runnable, Running, Blocked}
use Rattle.system.specs.declared.VirtualCpu.{VirtualCpu}
use Rattle.system.specs.declared.Occupant.{Occupant}
use Rattle.system.specs.declared.Occupant.TheVariants.{Idle, Vcpu}
use Rattle.system.specs.declared.System.{System}
use Rattle.policy.specs.declared.Scheduler.{Scheduler}
use Rattle.advance.specs.declared.Decision.{Decision}
use Rattle.advance.specs.declared.Decision.TheVariants as decision
use Rattle.page.specs.Host.{domains, vcpus, pcpus, vcpu, holder, Found, nobody, one, best}
use Rattle.page.specs.Standing.{deserving}

-- ---- Placement: the pCPU that it was last on where that is idle and admitted, else the lowest such; 64 is none
abbrev pub admits : ℕ → ℕ → Bool
admits mask p = ltb p 64 && eqb (mask / 2 ^ p % 2) 1

abbrev pub is_idle : Occupant → Bool
is_idle Idle = true
is_idle (Vcpu d v) = false

abbrev pub fits : System → VirtualCpu → ℕ → Bool
fits s x p = (ltb p (pcpus s) && is_idle (holder s p)) && admits x.affinity p

-- the least number below n that f holds of, else n
unfoldable pub lowest : (ℕ → Bool) → ℕ → ℕ
lowest f zero = zero
lowest f (suc n) = cond (f zero) zero (suc (lowest (λ p. f (suc p)) n))

abbrev pub place : System → ℕ → ℕ → ℕ
place s d v = let x = vcpu s d v in cond (fits s x x.last) x.last (lowest (fits s x) 64)

-- ---- next
abbrev pub runnable : RunState → Bool
runnable Runnable = true
runnable Offline = false
runnable (Running p) = false
runnable Blocked = false

abbrev pub waits : System → ℕ → ℕ → Bool
waits s d v = runnable (vcpu s d v).state

-- it waits and has a placement
abbrev pub placeable : System → ℕ → ℕ → Bool
placeable s d v = waits s d v && ltb (place s d v) 64

-- Running on p for at least the slice, and somebody who waits, whose mask admits p, strictly beats it
abbrev pub somebody : Found → Bool
somebody nobody = false
somebody (one d v) = true

abbrev pub beaten : System → Scheduler → ℕ → ℕ → ℕ → ℕ → Bool
beaten s π now d v p =
    somebody (best s (λ e u. waits s e u && (admits (vcpu s e u).affinity p && deserving s π now e u d v)) (λ _ _ _ _. false))

abbrev pub loses_in : System → Scheduler → ℕ → ℕ → ℕ → RunState → Bool
loses_in s π now d v (Running p) = leb π.quantum (now - (vcpu s d v).dispatched_at) && beaten s π now d v p
loses_in s π now d v Offline = false
loses_in s π now d v Runnable = false
loses_in s π now d v Blocked = false

abbrev pub loses : System → Scheduler → ℕ → ℕ → ℕ → Bool
loses s π now d v = loses_in s π now d v (vcpu s d v).state

abbrev pub pcpu_of : RunState → ℕ
pcpu_of (Running p) = p
pcpu_of Offline = 0
pcpu_of Runnable = 0
pcpu_of Blocked = 0

-- Run the most deserving that can be placed; else Preempt the least deserving that loses; else Idle. The earliest on a tie.
abbrev pub decided : System → Found → Found → Decision
decided s (one d v) victim = decision.Run d v (place s d v)
decided s nobody (one d v) = decision.Preempt d v (pcpu_of (vcpu s d v).state)
decided s nobody nobody = decision.Idle

unfoldable pub next : System → Scheduler → ℕ → Decision
next s π now =
    decided s (best s (placeable s) (deserving s π now)) (best s (loses s π now) (λ d v e u. deserving s π now e u d v))

-- the most moves of an advance
abbrev pub limit : System → ℕ
limit s = domains s * vcpus s + 2 * pcpus s + 1
