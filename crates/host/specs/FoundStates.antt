-- When a call is told in which state it found its vCPU: exactly where it passes the tests before that one and does not
-- accept the state. It is proved as `step-found` of every call and every host, damaged or not.
use Rattle.std.specs.Prelude.{ℕ, ◌<◌, Bool, true, false, ◌≡◌, ◌↔◌, None, Some}
use Rattle.system.specs.declared.RunState.{RunState}
use Rattle.system.specs.declared.RunState.TheVariants.{Offline, Runnable, Running, Blocked}
use Rattle.system.specs.declared.System.{System}
use Rattle.system.specs.declared.Answer.TheVariants.{FoundOffline, FoundRunnable, FoundRunning, FoundBlocked}
use Rattle.system.specs.Answers.{told}
use Rattle.system.specs.Reads.{state_of}
use Rattle.system.specs.Slots.{domains, vcpus, pcpus}
use Rattle.verdict.specs.Violations.{first_violation}
use Rattle.calls.specs.declared.Request.{Request}
use Rattle.changes.specs.Changes.{reaches}
use Rattle.host.specs.declared.Host.{Host}
use Rattle.calls.specs.declared.Call.{Call}
use Rattle.host.specs.Step.{step}

-- whether that state is one of them
abbrev among : Bool → Bool → Bool → Bool → RunState → Bool
among offline runnable running blocked Offline = offline
among offline runnable running blocked Runnable = runnable
among offline runnable running blocked (Running p) = running
among offline runnable running blocked Blocked = blocked

-- the states that a request accepts: Offline, Runnable, Running, Blocked
abbrev pub accepts : Request → RunState → Bool
accepts Request.Admit = among true false false false
accepts (Request.Run p now) = among false true false false
accepts (Request.Preempt now) = among false false true false
accepts (Request.Block now) = among false true true false
accepts Request.Wake = among false false false true
accepts (Request.SetAffinity m) = among true true true true
accepts (Request.Offline now) = among false true true true

-- a request of d/v passes the tests for 8, 3, 1 and 2, and finds d/v in a state that it does not accept
pub record Finds (s : System) (d v : ℕ) (q : Request) (st : RunState) : Type 0 where
  pub sound : first_violation s ≡ None
  -- of a run alone: there is such a pCPU
  pub pcpu : reaches q (pcpus s) ≡ true
  pub domain : d < domains s
  pub vcpu : v < vcpus s
  pub state : state_of s d v ≡ Some st
  pub unaccepted : accepts q st ≡ false

-- what a call finds so; a mask is accepted in every state, and the other calls name no vCPU whose state is tested
abbrev pub FindsBy : Call → System → RunState → Type 0
FindsBy (Call.Ask d v q) s = Finds s d v q
FindsBy (Call.OfflineAll d now) s = λ st. ⊥
FindsBy (Call.SetWeight d v w) s = λ st. ⊥
FindsBy (Call.SetWakeBoost on) s = λ st. ⊥
FindsBy (Call.Advance now) s = λ st. ⊥

-- each of the four numbers is told exactly where its state is so found
pub record ToldWhere (found : RunState → Type 0) (n : ℕ) : Type 0 where
  pub offline : (n ≡ told FoundOffline) ↔ found Offline
  pub runnable : (n ≡ told FoundRunnable) ↔ found Runnable
  pub running : (n ≡ told FoundRunning) ↔ ((p : ℕ) × found (Running p))
  pub blocked : (n ≡ told FoundBlocked) ↔ found Blocked

abbrev pub EveryFound : Type 0
EveryFound = (h : Host) (c : Call) → ToldWhere (FindsBy c h.system) (step h c).number
