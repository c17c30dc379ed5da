-- What a machine owes, so that the theorems about lists hold of it: its calls are those of the mechanism, and its
-- advances are made of moves that the mechanism allows. Which moves they are is the machine's own.
use Rattle.std.specs.Prelude.{ℕ, Bool, ◌≡◌, List, [], ◌∷◌}
use Rattle.system.specs.declared.RunState.TheVariants.{Running}
use Rattle.system.specs.declared.System.{System}
use Rattle.system.specs.declared.Answer.TheVariants.{Done}
use Rattle.system.specs.Answers.{told, SystemOutcome}
use Rattle.system.specs.Reads.{state_at}
use Rattle.system.specs.Slots.{Present}
use Rattle.system.specs.Writes.{Tables}
use Rattle.verdict.specs.Sound.{Sound}
use Rattle.calls.specs.declared.Request.{Request}
use Rattle.calls.specs.declared.Call.{Call}
use Rattle.sched.specs.CanRun.{CanRun}
use Rattle.sched.specs.Steps as sched
use Rattle.moves.specs.declared.Choice.{Choice}
use Rattle.moves.specs.declared.Choice.TheVariants.{Run, Preempt}
use Rattle.rules.specs.Settle.{enacted}
use Rattle.demand3.specs.Machine.{Machine}

-- moves made one after another at one clock, each of somebody who may be moved so where it is made
pub data Enacts (now : ℕ) : System → List Choice → System → Type 0 where
  rests : {s : System} → Enacts now s [] s
  runs : {s t : System} {i p : ℕ} {cs : List Choice} → CanRun s i p
      → Enacts now (enacted s now (Run i p)).system cs t → Enacts now s (Run i p ∷ cs) t
  preempts : {s t : System} {i p : ℕ} {cs : List Choice} → Present s i → state_at s i ≡ Running p
      → Enacts now (enacted s now (Preempt i p)).system cs t → Enacts now s (Preempt i p ∷ cs) t

module _ (M : Machine) where
  -- a call of the mechanism: what it tells and the system that it leaves
  pub record Makes (h : M.Host) (c : Call) (r : SystemOutcome) : Type 0 where
    pub number : M.number h c ≡ r.number
    pub system : M.system (M.after h c) ≡ r.system

  -- an advance at a clock
  pub record Advances (h : M.Host) (now : ℕ) : Type 0 where
    pub number : M.number h (Call.Advance now) ≡ told Done
    pub enacts : Enacts now (M.system h) (M.moves h (Call.Advance now)) (M.system (M.after h (Call.Advance now)))

  pub record Lawful : Type 0 where
    -- a request of a vCPU and `offline_all` are what the mechanism makes of the system
    pub ask : (h : M.Host) (d v : ℕ) (q : Request) → Makes h (Call.Ask d v q) (sched.requested (M.system h) d v q)
    pub offline-all : (h : M.Host) (d now : ℕ)
        → Makes h (Call.OfflineAll d now) (sched.offline_all (M.system h) d now)
    -- a setting is told 0 and leaves the system as it was
    pub weight : (h : M.Host) (d v w : ℕ) → Makes h (Call.SetWeight d v w) (sched.done (M.system h))
    pub boost : (h : M.Host) (on : Bool) → Makes h (Call.SetWakeBoost on) (sched.done (M.system h))
    -- an advance of a sound system is told 0, and its moves lead from the system before it to the one after it
    pub advance : (h : M.Host) (now : ℕ) → Tables (M.system h) → Sound (M.system h) → Advances h now
    -- a call of a sound system that is refused leaves the host as it was
    pub refused : (h : M.Host) (c : Call) → Tables (M.system h) → Sound (M.system h)
        → (M.number h c ≡ told Done → ⊥) → M.after h c ≡ h
