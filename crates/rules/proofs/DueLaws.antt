-- Who is due: whoever the choice preempts; nobody who was dispatched just now, where the slice is at least 1; and a move changes it for
-- nobody but the slot that moves. Assumes nothing.
use Prim.Native.Nat.{ℕ, ◌-◌, ◌≤◌, min}
use mathlib.Core.Bool.{false, and-false}
use mathlib.Core.Path.{◌≡◌, ap}
use mathlib.Core.Logic.{◌≢◌}
use native.Mathlib.Omega.{arith}
use borrow.Author.Tests.{lt-leb}
use Rattle.system.specs.declared.VirtualCpu.{VirtualCpu}
use Rattle.system.specs.declared.Occupant.{Occupant}
use Rattle.system.specs.declared.System.{System}
use Rattle.system.specs.Writes.{Tables, Wrote}
use Rattle.system.specs.Slots.{present}
use Rattle.verdict.specs.Sound.{Sound}
use Rattle.changes.specs.Records.{dispatched}
use Rattle.sched.specs.CanRun.{CanRun}
use Rattle.moves.specs.declared.Choice.{Choice}
use Rattle.moves.specs.declared.Choice.TheVariants.{Run, Preempt}
use Rattle.rules.specs.Rules.{Rule}
use Rattle.rules.specs.Choices.{standings, choice}
use Rattle.rules.proofs.ChoiceLaws.{can-expired, choice-preempt}
use Rattle.rules.specs.Due.{due, IsDue}
use Rattle.rules.specs.Settle.{enacted, slot_in}
use Rattle.rules.specs.Steady.{CanMove, run, preempt}
use Rattle.rules.proofs.OneMove.{run-wrote, preempt-wrote}

pub chosen-due : (s : System) (ρ : Rule) (now i p : ℕ) → choice s ρ now ≡ Preempt i p → IsDue s ρ now i p
unfolding due
chosen-due s ρ now i p e =
    let c = choice-preempt s ρ now i p e in
    record { present = c.present; on = c.on; due = can-expired s ρ now i p c }

module _ {s : System} (ρ : Rule) (now : ℕ) (T : Tables s) where
  pub dispatched-not-due : {i p : ℕ} → 1 ≤ ρ.slice → CanRun s i p → due (enacted s now (Run i p)).system ρ now i ≡ false
  unfolding due standings dispatched
  dispatched-not-due {i} {p} h c =
      rw ((run-wrote s now i p T c).here, lt-leb ρ.slice (now - now) (omega arith))
      (and-false (present (enacted s now (Run i p)).system i))

  -- being past its slice is a matter of the vCPU's own record
  wrote-same : {s' : System} {i p : ℕ} {v : VirtualCpu} {o : Occupant} → Wrote s s' i v p o → (j : ℕ) → j ≢ i
      → due s' ρ now j ≡ due s ρ now j
  unfolding due standings
  wrote-same w j n = rw (ap (λ (k : ℕ). min k 8) w.shape.vcpus, w.there j n)

  pub due-same : Sound s → {c : Choice} → CanMove s c → (j : ℕ) → j ≢ slot_in c → due (enacted s now c).system ρ now j ≡ due s ρ now j
  due-same S (run {i = i} {p = p} c) = wrote-same (run-wrote s now i p T c)
  due-same S (preempt {i = i} {p = p} h on) = wrote-same (preempt-wrote s now i p T S h on)
