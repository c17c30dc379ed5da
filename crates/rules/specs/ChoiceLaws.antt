-- What the laws of the choice speak of: whom it may preempt, who may replace whom, those that it picks from, and who waits.
use Rattle.std.specs.Prelude.{ℕ, ◌≤◌, ◌≡◌}
use Rattle.std.proofs.Math.Bool.{true, false}
use Rattle.system.specs.declared.RunState.TheVariants.{Runnable, Running}
use Rattle.system.specs.declared.System.{System}
use Rattle.system.specs.Records.{elapsed}
use Rattle.system.specs.Reads.{vcpu_at, state_at, admits}
use Rattle.system.specs.Slots.{Present}
use Rattle.sched.specs.CanRun.{CanRun}
use Rattle.rules.specs.Rules.{Rule, beats}

-- the choice may preempt the runner of slot i on pCPU p: it has held it for the slice
pub record CanPreempt (s : System) (ρ : Rule) (now i p : ℕ) : Type 0 where
  pub present : Present s i
  pub on : state_at s i ≡ Running p
  pub late : ρ.slice ≤ elapsed (vcpu_at s i) now

-- j waits, not barred, may run on p, and has had less service for its weight than i
pub record Rival (s : System) (ρ : Rule) (now i p j : ℕ) : Type 0 where
  pub present : Present s j
  pub ready : state_at s j ≡ Runnable
  pub unbarred : ρ.barred s now j ≡ false
  pub affine : admits s j p ≡ true
  pub wins : beats ρ s now j i ≡ true

-- those that a Run is chosen from
pub record Placeable (s : System) (ρ : Rule) (now i : ℕ) : Type 0 where
  pub onto : ℕ
  pub can : CanRun s i onto
  pub unbarred : ρ.barred s now i ≡ false

-- those that a Preempt is chosen from
pub record Preemptible (s : System) (ρ : Rule) (now i : ℕ) : Type 0 where
  pub on : ℕ
  pub can : CanPreempt s ρ now i on
  pub by : ℕ
  pub rival : Rival s ρ now i on by

-- who waits
pub record Waits (s : System) (ρ : Rule) (now i : ℕ) : Type 0 where
  pub present : Present s i
  pub ready : state_at s i ≡ Runnable
  pub unbarred : ρ.barred s now i ≡ false
