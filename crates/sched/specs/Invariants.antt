-- What every call keeps: soundness and the shape; run times never fall.
use Rattle.std.specs.Prelude.{ℕ, ◌^◌, ◌≤◌, ◌<◌}
use Rattle.system.specs.declared.System.{System}
use Rattle.system.specs.Writes.{Tables, SameShape}
use Rattle.system.specs.Reads.{runtime_at}
use Rattle.verdict.specs.Sound.{Sound}
use Rattle.calls.specs.declared.Request.{Request}
use Rattle.sched.specs.Steps.{requested, offline_all}

-- no run time of s' is below that of s, and all are words
pub record Grows (s s' : System) : Type 0 where
  pub time : (j : ℕ) → runtime_at s j ≤ runtime_at s' j
  pub word : (j : ℕ) → runtime_at s' j < 2 ^ 64

-- a call leaves the shape as it was and a sound system sound, and no run time falls
pub record Keeps (s s' : System) : Type 0 where
  pub shape : SameShape s s'
  pub sound : Sound s'
  pub times : ((j : ℕ) → runtime_at s j < 2 ^ 64) → Grows s s'

-- every request of a sound system, and `offline_all` of it; they are proved as `requested-keeps` and `offline-all-keeps`
abbrev pub RequestedKeeps : Type 0
RequestedKeeps = (s : System) → Sound s → Tables s → (d v : ℕ) (q : Request) → Keeps s (requested s d v q).system

abbrev pub OfflineAllKeeps : Type 0
OfflineAllKeeps = (s : System) → Sound s → Tables s → (d now : ℕ) → Keeps s (offline_all s d now).system
