-- What settling needs of a rule: moves at a clock change, at that clock, nobody's being barred, and a dispatch not what is had.
use Rattle.std.specs.Prelude.{ℕ, ◌^◌, ◌<◌, ◌≡◌}
use Rattle.system.specs.declared.RunState.TheVariants.{Runnable, Running}
use Rattle.system.specs.declared.VirtualCpu.{VirtualCpu}
use Rattle.system.specs.declared.System.{System}
use Rattle.system.specs.Writes.{Tables}
use Rattle.system.specs.Slots.{Present}
use Rattle.system.specs.Reads.{state_at}
use Rattle.verdict.specs.Sound.{Sound}
use Rattle.changes.specs.Records.{dispatched, left}
use Rattle.sched.specs.CanRun.{CanRun}
use Rattle.moves.specs.declared.Choice.{Choice}
use Rattle.moves.specs.declared.Choice.TheVariants.{Run, Preempt}
use Rattle.rules.specs.Settle.{enacted}
use Rattle.rules.specs.Rules.{Rule}

-- a move that may be made, whatever the rule: the dispatch of one that may be dispatched, or the preemption of a runner
pub data CanMove (s : System) : Choice → Type 0 where
  run : {i p : ℕ} → CanRun s i p → CanMove s (Run i p)
  preempt : {i p : ℕ} → Present s i → state_at s i ≡ Running p → CanMove s (Preempt i p)

pub record Steady (ρ : Rule) : Type 0 where
  pub barred : {s : System} {c : Choice} (now j : ℕ) → Tables s → Sound s → CanMove s c
      → ρ.barred (enacted s now c).system now j ≡ ρ.barred s now j
  -- Whoever is dispatched has had what it had, and so has it if it comes off again at once: settling over numbers keeps what a slot
  -- has had, and with a slice of 0 whoever was dispatched may be preempted at the same clock.
  pub onto : (v : VirtualCpu) (p now i : ℕ) → v.state ≡ Runnable → ρ.service (dispatched v p now) now i ≡ ρ.service v now i
  pub off : (v : VirtualCpu) (p now i : ℕ) → v.state ≡ Runnable → v.runtime < 2 ^ 64
      → ρ.service (left (dispatched v p now) Runnable now) now i ≡ ρ.service v now i
