-- Who may be taken off its pCPU. Today that is who is past its slice; a rule by which a runner is forced off adds a case here, to
-- `due` and to `TakenOff`, and what is said of moves one after another stays as it is.
use Rattle.std.specs.Prelude.{ℕ, Bool, true, ◌≡◌}
use Rattle.system.specs.declared.RunState.TheVariants.{Running}
use Rattle.system.specs.declared.System.{System}
use Rattle.system.specs.Reads.{state_at}
use Rattle.system.specs.Slots.{Present}
use Rattle.moves.specs.declared.Choice.TheVariants.{Preempt}
use Rattle.rules.specs.Rules.{Rule}
use Rattle.rules.specs.Choices.{standings, choice}

-- whether slot i may be taken off: past its slice
unfoldable pub due : System → Rule → ℕ → ℕ → Bool
due s ρ now i = (standings s ρ now).expired i

-- the runner of slot i on pCPU p may be taken off it
pub record IsDue (s : System) (ρ : Rule) (now i p : ℕ) : Type 0 where
  pub present : Present s i
  pub on : state_at s i ≡ Running p
  pub due : Rattle.rules.specs.Due.due s ρ now i ≡ true

-- why it is: it is the choice
pub data TakenOff (s : System) (ρ : Rule) (now i p : ℕ) : Type 0 where
  chosen : choice s ρ now ≡ Preempt i p → TakenOff s ρ now i p
