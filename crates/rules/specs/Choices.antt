-- The next move under a rule: who waits, who may be preempted, and the decision over these.
use Rattle.std.specs.Prelude.{ℕ, Bool, false, not, ◌&&◌, leb}
use Rattle.system.specs.declared.RunState.{RunState}
use Rattle.system.specs.declared.System.{System}
use Rattle.system.specs.Records.{elapsed}
use Rattle.system.specs.Reads.{vcpu_at, idle_at}
use Rattle.system.specs.Slots.{slots, present}
use Rattle.system.specs.States.{onto, while_running, is_runnable}
use Rattle.moves.specs.declared.Choice.{Choice}
use Rattle.moves.specs.Decide.{Standings, decide, by_lowest}
use Rattle.rules.specs.Rules.{Rule, beats}

-- Running for at least the slice
abbrev pub is_expired : ℕ → ℕ → RunState → Bool
is_expired q e st = while_running st (λ p. leb q e) false

unfoldable pub standings : System → Rule → ℕ → Standings
standings s ρ now =
    record {
      waits = λ i. present s i && (is_runnable (vcpu_at s i).state && not (ρ.barred s now i));
      expired = λ i. present s i && is_expired ρ.slice (elapsed (vcpu_at s i) now) (vcpu_at s i).state;
      on = λ i. onto (vcpu_at s i).state;
      mask = λ i. (vcpu_at s i).affinity;
      last = λ i. (vcpu_at s i).last;
      beats = beats ρ s now;
      idle = idle_at s;
    }

-- the next move
unfoldable pub choice : System → Rule → ℕ → Choice
choice s ρ now = decide (standings s ρ now) (slots s)

-- the next move by the rule without the pCPU that a vCPU was last on, the rule that upstream decides by
unfoldable pub choice_by_lowest : System → Rule → ℕ → Choice
choice_by_lowest s ρ now = decide (by_lowest (standings s ρ now)) (slots s)
