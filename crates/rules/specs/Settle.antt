-- Settling: the choice enacted until there is none.
use Rattle.std.specs.Prelude.{ℕ, zero, suc, ◌+◌, ◌*◌, cond, List, [], ◌∷◌, eqb}
use Rattle.system.specs.declared.System.{System}
use Rattle.system.specs.Answers.{SystemOutcome}
use Rattle.system.specs.Slots.{domains, vcpus, pcpus}
use Rattle.calls.specs.declared.Request.{Request}
use Rattle.sched.specs.Steps.{made, done}
use Rattle.moves.specs.declared.Choice.{Choice}
use Rattle.moves.specs.declared.Choice.TheVariants.{Run, Preempt, Rest}
use Rattle.rules.specs.Rules.{Rule}
use Rattle.rules.specs.Choices.{choice}

-- a move made by the mechanism
unfoldable pub enacted : System → ℕ → Choice → SystemOutcome
enacted s now (Run i p) = made s i (Request.Run p now)
enacted s now (Preempt i p) = made s i (Request.Preempt now)
enacted s now Rest = done s

-- the slot that moves, and the pCPU that it moves onto or off
abbrev pub slot_in : Choice → ℕ
slot_in (Run i p) = i
slot_in (Preempt i p) = i
slot_in Rest = 0

abbrev pub onto_in : Choice → ℕ
onto_in (Run i p) = p
onto_in (Preempt i p) = p
onto_in Rest = 0

-- a system, and the moves that led there, in order
pub record Settled : Type 0 where
  pub system : System
  pub moves : List Choice

abbrev pub with_move : Choice → Settled → Settled
with_move c r = record { system = r.system; moves = c ∷ r.moves }

abbrev pub go_on : (System → Settled) → System → ℕ → Choice → Settled
go_on rest s now (Run i p) = with_move (Run i p) (rest (enacted s now (Run i p)).system)
go_on rest s now (Preempt i p) = with_move (Preempt i p) (rest (enacted s now (Preempt i p)).system)
go_on rest s now Rest = record { system = s; moves = [] }

-- the next move enacted until there is none, at most k times
unfoldable pub settle : Rule → ℕ → ℕ → System → Settled
settle ρ now zero s = record { system = s; moves = [] }
settle ρ now (suc k) s = go_on (λ t. settle ρ now k t) s now (choice s ρ now)

-- how many of a list's moves are on pCPU p
abbrev pub on_pcpu : ℕ → Choice → ℕ
on_pcpu p (Run i q) = cond (eqb q p) 1 0
on_pcpu p (Preempt i q) = cond (eqb q p) 1 0
on_pcpu p Rest = 0

unfoldable pub moves_on : ℕ → List Choice → ℕ
moves_on p [] = 0
moves_on p (c ∷ cs) = on_pcpu p c + moves_on p cs

-- vCPUs + 2 × pCPUs + 1
abbrev pub limit : System → ℕ
limit s = domains s * vcpus s + 2 * pcpus s + 1
