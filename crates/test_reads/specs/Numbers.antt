-- The numbers that stand for an answer which is no number.
use Rattle.std.specs.Prelude.{ℕ, ◌+◌, List, [], ◌∷◌, Option, None, Some}
use Rattle.system.specs.declared.RunState.TheVariants.{Offline, Runnable, Running, Blocked}
use Rattle.system.specs.declared.Occupant.{Occupant}
use Rattle.system.specs.declared.Occupant.TheVariants as occupant
use Rattle.verdict.specs.declared.Violation.{Violation}
use Rattle.verdict.specs.declared.Violation.TheVariants.{Oversize, OccupantGhost, OccupantNotRunning}
use Rattle.verdict.specs.declared.Violation.TheVariants.{RunningGhostPcpu, OccupancyBroken, RunningOffAffinity}
use Rattle.advance.specs.declared.Decision.{Decision}
use Rattle.advance.specs.declared.Decision.TheVariants.{Run, Preempt, Idle}
use Rattle.system.specs.declared.RunState.{RunState}

-- 0 where the ids are out of range; p + 4 while Running on p
abbrev pub maybe_state_number : Option RunState → ℕ
maybe_state_number None = 0
maybe_state_number (Some Offline) = 1
maybe_state_number (Some Runnable) = 2
maybe_state_number (Some Blocked) = 3
maybe_state_number (Some (Running p)) = p + 4

-- whether there is a number, and the number
abbrev pub maybe_numbers : Option ℕ → List ℕ
maybe_numbers None = 0 ∷ 0 ∷ []
maybe_numbers (Some n) = 1 ∷ n ∷ []

-- whether somebody holds it, and who
abbrev pub holder_numbers : Occupant → List ℕ
holder_numbers occupant.Idle = 0 ∷ 0 ∷ 0 ∷ []
holder_numbers (occupant.Vcpu d v) = 1 ∷ d ∷ v ∷ []

-- what is wrong, and where: a vCPU or a pCPU
abbrev pub violation_numbers : Option Violation → List ℕ
violation_numbers None = 0 ∷ 0 ∷ 0 ∷ []
violation_numbers (Some Oversize) = 1 ∷ 0 ∷ 0 ∷ []
violation_numbers (Some (RunningGhostPcpu d v)) = 2 ∷ d ∷ v ∷ []
violation_numbers (Some (OccupancyBroken d v)) = 3 ∷ d ∷ v ∷ []
violation_numbers (Some (RunningOffAffinity d v)) = 4 ∷ d ∷ v ∷ []
violation_numbers (Some (OccupantGhost p)) = 5 ∷ p ∷ 0 ∷ []
violation_numbers (Some (OccupantNotRunning p)) = 6 ∷ p ∷ 0 ∷ []

-- which move, of whom, onto or off which pCPU
abbrev pub decision_numbers : Decision → List ℕ
decision_numbers Idle = 0 ∷ 0 ∷ 0 ∷ 0 ∷ []
decision_numbers (Run d v p) = 1 ∷ d ∷ v ∷ p ∷ []
decision_numbers (Preempt d v p) = 2 ∷ d ∷ v ∷ p ∷ []
