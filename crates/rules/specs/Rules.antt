-- A rule to decide by: how long the slice is, who is held back, and how much each vCPU has had, for which weight. Nothing else of a
-- policy enters a decision.
use Rattle.std.specs.Prelude.{ℕ, Bool}
use Rattle.service.specs.Service.{more_deserving}
use Rattle.system.specs.declared.VirtualCpu.{VirtualCpu}
use Rattle.system.specs.declared.System.{System}
use Rattle.system.specs.Reads.{vcpu_at}

pub record Rule : Type 0 where
  -- a runner may be preempted once it has held its pCPU for this long
  pub slice : ℕ
  -- by system, clock and slot: it is not dispatched, nor is anybody preempted for it
  pub barred : System → ℕ → ℕ → Bool
  -- By a vCPU's record, clock and slot: what it has had. It may ignore the record, as a rank does that no move of an advance changes:
  -- then it is the rank that the advance began with. Nothing is assumed of it but what `Steady` says.
  pub service : VirtualCpu → ℕ → ℕ → ℕ
  -- by slot
  pub weight : ℕ → ℕ

-- i has had less service for its weight than j
abbrev pub beats : Rule → System → ℕ → ℕ → ℕ → Bool
beats ρ s now i j = more_deserving (ρ.service (vcpu_at s i) now i) (ρ.weight i) (ρ.service (vcpu_at s j) now j) (ρ.weight j)
