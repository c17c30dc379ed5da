-- Verdicts: what can be wrong with a system, and which of it is found first.
use Rattle.std.specs.Prelude.{ℕ, zero, suc, ◌*◌, ◌/◌, ◌%◌, Bool, false, cond, ◌&&◌, Option, None, Some, is_none, ltb, eqb}
use Rattle.std.specs.Option.{option_or}
use Rattle.masks.specs.Masks.{permits}
use Rattle.system.specs.declared.RunState.{RunState}
use Rattle.system.specs.declared.Occupant.{Occupant}
use Rattle.system.specs.declared.Occupant.TheVariants.{Idle, Vcpu}
use Rattle.system.specs.declared.System.{System}
use Rattle.system.specs.States.{while_running, runs_on}
use Rattle.system.specs.Shape.{within_sizes}
use Rattle.system.specs.Reads.{vcpu_at, occupant_at}
use Rattle.system.specs.Slots.{domains, vcpus, pcpus, slot}
use Rattle.verdict.specs.declared.Violation.{Violation}
use Rattle.verdict.specs.declared.Violation.TheVariants.{Oversize, OccupantGhost, OccupantNotRunning}
use Rattle.verdict.specs.declared.Violation.TheVariants.{RunningGhostPcpu, OccupancyBroken, RunningOffAffinity}

-- the occupant is vCPU d/v
abbrev pub names : Occupant → ℕ → ℕ → Bool
names Idle d v = false
names (Vcpu e u) d v = eqb e d && eqb u v

-- d/v is Running on pCPU p of n, whose occupant is o: p exists, o is d/v, the mask admits p
abbrev pub running_violation : ℕ → Occupant → ℕ → ℕ → ℕ → ℕ → Option Violation
running_violation n o d v mask p =
    cond (ltb p n) (cond (names o d v) (cond (permits mask p) None (Some (RunningOffAffinity d v))) (Some (OccupancyBroken d v)))
    (Some (RunningGhostPcpu d v))

abbrev pub vcpu_violation : System → ℕ → ℕ → ℕ → RunState → Option Violation
vcpu_violation s d v mask st = while_running st (λ p. running_violation (pcpus s) (occupant_at s p) d v mask p) None

-- slot i is that of d/v with d = i / 8 and v = i % 8, so slots in order are vCPUs by domain, then vCPU
unfoldable pub slot_violation : System → ℕ → Option Violation
slot_violation s i =
    cond (ltb (i % 8) (vcpus s)) (vcpu_violation s (i / 8) (i % 8) (vcpu_at s i).affinity (vcpu_at s i).state) None

-- d/v, of n domains of k vCPUs, holds pCPU p and has the state st: d/v exists and is Running on p
abbrev pub occupant_violation : ℕ → ℕ → RunState → ℕ → ℕ → ℕ → Option Violation
occupant_violation n k st p d v =
    cond (ltb d n && ltb v k) (cond (runs_on p st) None (Some (OccupantNotRunning p))) (Some (OccupantGhost p))

abbrev pub holder_violation : System → ℕ → Occupant → Option Violation
holder_violation s p Idle = None
holder_violation s p (Vcpu d v) = occupant_violation (domains s) (vcpus s) (vcpu_at s (slot d v)).state p d v

unfoldable pub pcpu_violation : System → ℕ → Option Violation
pcpu_violation s p = holder_violation s p (occupant_at s p)

-- the first of f 0, f 1, .. f (n - 1) that is a violation
unfoldable pub earliest : (ℕ → Option Violation) → ℕ → Option Violation
earliest f zero = None
earliest f (suc n) = option_or (earliest f n) (f n)

-- sizes first, then all vCPUs, then all pCPUs
unfoldable pub first_violation : System → Option Violation
first_violation s =
    cond (within_sizes s.domain_count s.vcpus_per_domain s.pcpu_count)
    (option_or (earliest (slot_violation s) (domains s * 8)) (earliest (pcpu_violation s) (pcpus s)))
    (Some Oversize)

unfoldable pub invariants_hold : System → Bool
invariants_hold s = is_none (first_violation s)
