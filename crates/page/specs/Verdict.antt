-- What is wrong with a system, in the order in which it is looked for.
use Rattle.std.specs.Prelude.{ℕ, Bool, false, cond, ◌&&◌, ltb, leb, eqb, Option, None, Some, is_none}
use Rattle.system.specs.declared.RunState.{RunState}
use Rattle.system.specs.declared.RunState.TheVariants.{Offline, Runnable, Running, Blocked}
use Rattle.system.specs.declared.Occupant.{Occupant}
use Rattle.system.specs.declared.Occupant.TheVariants.{Idle, Vcpu}
use Rattle.system.specs.declared.System.{System}
use Rattle.verdict.specs.declared.Violation.{Violation}
use Rattle.verdict.specs.declared.Violation.TheVariants.{Oversize, OccupantGhost, OccupantNotRunning}
use Rattle.verdict.specs.declared.Violation.TheVariants.{RunningGhostPcpu, OccupancyBroken, RunningOffAffinity}
use Rattle.page.specs.Host.{domains, vcpus, pcpus, vcpu, holder, times, each}
use Rattle.page.specs.Next.{admits}

-- ---- first_violation: sizes, then all vCPUs, then all pCPUs
abbrev pub names : Occupant → ℕ → ℕ → Bool
names Idle d v = false
names (Vcpu e u) d v = eqb e d && eqb u v

abbrev pub vcpu_wrong : System → ℕ → ℕ → RunState → Option Violation
vcpu_wrong s d v (Running p) =
    cond (ltb p (pcpus s))
    (cond (names (holder s p) d v) (cond (admits (vcpu s d v).affinity p) None (Some (RunningOffAffinity d v))) (Some (OccupancyBroken d v)))
    (Some (RunningGhostPcpu d v))
vcpu_wrong s d v Offline = None
vcpu_wrong s d v Runnable = None
vcpu_wrong s d v Blocked = None

abbrev pub runs_on : RunState → ℕ → Bool
runs_on (Running q) p = eqb q p
runs_on Offline p = false
runs_on Runnable p = false
runs_on Blocked p = false

abbrev pub pcpu_wrong : System → ℕ → Occupant → Option Violation
pcpu_wrong s p Idle = None
pcpu_wrong s p (Vcpu d v) =
    cond (ltb d (domains s) && ltb v (vcpus s)) (cond (runs_on (vcpu s d v).state p) None (Some (OccupantNotRunning p))) (Some (OccupantGhost p))

-- what was found stays
abbrev pub first : Option Violation → Option Violation → Option Violation
first found w = cond (is_none found) w found

unfoldable pub first_violation : System → Option Violation
first_violation s =
    cond (leb s.domain_count 16 && (leb s.vcpus_per_domain 8 && leb s.pcpu_count 64))
    (times (λ p found. first found (pcpu_wrong s p (holder s p))) (pcpus s)
    (each s (λ d v found. first found (vcpu_wrong s d v (vcpu s d v).state)) None))
    (Some Oversize)

unfoldable pub sound : System → Bool
sound s = is_none (first_violation s)
