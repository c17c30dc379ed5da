-- The verdict on small damaged systems, worked out by hand: each verdict, and each place in the order of the scan. Assumes nothing.
use Rattle.std.specs.Prelude.{ℕ, refl, List, [], ◌∷◌, ◌++◌, Option, None, Some}
use Rattle.rows.specs.Rows.{Row, rows, test, AllDue}
use Rattle.system.specs.declared.RunState.{RunState}
use Rattle.system.specs.declared.RunState.TheVariants.{Runnable, Running}
use Rattle.system.specs.declared.Occupant.TheVariants.{Vcpu}
use Rattle.system.specs.declared.System.{System}
use Rattle.system.specs.Reads.{vcpu_at, occupant_at}
use Rattle.system.specs.Shape.{fresh}
use Rattle.system.specs.Slots.{slot}
use Rattle.system.specs.Writes.{put_vcpu, put_occupant}
use Rattle.verdict.specs.declared.Violation.{Violation}
use Rattle.verdict.specs.declared.Violation.TheVariants.{Oversize, OccupantGhost, OccupantNotRunning}
use Rattle.verdict.specs.declared.Violation.TheVariants.{RunningGhostPcpu, OccupancyBroken, RunningOffAffinity}
use Rattle.verdict.specs.Violations.{slot_violation, pcpu_violation, earliest, first_violation}
use Rattle.verdict.specs.OneViolation.{pcpu_index, vcpu_violation_at, runs_within}

-- 0 none; 1 oversize; of a vCPU 2 ghost pCPU, 3 broken occupancy, 4 off affinity; of a pCPU 5 ghost occupant, 6 occupant not running
abbrev numbered : Option Violation → List ℕ
numbered None = 0 ∷ []
numbered (Some Oversize) = 1 ∷ []
numbered (Some (RunningGhostPcpu d v)) = 2 ∷ d ∷ v ∷ []
numbered (Some (OccupancyBroken d v)) = 3 ∷ d ∷ v ∷ []
numbered (Some (RunningOffAffinity d v)) = 4 ∷ d ∷ v ∷ []
numbered (Some (OccupantGhost p)) = 5 ∷ p ∷ []
numbered (Some (OccupantNotRunning p)) = 6 ∷ p ∷ []

abbrev found : System → List ℕ
found s = numbered (first_violation s)

-- ---- what is put into a system, unchecked

-- d/v is in a state, with a mask
abbrev is : ℕ → ℕ → RunState → ℕ → System → System
is d v st m s = put_vcpu s (slot d v) (record { state = st; runtime = 0; dispatched_at = 0; affinity = m; last = 64 })

-- pCPU p names d/v
abbrev names : ℕ → ℕ → ℕ → System → System
names p d v s = put_occupant s p (Vcpu d v)

-- d/v runs on p, which names it back and is admitted
abbrev runs : ℕ → ℕ → ℕ → System → System
runs d v p s = names p d v (is d v (Running p) 3 s)

-- other counts
abbrev sized : ℕ → ℕ → ℕ → System → System
sized d v p s =
    record { domain_count = d; vcpus_per_domain = v; pcpu_count = p; vcpus = s.vcpus; pcpus = s.pcpus }

-- 2 domains of 2 vCPUs on 2 pCPUs, as built
abbrev host : System
host = fresh 2 2 2

abbrev pub verdicts : List Row
verdicts =
    -- nothing is wrong: as built, with a runner, with runners on all pCPUs, and at the sizes
    rows (found host) (0 ∷ [])
    ∷ rows (found (runs 1 1 0 host)) (0 ∷ [])
    ∷ rows (found (runs 0 1 1 (runs 1 0 0 host))) (0 ∷ [])
    ∷ rows (found (sized 16 8 64 host)) (0 ∷ [])
    -- a count above its size, whatever else is wrong
    ∷ rows (found (sized 17 2 2 host)) (1 ∷ [])
    ∷ rows (found (sized 2 9 2 host)) (1 ∷ [])
    ∷ rows (found (sized 2 2 65 host)) (1 ∷ [])
    ∷ rows (found (sized 2 2 65 (is 0 0 (Running 65) 3 host))) (1 ∷ [])
    -- a vCPU runs on a pCPU that is not there
    ∷ rows (found (is 1 0 (Running 2) 7 host)) (2 ∷ 1 ∷ 0 ∷ [])
    -- on one that is idle, or that names another
    ∷ rows (found (is 1 0 (Running 1) 3 host)) (3 ∷ 1 ∷ 0 ∷ [])
    ∷ rows (found (is 1 1 (Running 0) 3 (runs 1 0 0 host))) (3 ∷ 1 ∷ 1 ∷ [])
    ∷ rows (found (is 0 1 (Running 0) 3 (runs 1 1 0 host))) (3 ∷ 0 ∷ 1 ∷ [])
    -- on one that its mask does not admit
    ∷ rows (found (is 1 0 (Running 1) 1 (names 1 1 0 host))) (4 ∷ 1 ∷ 0 ∷ [])
    -- of one vCPU: the pCPU, then who it names, then the mask
    ∷ rows (found (is 1 0 (Running 2) 3 host)) (2 ∷ 1 ∷ 0 ∷ [])
    ∷ rows (found (is 1 0 (Running 1) 1 host)) (3 ∷ 1 ∷ 0 ∷ [])
    -- a pCPU names a domain or a vCPU that is not there
    ∷ rows (found (names 1 2 0 host)) (5 ∷ 1 ∷ [])
    ∷ rows (found (names 1 0 2 host)) (5 ∷ 1 ∷ [])
    -- one that does not run, or runs elsewhere
    ∷ rows (found (names 1 0 1 (is 0 1 Runnable 3 host))) (6 ∷ 1 ∷ [])
    ∷ rows (found (names 1 0 1 (runs 0 1 0 host))) (6 ∷ 1 ∷ [])
    -- all vCPUs come before all pCPUs
    ∷ rows (found (names 0 2 0 (is 1 1 (Running 1) 3 host))) (3 ∷ 1 ∷ 1 ∷ [])
    -- vCPUs by domain, then vCPU, whatever is wrong with each
    ∷ rows (found (is 0 1 (Running 1) 3 (is 1 0 (Running 2) 3 host))) (3 ∷ 0 ∷ 1 ∷ [])
    ∷ rows (found (is 1 0 (Running 1) 1 (names 1 1 0 (is 1 1 (Running 2) 3 host)))) (4 ∷ 1 ∷ 0 ∷ [])
    -- pCPUs by number, whatever is wrong with each
    ∷ rows (found (names 0 0 0 (names 1 2 0 host))) (6 ∷ 0 ∷ [])
    ∷ rows (found (names 0 2 0 (names 1 0 0 host))) (5 ∷ 0 ∷ [])
    -- what stands outside the counts is not looked at
    ∷ rows (found (is 0 2 (Running 0) 3 host)) (0 ∷ [])
    ∷ rows (found (is 2 0 (Running 0) 3 host)) (0 ∷ [])
    ∷ rows (found (names 2 0 0 host)) (0 ∷ [])
    ∷ []

-- what is said of one vCPU by its record and its pCPU's
abbrev pub elements : List Row
elements =
    -- the index of its pCPU; past the table one of it
    rows (pcpu_index (Running 5) ∷ pcpu_index (Running 69) ∷ pcpu_index Runnable ∷ []) (5 ∷ 5 ∷ 0 ∷ [])
    -- whether vCPU 1 of 2, or of 1, runs
    ∷ rows (test (runs_within 2 1 (Running 0)) ∷ test (runs_within 1 1 (Running 0)) ∷ test (runs_within 2 1 Runnable) ∷ []) (1 ∷ 0 ∷ 0 ∷ [])
    -- 1/0 on pCPU 1 of 2, of 1, under another, and outside its mask
    ∷ rows (numbered (vcpu_violation_at 2 (Vcpu 1 0) 1 0 2 (Running 1))) (0 ∷ [])
    ∷ rows (numbered (vcpu_violation_at 1 (Vcpu 1 0) 1 0 2 (Running 1))) (2 ∷ 1 ∷ 0 ∷ [])
    ∷ rows (numbered (vcpu_violation_at 2 (Vcpu 0 1) 1 0 2 (Running 1))) (3 ∷ 1 ∷ 0 ∷ [])
    ∷ rows (numbered (vcpu_violation_at 2 (Vcpu 1 0) 1 0 1 (Running 1))) (4 ∷ 1 ∷ 0 ∷ [])
    ∷ rows (numbered (vcpu_violation_at 2 (Vcpu 0 1) 1 0 1 Runnable)) (0 ∷ [])
    ∷ []

pub verdicts-due : AllDue (verdicts ++ elements)
unfolding fresh vcpu_at occupant_at put_vcpu put_occupant slot_violation pcpu_violation earliest first_violation
verdicts-due = refl
