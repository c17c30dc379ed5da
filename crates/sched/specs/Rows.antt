-- What calls are told, in the order of the tests, and what they leave, by hand from the requirements. Assumes nothing.
use Rattle.std.specs.Prelude.{ℕ, ◌+◌, ◌-◌, ◌*◌, ◌^◌, Bool, true, false, refl, List, [], ◌∷◌, ◌++◌, map}
use Rattle.rows.specs.Rows.{Row, row, rows, AllDue}
use Rattle.system.specs.declared.RunState.{RunState}
use Rattle.system.specs.declared.RunState.TheVariants.{Offline, Runnable, Running, Blocked}
use Rattle.system.specs.declared.Occupant.{Occupant}
use Rattle.system.specs.declared.Occupant.TheVariants.{Idle, Vcpu}
use Rattle.system.specs.declared.VirtualCpu.{VirtualCpu}
use Rattle.system.specs.declared.System.{System}
use Rattle.system.specs.Answers.{SystemOutcome}
use Rattle.system.specs.Reads.{vcpu_at, occupant_at, state_at, runtime_at}
use Rattle.system.specs.Shape.{fresh}
use Rattle.system.specs.Slots.{slot}
use Rattle.system.specs.Writes.{put_vcpu, put_occupant}
use Rattle.verdict.specs.Violations.{slot_violation, pcpu_violation, earliest, first_violation, invariants_hold}
use Rattle.calls.specs.declared.Request.{Request}
use Rattle.changes.specs.Records.{dispatched, left}
use Rattle.sched.specs.Steps.{applied, requested, offline_first, offline_all}
use Rattle.sched.specs.Steps.{admit, run, preempt, block, wake, set_affinity, offline}
use Rattle.sched.specs.declared.Frame.{Frame}
use Rattle.sched.specs.RequestInPlace.{pcpu_read, effect_of, stores}

-- a vCPU in a state, with a mask; it ran for 7 ticks and was dispatched at 100
abbrev vcpu : RunState → ℕ → VirtualCpu
vcpu st m = record { state = st; runtime = 7; dispatched_at = 100; affinity = m; last = 64 }

-- d/v is that
abbrev is : ℕ → ℕ → RunState → ℕ → System → System
is d v st m s = put_vcpu s (slot d v) (vcpu st m)

-- 2 domains of 3 vCPUs on 2 pCPUs: 0/0 runs on pCPU 0; 0/1 is Blocked; 0/2 is Offline; 1/0 is Runnable, as is 1/1, which admits
-- pCPU 1 alone
abbrev host : System
host =
    is 0 0 (Running 0) 3
    (put_occupant (is 0 1 Blocked 1 (is 0 2 Offline 2 (is 1 0 Runnable 3 (is 1 1 Runnable 2 (fresh 2 3 2))))) 0 (Vcpu 0 0))

-- the same, but pCPU 1 names one that does not run
abbrev damaged : System
damaged = put_occupant host 1 (Vcpu 1 0)

abbrev told : SystemOutcome → ℕ
told r = r.number

-- what a call is told of 2/9 and of 0/3, neither of which is there, and then of d/v and of e/u
abbrev tells : (ℕ → ℕ → SystemOutcome) → ℕ → ℕ → ℕ → ℕ → List ℕ
tells call d v e u = told (call 2 9) ∷ told (call 0 3) ∷ told (call d v) ∷ told (call e u) ∷ []

-- 8 first, also of ids out of range; a run: 3, 1, 2, the state's number, 6, 5; any other call: 1, 2, then the state's number or 6. The
-- state's is 10 Offline, 4 Runnable, 11 Running, 12 Blocked
abbrev pub orders : List Row
orders =
    rows (tells (admit damaged) 0 0 0 2) (8 ∷ 8 ∷ 8 ∷ 8 ∷ [])
    ∷ rows (tells (λ d v. run damaged d v 9 0) 0 2 1 0) (8 ∷ 8 ∷ 8 ∷ 8 ∷ [])
    ∷ rows (tells (λ d v. preempt damaged d v 0) 0 1 0 0) (8 ∷ 8 ∷ 8 ∷ 8 ∷ [])
    ∷ rows (tells (λ d v. block damaged d v 0) 0 2 1 0) (8 ∷ 8 ∷ 8 ∷ 8 ∷ [])
    ∷ rows (tells (wake damaged) 0 0 0 1) (8 ∷ 8 ∷ 8 ∷ 8 ∷ [])
    ∷ rows (tells (λ d v. set_affinity damaged d v 2) 0 0 0 1) (8 ∷ 8 ∷ 8 ∷ 8 ∷ [])
    ∷ rows (tells (λ d v. offline damaged d v 0) 0 2 0 1) (8 ∷ 8 ∷ 8 ∷ 8 ∷ [])
    ∷ rows (told (offline_all damaged 0 0) ∷ told (offline_all damaged 9 0) ∷ []) (8 ∷ 8 ∷ [])
    -- onto pCPU 2, which is not there; onto pCPU 0, which is held; onto pCPU 1, which is idle
    ∷ rows (tells (λ d v. run host d v 2 0) 0 2 1 0) (3 ∷ 3 ∷ 3 ∷ 3 ∷ [])
    ∷ rows (tells (λ d v. run host d v 0 0) 0 2 1 0) (1 ∷ 2 ∷ 10 ∷ 5 ∷ [])
    ∷ rows (tells (λ d v. run host d v 0 0) 0 1 1 1) (1 ∷ 2 ∷ 12 ∷ 6 ∷ [])
    ∷ rows (tells (λ d v. run host d v 1 0) 0 0 1 0) (1 ∷ 2 ∷ 11 ∷ 0 ∷ [])
    ∷ rows (tells (λ d v. run host d v 1 0) 0 1 0 2) (1 ∷ 2 ∷ 12 ∷ 10 ∷ [])
    ∷ rows (tells (admit host) 0 0 0 2) (1 ∷ 2 ∷ 11 ∷ 0 ∷ [])
    ∷ rows (tells (admit host) 0 1 1 0) (1 ∷ 2 ∷ 12 ∷ 4 ∷ [])
    ∷ rows (tells (λ d v. preempt host d v 0) 0 1 0 0) (1 ∷ 2 ∷ 12 ∷ 0 ∷ [])
    ∷ rows (tells (λ d v. preempt host d v 0) 0 2 1 0) (1 ∷ 2 ∷ 10 ∷ 4 ∷ [])
    ∷ rows (tells (λ d v. block host d v 0) 0 2 1 0) (1 ∷ 2 ∷ 10 ∷ 0 ∷ [])
    ∷ rows (tells (λ d v. block host d v 0) 0 1 0 0) (1 ∷ 2 ∷ 12 ∷ 0 ∷ [])
    ∷ rows (tells (wake host) 0 0 0 1) (1 ∷ 2 ∷ 11 ∷ 0 ∷ [])
    ∷ rows (tells (wake host) 0 2 1 0) (1 ∷ 2 ∷ 10 ∷ 4 ∷ [])
    ∷ rows (tells (λ d v. set_affinity host d v 2) 0 0 0 1) (1 ∷ 2 ∷ 6 ∷ 0 ∷ [])
    ∷ rows (tells (λ d v. offline host d v 0) 0 2 0 1) (1 ∷ 2 ∷ 10 ∷ 0 ∷ [])
    ∷ []

-- ---- what is left

abbrev state : RunState → ℕ
state Offline = 0
state Runnable = 1
state (Running p) = 2
state Blocked = 3

-- 0 idle, else 1 + 10 × domain + vCPU
abbrev holder : Occupant → ℕ
holder Idle = 0
holder (Vcpu d v) = 1 + 10 * d + v

-- the states of 0/0, 0/1, 0/2, 1/0 and 1/1, and who holds pCPUs 0 and 1
abbrev seen : System → List ℕ
seen s =
    state (state_at s 0)
    ∷ state (state_at s 1)
    ∷ state (state_at s 2)
    ∷ state (state_at s 8)
    ∷ state (state_at s 9)
    ∷ holder (occupant_at s 0)
    ∷ holder (occupant_at s 1)
    ∷ []

-- the run times and the masks of 0/0, 0/1 and 0/2
abbrev times : System → List ℕ
times s = map (runtime_at s) (0 ∷ 1 ∷ 2 ∷ [])

abbrev masks : System → List ℕ
masks s = map (λ (i : ℕ). (vcpu_at s i).affinity) (0 ∷ 1 ∷ 2 ∷ [])

abbrev pub effects : List Row
effects =
    rows (seen host) (2 ∷ 3 ∷ 0 ∷ 1 ∷ 1 ∷ 1 ∷ 0 ∷ [])
    -- a call goes to the vCPU of its ids
    ∷ rows (seen (block host 1 0 120).system) (2 ∷ 3 ∷ 0 ∷ 3 ∷ 1 ∷ 1 ∷ 0 ∷ [])
    ∷ rows (seen (run host 1 1 1 120).system) (2 ∷ 3 ∷ 0 ∷ 1 ∷ 2 ∷ 1 ∷ 12 ∷ [])
    ∷ rows (seen (preempt host 0 0 120).system) (1 ∷ 3 ∷ 0 ∷ 1 ∷ 1 ∷ 0 ∷ 0 ∷ [])
    -- a whole domain at 120: the run time of who ran rises to 27, the masks of those not Offline are full, the Offline one keeps its own
    ∷ rows (seen (offline_all host 0 120).system) (0 ∷ 0 ∷ 0 ∷ 1 ∷ 1 ∷ 0 ∷ 0 ∷ [])
    ∷ rows (times (offline_all host 0 120).system) (27 ∷ 7 ∷ 7 ∷ [])
    ∷ rows (masks (offline_all host 0 120).system) (3 ∷ 3 ∷ 2 ∷ [])
    ∷ rows (seen (offline_all host 1 120).system) (2 ∷ 3 ∷ 0 ∷ 0 ∷ 0 ∷ 1 ∷ 0 ∷ [])
    -- a bad domain: 0, and nothing changes
    ∷ row (told (offline_all host 2 120)) 0
    ∷ rows (seen (offline_all host 2 120).system) (2 ∷ 3 ∷ 0 ∷ 1 ∷ 1 ∷ 1 ∷ 0 ∷ [])
    -- a new mask is clipped to the 2 pCPUs
    ∷ rows (masks (set_affinity host 0 2 (2 ^ 64 - 1)).system) (3 ∷ 1 ∷ 3 ∷ [])
    ∷ []

-- ---- in place

-- 2 domains of 3 vCPUs on 2 pCPUs
abbrev frame : Bool → Frame
frame sound = record { sound = sound; domain_count = 2; vcpus_per_domain = 3; pcpu_count = 2 }

-- there a request of d/v that admits pCPU 1 alone, where the pCPU that it reads is held so: the
-- number told, the state and the run time, and who holds the pCPU
abbrev after : Bool → ℕ → ℕ → Request → RunState → Occupant → List ℕ
after sound d v q st o =
    let a = effect_of (frame sound) d v q (vcpu st 2) (record { occupant = o }) in
    told (stores host 0 0 a) ∷ state a.vcpu.state ∷ a.vcpu.runtime ∷ holder a.pcpu.occupant ∷ []

-- the mask that is stored
abbrev mask : ℕ → RunState → ℕ
mask m st = (effect_of (frame true) 1 2 (Request.SetAffinity m) (vcpu st 2) (record { occupant = Idle })).vcpu.affinity

abbrev pub in_place : List Row
in_place =
    -- the pCPU that a run asks for, else the one that the vCPU is on; past the table one of it
    rows (pcpu_read (Request.Run 3 0) (vcpu (Running 5) 2) ∷ pcpu_read (Request.Run 67 0) (vcpu Runnable 2) ∷ []) (3 ∷ 3 ∷ [])
    ∷ rows (pcpu_read (Request.Block 0) (vcpu (Running 5) 2) ∷ pcpu_read (Request.Block 0) (vcpu (Running 69) 2) ∷ []) (5 ∷ 5 ∷ [])
    ∷ row (pcpu_read Request.Admit (vcpu Offline 2)) 0
    -- 8, 3, 1 and 2, in this order, and nothing changes
    ∷ rows (after false 2 3 (Request.Run 2 120) Runnable Idle) (8 ∷ 1 ∷ 7 ∷ 0 ∷ [])
    ∷ rows (after true 2 3 (Request.Run 2 120) Runnable Idle) (3 ∷ 1 ∷ 7 ∷ 0 ∷ [])
    ∷ rows (after true 2 3 (Request.Run 1 120) Runnable Idle) (1 ∷ 1 ∷ 7 ∷ 0 ∷ [])
    ∷ rows (after true 1 3 (Request.Run 1 120) Runnable Idle) (2 ∷ 1 ∷ 7 ∷ 0 ∷ [])
    ∷ rows (after true 2 3 (Request.Preempt 120) (Running 1) (Vcpu 1 2)) (1 ∷ 2 ∷ 7 ∷ 13 ∷ [])
    -- a run onto an idle pCPU, and onto one that is held; a leave, by 20 ticks
    ∷ rows (after true 1 2 (Request.Run 1 120) Runnable Idle) (0 ∷ 2 ∷ 7 ∷ 13 ∷ [])
    ∷ rows (after true 1 2 (Request.Run 1 120) Runnable (Vcpu 0 1)) (5 ∷ 1 ∷ 7 ∷ 2 ∷ [])
    ∷ rows (after true 1 2 (Request.Block 120) (Running 1) (Vcpu 1 2)) (0 ∷ 3 ∷ 27 ∷ 0 ∷ [])
    -- a new mask is stored clipped to the 2 pCPUs; the mask stays where it would strand the vCPU
    ∷ rows (mask (2 ^ 64 - 1) Runnable ∷ mask 5 Blocked ∷ mask 5 (Running 1) ∷ []) (3 ∷ 1 ∷ 2 ∷ [])
    ∷ []

pub due : AllDue (orders ++ effects ++ in_place)
unfolding vcpu_at occupant_at fresh put_vcpu put_occupant slot_violation pcpu_violation earliest first_violation invariants_hold dispatched left
    applied requested offline_first offline_all effect_of
due = refl
