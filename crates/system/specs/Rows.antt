-- Each answer's number as the requirements list it, and what building and each read give, worked out by hand. Assumes nothing.
use Rattle.std.specs.Prelude.{ℕ, ◌+◌, ◌*◌, ◌-◌, ◌^◌, refl, List, [], ◌∷◌, Option, None, Some}
use Rattle.rows.specs.Rows.{Row, row, rows, test, AllDue}
use Rattle.system.specs.declared.RunState.{RunState}
use Rattle.system.specs.declared.RunState.TheVariants.{Offline, Runnable, Running, Blocked}
use Rattle.system.specs.declared.Occupant.{Occupant}
use Rattle.system.specs.declared.Occupant.TheVariants.{Idle, Vcpu}
use Rattle.system.specs.declared.System.{System}
use Rattle.system.specs.declared.Answer.TheVariants.{Done, BadDomain, BadVcpu, BadPcpu, PcpuBusy, NotAffine}
use Rattle.system.specs.declared.Answer.TheVariants.{TooLarge, Unsound, BadScript, BadFile, NotInFile, BadSeed}
use Rattle.system.specs.declared.Answer.TheVariants.{FoundOffline, FoundRunnable, FoundRunning, FoundBlocked}
use Rattle.system.specs.Answers.{told}
use Rattle.system.specs.Records.{in_flight}
use Rattle.system.specs.Shape.{fresh, built_system}
use Rattle.system.specs.Slots.{domains, pcpus, slot, slot_read}
use Rattle.system.specs.Reads.{vcpu_at, occupant_at, vcpu_of, vcpu_count, state_of, is_running, runtime_of, on_cpu_since, occupant_of}
use Rattle.system.specs.Reads.{last_at, affinity_of, affinity_permits, full_affinity, count, busy_pcpus}
use Rattle.system.specs.Writes.{put_vcpu, put_occupant}

abbrev pub numbers : List Row
numbers =
    row (told Done) 0
    ∷ row (told BadDomain) 1
    ∷ row (told BadVcpu) 2
    ∷ row (told BadPcpu) 3
    ∷ row (told FoundRunnable) 4
    ∷ row (told PcpuBusy) 5
    ∷ row (told NotAffine) 6
    ∷ row (told TooLarge) 7
    ∷ row (told Unsound) 8
    ∷ row (told BadScript) 9
    ∷ row (told FoundOffline) 10
    ∷ row (told FoundRunning) 11
    ∷ row (told FoundBlocked) 12
    ∷ row (told BadFile) 13
    ∷ row (told NotInFile) 14
    ∷ row (told BadSeed) 15
    ∷ []

pub numbers-due : AllDue numbers
numbers-due = refl

-- ---- reads

-- absent 0, else 1 before the number
abbrev number : Option ℕ → List ℕ
number None = 0 ∷ []
number (Some n) = 1 ∷ n ∷ []

-- absent 0, Offline 1, Runnable 2, Blocked 3, 10 + p Running on pCPU p
abbrev state : Option RunState → ℕ
state None = 0
state (Some Offline) = 1
state (Some Runnable) = 2
state (Some (Running p)) = 10 + p
state (Some Blocked) = 3

-- idle 0, else 1 + 10 × domain + vCPU
abbrev holder : Occupant → ℕ
holder Idle = 0
holder (Vcpu d v) = 1 + 10 * d + v

-- d/v in a state: it ran for 7 ticks, was dispatched at 100, admits pCPUs 0 and 3, and is said to have been last on pCPU 2
abbrev is : ℕ → ℕ → RunState → System → System
is d v st s = put_vcpu s (slot d v) (record { state = st; runtime = 7; dispatched_at = 100; affinity = 9; last = 2 })

-- 2 domains of 3 vCPUs on 4 pCPUs: 1/2 runs on pCPU 3, 0/1 is Blocked, the others are as built
abbrev host : System
host = put_occupant (is 1 2 (Running 3) (is 0 1 Blocked (fresh 2 3 4))) 3 (Vcpu 1 2)

-- counts above the sizes
abbrev damaged : System
damaged = record { domain_count = 17; vcpus_per_domain = 9; pcpu_count = 65; vcpus = host.vcpus; pcpus = host.pcpus }

-- domains, vCPUs of domain 0, pCPUs
abbrev shape : System → List ℕ
shape s = domains s ∷ vcpu_count s 0 ∷ pcpus s ∷ []

abbrev pub reads : List Row
reads =
    -- counts; a damaged one is held at its size
    rows (shape host) (2 ∷ 3 ∷ 4 ∷ [])
    ∷ rows (shape damaged) (16 ∷ 8 ∷ 64 ∷ [])
    ∷ rows (vcpu_count host 1 ∷ vcpu_count host 2 ∷ vcpu_count damaged 15 ∷ vcpu_count damaged 16 ∷ []) (3 ∷ 0 ∷ 8 ∷ 0 ∷ [])
    -- states, and who is Running
    ∷ rows (state (state_of host 1 2) ∷ state (state_of host 0 1) ∷ state (state_of host 0 0) ∷ []) (13 ∷ 3 ∷ 1 ∷ [])
    ∷ rows (state (state_of host 2 0) ∷ state (state_of host 0 3) ∷ state (state_of damaged 16 0) ∷ state (state_of damaged 0 8) ∷ [])
    (0 ∷ 0 ∷ 0 ∷ 0 ∷ [])
    ∷ rows (test (is_running host 1 2) ∷ test (is_running host 0 1) ∷ test (is_running host 2 0) ∷ []) (1 ∷ 0 ∷ 0 ∷ [])
    -- run times over closed intervals, and since when one runs
    ∷ rows (number (runtime_of host 1 2)) (1 ∷ 7 ∷ [])
    ∷ rows (number (runtime_of host 1 1)) (1 ∷ 0 ∷ [])
    ∷ rows (number (runtime_of host 1 3)) (0 ∷ [])
    ∷ rows (number (on_cpu_since host 1 2)) (1 ∷ 100 ∷ [])
    ∷ rows (number (on_cpu_since host 0 1)) (0 ∷ [])
    ∷ rows (number (on_cpu_since host 2 0)) (0 ∷ [])
    -- the part in flight: 0 for one that is not Running, and where the clock ran back
    ∷ rows (in_flight (vcpu_at host 10) 130 ∷ in_flight (vcpu_at host 10) 90 ∷ in_flight (vcpu_at host 1) 130 ∷ []) (30 ∷ 0 ∷ 0 ∷ [])
    -- holders, and how many there are
    ∷ rows (holder (occupant_of host 3) ∷ holder (occupant_of host 0) ∷ holder (occupant_of host 4) ∷ []) (13 ∷ 0 ∷ 0 ∷ [])
    ∷ row (busy_pcpus host) 1
    -- masks: a pCPU past the count is not admitted, nor one by an id that is not there
    ∷ rows (number (affinity_of host 1 2)) (1 ∷ 9 ∷ [])
    ∷ rows (number (affinity_of host 0 0)) (1 ∷ 15 ∷ [])
    ∷ rows (number (affinity_of host 2 0)) (0 ∷ [])
    ∷ row (full_affinity host) 15
    ∷ row (full_affinity damaged) (2 ^ 64 - 1)
    ∷ rows (test (affinity_permits host 1 2 0) ∷ test (affinity_permits host 1 2 1) ∷ test (affinity_permits host 1 2 3) ∷ []) (1 ∷ 0 ∷ 1 ∷ [])
    ∷ rows (test (affinity_permits (is 0 0 Runnable (fresh 1 1 3)) 0 0 3) ∷ test (affinity_permits host 0 3 0) ∷ []) (0 ∷ 0 ∷ [])
    -- a slot by its ids; those past the tables read a slot of them
    ∷ rows (slot_read 0 0 ∷ slot_read 1 2 ∷ slot_read 15 7 ∷ []) (0 ∷ 10 ∷ 127 ∷ [])
    ∷ rows (slot_read 16 8 ∷ slot_read 17 10 ∷ slot_read (2 ^ 16 - 1) (2 ^ 32 - 1) ∷ []) (0 ∷ 10 ∷ 127 ∷ [])
    -- where it was last, by its record; as built, on none
    ∷ rows (last_at host 10 ∷ last_at host 0 ∷ []) (2 ∷ 64 ∷ [])
    -- a shape at the sizes is built, one above them is told 7
    ∷ rows ((built_system 16 8 64).number ∷ (built_system 0 0 0).number ∷ []) (0 ∷ 0 ∷ [])
    ∷ rows ((built_system 17 8 64).number ∷ (built_system 16 9 64).number ∷ (built_system 16 8 65).number ∷ []) (7 ∷ 7 ∷ 7 ∷ [])
    ∷ rows (shape (built_system 2 3 4).system) (2 ∷ 3 ∷ 4 ∷ [])
    ∷ rows (shape (built_system 17 3 4).system) (0 ∷ 0 ∷ 0 ∷ [])
    ∷ []

pub reads-due : AllDue reads
unfolding vcpu_at occupant_at vcpu_of count in_flight fresh put_vcpu put_occupant
reads-due = refl
