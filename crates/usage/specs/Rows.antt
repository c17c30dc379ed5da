-- A domain's usage by hand: every vCPU of the domain counts, and no other; while Running also what the reading is past the dispatch.
-- Assumes nothing.
use Rattle.std.specs.Prelude.{ℕ, ◌+◌, ◌*◌, ◌-◌, ◌^◌, refl, List, [], ◌∷◌}
use Rattle.rows.specs.Rows.{Row, rows, AllDue}
use Rattle.system.specs.declared.RunState.{RunState}
use Rattle.system.specs.declared.RunState.TheVariants.{Runnable, Running, Blocked}
use Rattle.system.specs.declared.System.{System}
use Rattle.system.specs.Records.{in_flight}
use Rattle.system.specs.Reads.{vcpu_at}
use Rattle.system.specs.Shape.{fresh}
use Rattle.system.specs.Slots.{slot}
use Rattle.system.specs.Writes.{put_vcpu}
use Rattle.changes.specs.Records.{left}
use Rattle.usage.specs.Usage.{sum, usage}

-- d/v in a state, with so much run time; its last dispatch was at 100
abbrev pub is : ℕ → ℕ → RunState → ℕ → System → System
is d v st time s = put_vcpu s (slot d v) (record { state = st; runtime = time; dispatched_at = 100; affinity = 0; last = 64 })

-- 3 domains of 3 vCPUs: of domain 0 nobody is Running, of domain 1 two are, of domain 2 one; 1/3 and 3/0 are outside the shape
abbrev host : System
host =
    is 0 1 Blocked 5
    (is 0 2 Runnable 6
    (is 1 0 (Running 0) 3
    (is 1 1 (Running 1) (2 ^ 64 - 1)
    (is 1 3 (Running 2) 100
    (is 2 0 Runnable 11 (is 2 1 (Running 3) 0 (is 3 0 (Running 4) 200 (fresh 3 3 5))))))))

-- counts above the sizes, with the same records and 15/7 Running
abbrev damaged : System
damaged =
    record {
      domain_count = 17;
      vcpus_per_domain = 9;
      pcpu_count = 65;
      vcpus = (is 15 7 (Running 5) 1 host).vcpus;
      pcpus = host.pcpus;
    }

-- the host once the interval of 1/v was closed at a clock
abbrev closed : ℕ → ℕ → System
closed v now = put_vcpu host (slot 1 v) (left (vcpu_at host (slot 1 v)) Blocked now)

-- by domain: 0 to 3
abbrev all : System → ℕ → List ℕ
all s now = usage s 0 now ∷ usage s 1 now ∷ usage s 2 now ∷ usage s 3 now ∷ []

abbrev pub usages : List Row
usages =
    -- before the dispatch, and at it, nothing is in flight
    rows (all host 0) (11 ∷ (2 ^ 64 + 2) ∷ 11 ∷ 0 ∷ [])
    ∷ rows (all host 99) (11 ∷ (2 ^ 64 + 2) ∷ 11 ∷ 0 ∷ [])
    ∷ rows (all host 100) (11 ∷ (2 ^ 64 + 2) ∷ 11 ∷ 0 ∷ [])
    -- after it, what the reading is past it, for each that is Running
    ∷ rows (all host 101) (11 ∷ (2 ^ 64 + 4) ∷ 12 ∷ 0 ∷ [])
    ∷ rows (all host 130) (11 ∷ (2 ^ 64 + 62) ∷ 41 ∷ 0 ∷ [])
    ∷ rows (all host (2 ^ 64 - 1)) (11 ∷ (3 * 2 ^ 64 - 200) ∷ (2 ^ 64 - 90) ∷ 0 ∷ [])
    -- closed at 130, an interval counts as it did then, and no longer after; a run time that is held loses what is above
    ∷ rows (usage (closed 0 130) 1 130 ∷ usage (closed 0 130) 1 140 ∷ []) ((2 ^ 64 + 62) ∷ (2 ^ 64 + 72) ∷ [])
    ∷ rows (usage (closed 1 130) 1 130 ∷ usage (closed 1 130) 1 140 ∷ []) ((2 ^ 64 + 32) ∷ (2 ^ 64 + 42) ∷ [])
    -- of a damaged system, as of one whose counts are held at their sizes
    ∷ rows (all damaged 130) (11 ∷ (2 ^ 64 + 192) ∷ 41 ∷ 230 ∷ [])
    ∷ rows (usage damaged 15 130 ∷ usage damaged 16 130 ∷ []) (31 ∷ 0 ∷ [])
    ∷ []

pub usages-due : AllDue usages
unfolding vcpu_at in_flight fresh put_vcpu left sum
usages-due = refl
