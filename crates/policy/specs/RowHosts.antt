-- The hosts that the rows are about, and what is read of them.
use Rattle.std.specs.Prelude.{ℕ, true, false, List, [], ◌∷◌}
use Rattle.rows.specs.Rows.{test}
use Rattle.scans.specs.Scan.{Pick, nobody, at}
use Rattle.service.specs.Service.{held}
use Rattle.system.specs.declared.RunState.{RunState}
use Rattle.system.specs.declared.RunState.TheVariants.{Offline, Runnable, Running, Blocked}
use Rattle.system.specs.declared.VirtualCpu.{VirtualCpu}
use Rattle.system.specs.declared.System.{System}
use Rattle.system.specs.Shape.{fresh}
use Rattle.system.specs.Writes.{put_vcpu}
use Rattle.policy.specs.declared.Account.{Account}
use Rattle.policy.specs.declared.Scheduler.{Scheduler}
use Rattle.policy.specs.Accounts.{weight_of, offset_of, was_schedulable, put_account, fresh_policy, set_wake_boost}
use Rattle.policy.specs.Standing.{service_at, deserves}
use Rattle.policy.specs.Accounting.{floor, accounted}

-- ---- hosts: 0/0 and 0/1 on two pCPUs, the clock at 100

-- by run time, and the clock of the latest dispatch
abbrev pub vcpu : RunState → ℕ → ℕ → VirtualCpu
vcpu state runtime since = record { state = state; runtime = runtime; dispatched_at = since; affinity = 3; last = 64 }

-- all were dispatched at 90: whoever runs has 10 in flight
abbrev pub waits : ℕ → VirtualCpu
waits runtime = vcpu Runnable runtime 90

abbrev pub runs : ℕ → ℕ → VirtualCpu
runs p runtime = vcpu (Running p) runtime 90

abbrev pub blocked : ℕ → VirtualCpu
blocked runtime = vcpu Blocked runtime 90

abbrev pub offline : ℕ → VirtualCpu
offline runtime = vcpu Offline runtime 90

abbrev pub pair : VirtualCpu → VirtualCpu → System
pair a b = put_vcpu (put_vcpu (fresh 1 2 2) 0 a) 1 b

-- by weight and offset: one that was in the pool at the last snapshot, and one that was not
abbrev pub pooled : ℕ → ℕ → Account
pooled weight offset = record { weight = weight; offset = held offset; was_schedulable = true }

abbrev pub away : ℕ → ℕ → Account
away weight offset = record { weight = weight; offset = held offset; was_schedulable = false }

abbrev pub keeping : Scheduler → Account → Account → Scheduler
keeping π a b = put_account (put_account π 0 0 a) 0 1 b

abbrev pub policy : Account → Account → Scheduler
policy a b = keeping (fresh_policy 1 2 10) a b

-- with boost off
abbrev pub unlifting : Account → Account → Scheduler
unlifting a b = keeping (set_wake_boost (fresh_policy 1 2 10) false) a b

-- that policy's accounts, in another shape
abbrev pub shaped : ℕ → ℕ → Scheduler → Scheduler
shaped d v π =
    record {
      domain_count = d;
      vcpus_per_domain = v;
      accounts = π.accounts;
      quantum = π.quantum;
      wake_boost = π.wake_boost;
    }

-- ---- what is read

abbrev pub slot_of : Pick → List ℕ
slot_of nobody = []
slot_of (at i) = i ∷ []

-- the service of 0/0
abbrev pub service : VirtualCpu → Account → ℕ → ℕ
service v a now = service_at (pair v (waits 0)) (policy a (pooled 256 0)) now 0

-- whether 0/0 is more deserving than 0/1, and 0/1 than 0/0
abbrev pub first : System → Scheduler → List ℕ
first s π = test (deserves s π 100 0 1) ∷ test (deserves s π 100 1 0) ∷ []

-- who sets the floor, by slot
abbrev pub sets : System → Scheduler → List ℕ
sets s π = slot_of (floor s π 100)

-- what is looked up for d/v
abbrev pub looks : Scheduler → ℕ → ℕ → List ℕ
looks π d v = weight_of π d v ∷ offset_of π d v ∷ test (was_schedulable π d v) ∷ []

-- the offset of 0/1 after accounting
abbrev pub offset : System → Scheduler → ℕ
offset s π = offset_of (accounted s π 100) 0 1

-- the snapshots of both after it
abbrev pub snapshots : System → Scheduler → List ℕ
snapshots s π = test (was_schedulable (accounted s π 100) 0 0) ∷ test (was_schedulable (accounted s π 100) 0 1) ∷ []
