-- A field of a host, written as a record says and with no test, and what is kept at a slot. The kinds of a record:
--   of a vCPU, at the slot of the ids: 13 state, 14 run time, 15 clock of the dispatch, 16 mask, 29 the pCPU that it was last on
--   of a pCPU, the third: 17 occupant
--   of the system: 18 domains, 19 vCPUs in each, 20 pCPUs
--   of the policy: 21 domains, 22 vCPUs in each, 23 slice, 24 boost
--   of an account, at the slot of the ids: 25 weight, 26 lower two limbs of the offset, 27 the upper two, 28 snapshot
use Rattle.std.specs.Prelude.{ℕ, ◌/◌, ◌%◌, ◌^◌, Bool, true, false, ◌==◌, if◌then◌else◌, not, List, [], ◌∷◌, get_or, set}
use Rattle.system.specs.declared.RunState.{RunState}
use Rattle.system.specs.declared.RunState.TheVariants.{Offline, Runnable, Running, Blocked}
use Rattle.system.specs.declared.VirtualCpu.{VirtualCpu}
use Rattle.system.specs.declared.Occupant.{Occupant}
use Rattle.system.specs.declared.Occupant.TheVariants.{Idle, Vcpu}
use Rattle.system.specs.declared.System.{System}
use Rattle.system.specs.Slots.{slot}
use Rattle.system.specs.Reads.{vcpu_at, occupant_at}
use Rattle.policy.specs.declared.Account.{Account}
use Rattle.policy.specs.declared.Scheduler.{Scheduler}
use Rattle.policy.specs.Accounts.{account_at}
use Rattle.host.specs.declared.Host.{Host}
use Rattle.records.specs.declared.Record.{Record}

-- any ids are those of a slot, any id that of a pCPU
abbrev pub slot_of : ℕ → ℕ → ℕ
slot_of d v = slot (d % 16) (v % 8)

abbrev pub pcpu_of : ℕ → ℕ
pcpu_of p = p % 64

-- what the record says, if it is of kind k; else what is there
abbrev pub word_written : Record → ℕ → ℕ → ℕ
word_written r k old = if r.kind == k then r.value else old

abbrev pub third_written : Record → ℕ → ℕ → ℕ
third_written r k old = if r.kind == k then r.third else old

-- a value of 0 is false
abbrev pub flag_written : Record → ℕ → Bool → Bool
flag_written r k old = if r.kind == k then not (r.value == 0) else old

-- values 0, 1 and 2 are Offline, Runnable and Running on the third; any other is Blocked
abbrev pub state_written : Record → RunState → RunState
state_written r old =
    let said =
    if r.value == 0 then Offline else if r.value == 1 then Runnable else if r.value == 2 then Running r.third else Blocked in
    if r.kind == 13 then said else old

-- a value of 0 is Idle; with any other the record's vCPU holds it
abbrev pub occupant_written : Record → Occupant → Occupant
occupant_written r old =
    let said = if r.value == 0 then Idle else Vcpu r.dom r.vcpu in
    if r.kind == 17 then said else old

-- the value's lower half is the lower limb
abbrev pub offset_written : Record → List ℕ → List ℕ
offset_written r old =
    let low = r.value % 2 ^ 32 in
    let high = r.value / 2 ^ 32 in
    if r.kind == 26 then low ∷ high ∷ get_or old 2 0 ∷ get_or old 3 0 ∷ []
    else if r.kind == 27 then get_or old 0 0 ∷ get_or old 1 0 ∷ low ∷ high ∷ []
    else old

unfoldable pub vcpu_written : Record → VirtualCpu → VirtualCpu
vcpu_written r v =
    record {
      state = state_written r v.state;
      runtime = word_written r 14 v.runtime;
      dispatched_at = word_written r 15 v.dispatched_at;
      affinity = word_written r 16 v.affinity;
      last = third_written r 29 v.last;
    }

unfoldable pub system_written : Record → System → System
system_written r s =
    record {
      domain_count = word_written r 18 s.domain_count;
      vcpus_per_domain = word_written r 19 s.vcpus_per_domain;
      pcpu_count = word_written r 20 s.pcpu_count;
      vcpus = set s.vcpus (slot_of r.dom r.vcpu) (vcpu_written r (vcpu_at s (slot_of r.dom r.vcpu)));
      pcpus = set s.pcpus (pcpu_of r.third) (record { occupant = occupant_written r (occupant_at s (pcpu_of r.third)) });
    }

unfoldable pub account_written : Record → Account → Account
account_written r a =
    record {
      weight = third_written r 25 a.weight;
      offset = offset_written r a.offset;
      was_schedulable = flag_written r 28 a.was_schedulable;
    }

unfoldable pub policy_written : Record → Scheduler → Scheduler
policy_written r π =
    record {
      domain_count = word_written r 21 π.domain_count;
      vcpus_per_domain = word_written r 22 π.vcpus_per_domain;
      accounts = set π.accounts (slot_of r.dom r.vcpu) (account_written r (account_at π (slot_of r.dom r.vcpu)));
      quantum = word_written r 23 π.quantum;
      wake_boost = flag_written r 24 π.wake_boost;
    }

-- the host with one field written; a kind that names none leaves it
abbrev pub written : Record → Host → Host
written r h = record { system = system_written r h.system; scheduler = policy_written r h.scheduler }

-- 1 for true, 0 for false
abbrev pub bit : Bool → ℕ
bit false = 0
bit true = 1

-- what no other read tells, of the vCPU v and the account a at a slot
abbrev pub kept_of : VirtualCpu → Account → Bool → List ℕ
kept_of v a boost =
    a.weight
    ∷ get_or a.offset 0 0
    ∷ get_or a.offset 1 0
    ∷ get_or a.offset 2 0
    ∷ get_or a.offset 3 0
    ∷ bit a.was_schedulable
    ∷ bit boost
    ∷ v.dispatched_at
    ∷ v.last
    ∷ []

unfoldable pub kept : System → Scheduler → ℕ → ℕ → List ℕ
kept s π d v = kept_of (vcpu_at s (slot_of d v)) (account_at π (slot_of d v)) π.wake_boost
