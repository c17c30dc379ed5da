-- The transitions: what each call does to which vCPU, and what it is told.
use Rattle.std.specs.Prelude.{ℕ, zero, suc, ◌/◌, ◌%◌, Bool, cond, Result, Ok, Err, ltb}
use Rattle.system.specs.declared.Occupant.TheVariants.{Idle, Vcpu}
use Rattle.system.specs.declared.System.{System}
use Rattle.system.specs.declared.Answer.{Answer}
use Rattle.system.specs.declared.Answer.TheVariants.{Done, BadDomain, BadVcpu, BadPcpu, PcpuBusy, Unsound}
use Rattle.system.specs.Answers.{told, SystemOutcome}
use Rattle.system.specs.Reads.{vcpu_at, occupant_at, is_idle, vcpu_count}
use Rattle.system.specs.Writes.{put_vcpu, put_occupant}
use Rattle.system.specs.Slots.{domains, vcpus, pcpus, slot}
use Rattle.verdict.specs.Violations.{invariants_hold}
use Rattle.calls.specs.declared.Request.{Request}
use Rattle.changes.specs.declared.Change.{Change}
use Rattle.changes.specs.declared.Change.TheVariants.{Write, Enter, Leave}
use Rattle.changes.specs.Changes.{changed, reaches}

-- a refused call leaves the system as it was
abbrev pub refused : Answer → System → SystemOutcome
refused a s = record { number = told a; system = s }

abbrev pub done : System → SystemOutcome
done s = record { number = told Done; system = s }

-- a call that fails a test is told a
abbrev pub tested : Bool → Answer → System → SystemOutcome → SystemOutcome
tested b a s r = cond b r (refused a s)

-- a change, or its refusal, of the vCPU at slot i, which is vCPU i % 8 of domain i / 8; it goes onto a pCPU only where nobody is
unfoldable pub applied : System → ℕ → Result Change Answer → SystemOutcome
applied s i (Err a) = refused a s
applied s i (Ok (Write v)) = done (put_vcpu s i v)
applied s i (Ok (Enter v p)) =
    tested (is_idle (occupant_at s p)) PcpuBusy s (done (put_occupant (put_vcpu s i v) p (Vcpu (i / 8) (i % 8))))
applied s i (Ok (Leave v p)) = done (put_occupant (put_vcpu s i v) p Idle)

-- a request of the vCPU at slot i: the state and the mask are tested by its change, who holds the pCPU as the change is applied
abbrev pub change_of : System → ℕ → Request → Result Change Answer
change_of s i q = changed q s.pcpu_count (vcpu_at s i)

abbrev pub made : System → ℕ → Request → SystemOutcome
made s i q = applied s i (change_of s i q)

-- a request of vCPU d/v: 8, 3, 1 and 2 are tested first, in this order
unfoldable pub requested : System → ℕ → ℕ → Request → SystemOutcome
requested s d v q =
    tested (invariants_hold s) Unsound s
    (tested (reaches q (pcpus s)) BadPcpu s
    (tested (ltb d (domains s)) BadDomain s
    (tested (ltb v (vcpus s)) BadVcpu s
    (made s (slot d v) q))))

-- the calls
abbrev pub admit : System → ℕ → ℕ → SystemOutcome
admit s d v = requested s d v Request.Admit

abbrev pub run : System → ℕ → ℕ → ℕ → ℕ → SystemOutcome
run s d v p now = requested s d v (Request.Run p now)

abbrev pub preempt : System → ℕ → ℕ → ℕ → SystemOutcome
preempt s d v now = requested s d v (Request.Preempt now)

abbrev pub block : System → ℕ → ℕ → ℕ → SystemOutcome
block s d v now = requested s d v (Request.Block now)

abbrev pub wake : System → ℕ → ℕ → SystemOutcome
wake s d v = requested s d v Request.Wake

abbrev pub set_affinity : System → ℕ → ℕ → ℕ → SystemOutcome
set_affinity s d v m = requested s d v (Request.SetAffinity m)

abbrev pub offline : System → ℕ → ℕ → ℕ → SystemOutcome
offline s d v now = requested s d v (Request.Offline now)

-- the first k vCPUs of domain d taken offline; of one Offline the request is refused, and nothing changes
unfoldable pub offline_first : System → ℕ → ℕ → ℕ → System
offline_first s d now zero = s
offline_first s d now (suc k) = let t = offline_first s d now k in (made t (slot d k) (Request.Offline now)).system

-- a bad domain has no vCPUs: nothing changes, and 0 is told
unfoldable pub offline_all : System → ℕ → ℕ → SystemOutcome
offline_all s d now = tested (invariants_hold s) Unsound s (done (offline_first s d now (vcpu_count s d)))
