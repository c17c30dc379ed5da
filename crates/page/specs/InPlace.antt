-- Calls of one vCPU made in place: whoever holds a system reads two of its records and stores what is left of them. That is the call.
use Rattle.std.specs.Prelude.{ℕ, ◌+◌, ◌*◌, ◌%◌, ◌≡◌, get_or, set}
use Rattle.system.specs.declared.RunState.{RunState}
use Rattle.system.specs.declared.RunState.TheVariants.{Offline, Runnable, Running, Blocked}
use Rattle.system.specs.declared.VirtualCpu.{VirtualCpu}
use Rattle.system.specs.declared.PhysicalCpu.{PhysicalCpu}
use Rattle.system.specs.declared.Occupant.TheVariants.{Idle}
use Rattle.system.specs.declared.System.{System}
use Rattle.calls.specs.declared.Request.{Request}
use Rattle.changes.specs.declared.After.{After}
use Rattle.sched.specs.declared.Frame.{Frame}
use Rattle.page.specs.Verdict.{sound}
use Rattle.page.specs.Calls.{vc, called}
use Rattle.page.specs.Steps.{number_of}

-- ---- What is read: whatever the ids, in the tables
abbrev pub slot_read : ℕ → ℕ → ℕ
slot_read d v = d % 16 * 8 + v % 8

abbrev pub pcpu_on : RunState → ℕ
pcpu_on (Running p) = p % 64
pcpu_on Offline = 0
pcpu_on Runnable = 0
pcpu_on Blocked = 0

-- the pCPU that a run asks for, else the one that the vCPU is on
abbrev pub pcpu_read : Request → VirtualCpu → ℕ
pcpu_read (Request.Run p now) x = p % 64
pcpu_read Request.Admit x = pcpu_on x.state
pcpu_read (Request.Preempt now) x = pcpu_on x.state
pcpu_read (Request.Block now) x = pcpu_on x.state
pcpu_read Request.Wake x = pcpu_on x.state
pcpu_read (Request.SetAffinity m) x = pcpu_on x.state
pcpu_read (Request.Offline now) x = pcpu_on x.state

abbrev pub vcpu_at : System → ℕ → VirtualCpu
vcpu_at s j = get_or s.vcpus j (vc Offline 0 0 0 0)

abbrev pub pcpu_at : System → ℕ → PhysicalCpu
pcpu_at s p = get_or s.pcpus p (record { occupant = Idle })

-- of s: whether it is sound, and its counts
pub record FrameOf (s : System) (f : Frame) : Type 0 where
  pub sound : f.sound ≡ sound s
  pub domains : f.domain_count ≡ s.domain_count
  pub vcpus : f.vcpus_per_domain ≡ s.vcpus_per_domain
  pub pcpus : f.pcpu_count ≡ s.pcpu_count

-- these, and the two records that a request of d/v reads
pub record Read (s : System) (d v : ℕ) (q : Request) (f : Frame) (x : VirtualCpu) (c : PhysicalCpu) : Type 0 where
  pub frame : FrameOf s f
  pub vcpu : x ≡ vcpu_at s (slot_read d v)
  pub pcpu : c ≡ pcpu_at s (pcpu_read q x)

-- ---- What is handed back is told, and stored
abbrev pub store : System → ℕ → ℕ → After → System
store s j p r =
    record {
      domain_count = s.domain_count;
      vcpus_per_domain = s.vcpus_per_domain;
      pcpu_count = s.pcpu_count;
      vcpus = set s.vcpus j r.vcpu;
      pcpus = set s.pcpus p r.pcpu;
    }

pub record Does (s : System) (d v : ℕ) (q : Request) (r : After) : Type 0 where
  pub number : number_of r.answer ≡ (called s d v q).number
  pub system : store s (slot_read d v) (pcpu_read q (vcpu_at s (slot_read d v))) r ≡ (called s d v q).system

-- on every system of which these were read
abbrev pub InPlace : ℕ → ℕ → Request → Frame → VirtualCpu → PhysicalCpu → After → Type 0
InPlace d v q f x c r = (s : System) → Read s d v q f x c → Does s d v q r
