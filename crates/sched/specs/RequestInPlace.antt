-- A request by the records of a system that it reads: which they are, what it tells and leaves of them, and that the two stores
-- are the call. So a caller that holds a system can step it in place.
use Rattle.std.specs.Prelude.{ℕ, ◌%◌, Bool, cond, ◌≡◌, ltb, get_or, set}
use Rattle.system.specs.declared.VirtualCpu.{VirtualCpu}
use Rattle.system.specs.declared.Occupant.TheVariants.{Vcpu}
use Rattle.system.specs.declared.PhysicalCpu.{PhysicalCpu}
use Rattle.system.specs.declared.System.{System}
use Rattle.system.specs.declared.Answer.TheVariants.{BadDomain, BadVcpu, BadPcpu, Unsound}
use Rattle.system.specs.Answers.{told, SystemOutcome}
use Rattle.system.specs.Shape.{no_vcpu, idle}
use Rattle.system.specs.Slots.{slot_read}
use Rattle.verdict.specs.OneViolation.{pcpu_index}
use Rattle.verdict.specs.Violations.{invariants_hold}
use Rattle.calls.specs.declared.Request.{Request}
use Rattle.changes.specs.declared.After.{After}
use Rattle.changes.specs.Changes.{changed, reaches, kept, stored}
use Rattle.changes.specs.HandsBack.{HandsBack}
use Rattle.sched.specs.declared.Frame.{Frame}
use Rattle.sched.specs.Steps.{requested}

-- the pCPU that a run asks for, else the one that the vCPU is on; always in the table
abbrev pub pcpu_read : Request → VirtualCpu → ℕ
pcpu_read Request.Admit x = pcpu_index x.state
pcpu_read (Request.Run p now) x = p % 64
pcpu_read (Request.Preempt now) x = pcpu_index x.state
pcpu_read (Request.Block now) x = pcpu_index x.state
pcpu_read Request.Wake x = pcpu_index x.state
pcpu_read (Request.SetAffinity m) x = pcpu_index x.state
pcpu_read (Request.Offline now) x = pcpu_index x.state

-- the counts of a system, with its soundness as a caller knows it
abbrev pub framed : System → Bool → Frame
framed s sound =
    record {
      sound = sound;
      domain_count = s.domain_count;
      vcpus_per_domain = s.vcpus_per_domain;
      pcpu_count = s.pcpu_count;
    }

-- a request of d/v, whose record is x and whose pCPU is c: 8, 3, 1 and 2 are tested first, in this order
unfoldable pub effect_of : Frame → ℕ → ℕ → Request → VirtualCpu → PhysicalCpu → After
effect_of f d v q x c =
    cond f.sound
    (cond (reaches q f.pcpu_count)
    (cond (ltb d f.domain_count)
    (cond (ltb v f.vcpus_per_domain) (stored (changed q f.pcpu_count x) (Vcpu d v) x c) (kept BadVcpu x c))
    (kept BadDomain x c))
    (kept BadPcpu x c))
    (kept Unsound x c)

-- what is told, and the system with the records stored at slot i and at pCPU p
abbrev pub stores : System → ℕ → ℕ → After → SystemOutcome
stores s i p r =
    record {
      number = told r.answer;
      system =
          record {
            domain_count = s.domain_count;
            vcpus_per_domain = s.vcpus_per_domain;
            pcpu_count = s.pcpu_count;
            vcpus = set s.vcpus i r.vcpu;
            pcpus = set s.pcpus p r.pcpu;
          };
    }

-- a request of d/v in a frame: the records at the slot and at the pCPU that are read, stored as the request leaves them
abbrev pub in_place : System → Frame → ℕ → ℕ → Request → SystemOutcome
in_place s f d v q =
    let i = slot_read d v in
    let x = get_or s.vcpus i no_vcpu in
    let p = pcpu_read q x in
    stores s i p (effect_of f d v q x (get_or s.pcpus p idle))

-- Two stores are the call, of every request and every system, damaged or not: the records at the slot and at the pCPU that are
-- read, stored as the request leaves them. It is proved as `requested-by-stores`.
abbrev pub RequestedByStores : Type 0
RequestedByStores = (s : System) (d v : ℕ) (q : Request) (sound : Bool) (i p : ℕ) (r : After)
    → sound ≡ invariants_hold s → i ≡ slot_read d v → p ≡ pcpu_read q (get_or s.vcpus i no_vcpu)
    → r ≡ effect_of (framed s sound) d v q (get_or s.vcpus i no_vcpu) (get_or s.pcpus p idle)
    → stores s i p r ≡ requested s d v q

-- A refusal hands both records back as they are, of every request. It is proved as `effect_hands-back`.
abbrev pub EffectHandsBack : Type 0
EffectHandsBack = (f : Frame) (d v : ℕ) (q : Request) (x : VirtualCpu) (c : PhysicalCpu) → HandsBack x c (effect_of f d v q x c)
