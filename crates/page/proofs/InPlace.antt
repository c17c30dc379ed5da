-- A call made in place is the page's, of any system and any request. Assumes nothing.
use Prim.Native.Nat.{ℕ}
use mathlib.Core.Path.{◌≡◌, refl, sym, ◌∙◌, ap}
use Rattle.system.specs.declared.RunState.{RunState}
use Rattle.system.specs.declared.RunState.TheVariants.{Offline, Runnable, Running, Blocked}
use Rattle.system.specs.declared.VirtualCpu.{VirtualCpu}
use Rattle.system.specs.declared.PhysicalCpu.{PhysicalCpu}
use Rattle.system.specs.declared.System.{System}
use Rattle.verdict.specs.Violations.{invariants_hold}
use Rattle.verdict.specs.OneViolation.{pcpu_index}
use Rattle.calls.specs.declared.Request.{Request}
use Rattle.changes.specs.declared.After.{After}
use Rattle.sched.specs.declared.Frame.{Frame}
use Rattle.sched.specs.RequestInPlace as sched
use Rattle.sched.specs.RequestInPlace.{framed, effect_of, stores}
use Rattle.sched.proofs.Laws.{requested-by-stores}
use Rattle.page.specs.Page as page
use Rattle.page.specs.Page.{Told}
use Rattle.page.specs.InPlace as in_place
use Rattle.page.specs.InPlace.{FrameOf, InPlace, slot_read, vcpu_at, pcpu_at}
use Rattle.page.proofs.Verdict.{sound-is}
use Rattle.page.proofs.Calls.{tell, request_is}
use Rattle.page.proofs.Steps.{answer-is}

pcpu-on-is : (st : RunState) → pcpu_index st ≡ in_place.pcpu_on st
pcpu-on-is Offline = refl
pcpu-on-is Runnable = refl
pcpu-on-is (Running p) = refl
pcpu-on-is Blocked = refl

pub pcpu-read-is : (q : Request) (x : VirtualCpu) → sched.pcpu_read q x ≡ in_place.pcpu_read q x
pcpu-read-is Request.Admit x = pcpu-on-is x.state
pcpu-read-is (Request.Run p now) x = refl
pcpu-read-is (Request.Preempt now) x = pcpu-on-is x.state
pcpu-read-is (Request.Block now) x = pcpu-on-is x.state
pcpu-read-is Request.Wake x = pcpu-on-is x.state
pcpu-read-is (Request.SetAffinity m) x = pcpu-on-is x.state
pcpu-read-is (Request.Offline now) x = pcpu-on-is x.state

-- a frame that is a system's own, by its parts
frame-is : (s : System) (f : Frame) → FrameOf s f → f ≡ framed s f.sound
frame-is s f h i =
    record {
      sound = f.sound;
      domain_count = h.domains i;
      vcpus_per_domain = h.vcpus i;
      pcpu_count = h.pcpus i;
    }

pub frame-of-is : (s : System) (f : Frame) → f ≡ framed s (invariants_hold s) → FrameOf s f
frame-of-is s f e =
    record {
      sound = ap (λ (g : Frame). g.sound) e ∙ sound-is s;
      domains = ap (λ (g : Frame). g.domain_count) e;
      vcpus = ap (λ (g : Frame). g.vcpus_per_domain) e;
      pcpus = ap (λ (g : Frame). g.pcpu_count) e;
    }

-- a request made in the system's own frame is the call
pub in-place-is : (s : System) (f : Frame) (d v : ℕ) (q : Request) → FrameOf s f
    → tell (sched.in_place s f d v q) ≡ page.called s d v q
in-place-is s f d v q h =
    ap tell
    (requested-by-stores s d v q f.sound _ _ _ (h.sound ∙ sym (sound-is s)) refl refl
    (λ i. effect_of (frame-is s f h i) d v q (vcpu_at s (slot_read d v)) (pcpu_at s (sched.pcpu_read q (vcpu_at s (slot_read d v))))))
    ∙ request_is s d v q

pub effect_does : (f : Frame) (d v : ℕ) (q : Request) (x : VirtualCpu) (c : PhysicalCpu) (r : After)
    → r ≡ effect_of f d v q x c → InPlace d v q f x c r
effect_does f d v q x c r says s h =
    record {
      number = sym (answer-is r.answer) ∙ ap (λ (t : Told). t.number) call;
      system = ap (λ (t : Told). t.system) call;
    }
  where
    there : c ≡ pcpu_at s (in_place.pcpu_read q (vcpu_at s (slot_read d v)))
    there = h.pcpu ∙ ap (λ (y : VirtualCpu). pcpu_at s (in_place.pcpu_read q y)) h.vcpu

    call : tell (stores s (slot_read d v) (in_place.pcpu_read q (vcpu_at s (slot_read d v))) r) ≡ page.called s d v q
    call =
        ap tell
        (requested-by-stores s d v q f.sound _ _ r (h.frame.sound ∙ sym (sound-is s)) refl
        (sym (pcpu-read-is q (vcpu_at s (slot_read d v))))
        (says ∙ (λ i. effect_of (frame-is s f h.frame i) d v q (h.vcpu i) (there i))))
        ∙ request_is s d v q
