-- The transitions are the page's, of any system. Assumes nothing.
use Rattle.std.specs.Prelude.{Ok, Err}
use Prim.Native.Nat.{ℕ, zero, suc, ◌%◌, ◌^◌, ◌≤◌, ◌<◌, min}
use mathlib.Core.Bool.{Bool, true, false, cond}
use mathlib.Core.Path.{◌≡◌, refl, ◌∙◌, ap, ap₂}
use native.Mathlib.Omega.{arith}
use lib.Dec.{ltb}
use borrow.Author.Tests.{ltb-true}
use Rattle.system.specs.declared.RunState.{RunState}
use Rattle.system.specs.declared.RunState.TheVariants.{Offline, Runnable, Running, Blocked}
use Rattle.system.specs.declared.Occupant.{Occupant}
use Rattle.system.specs.declared.Occupant.TheVariants.{Vcpu}
use Rattle.system.specs.declared.System.{System}
use Rattle.system.specs.declared.Answer.{Answer}
use Rattle.system.specs.Answers.{told, SystemOutcome}
use Rattle.system.specs.Slots.{slot, slot-who}
use Rattle.system.specs.Writes as writes
use Rattle.system.specs.Reads as reads
use Rattle.system.specs.Reads.{vcpu_at, occupant_at, full_affinity}
use Rattle.verdict.specs.Violations.{invariants_hold}
use Rattle.calls.specs.declared.Request.{Request}
use Rattle.changes.specs.declared.Change.TheVariants.{Enter}
use Rattle.changes.specs.Records.{dispatched, left}
use Rattle.changes.specs.Changes as changes
use Rattle.changes.specs.Changes.{reaches}
use Rattle.sched.specs.Steps as sched
use Rattle.sched.specs.Steps.{applied, made, requested, tested, offline_first}
use Rattle.page.specs.Page as page
use Rattle.page.specs.Page.{times, vcpu, holder, admits}
use Rattle.page.specs.Page.{Told, test, done, sound, asked}
use Rattle.page.specs.Page.{admitting, dispatching, preempting, blocking, waking, offlining, masking}
use Rattle.page.proofs.Next.{idle-is}
use Rattle.page.proofs.Verdict.{sound-is}

abbrev pub tell : SystemOutcome → Told
tell r = record { number = r.number; system = r.system }

-- what a request does on the page
abbrev pub done-by : System → ℕ → ℕ → Request → Told
done-by s d v Request.Admit = admitting s d v (vcpu s d v).state
done-by s d v (Request.Run p now) = dispatching s d v p now (vcpu s d v).state
done-by s d v (Request.Preempt now) = preempting s d v now (vcpu s d v).state
done-by s d v (Request.Block now) = blocking s d v now (vcpu s d v).state
done-by s d v Request.Wake = waking s d v (vcpu s d v).state
done-by s d v (Request.SetAffinity m) = masking s d v (m % 2 ^ min s.pcpu_count 64) (vcpu s d v).state
done-by s d v (Request.Offline now) = offlining s d v now (vcpu s d v).state

tell-tested : (b : Bool) (a : Answer) (s : System) (r : SystemOutcome) → tell (tested b a s r) ≡ test b (told a) s (tell r)
tell-tested true a s r = refl
tell-tested false a s r = refl

pub made-is : (s : System) (d v : ℕ) → v < 8 → (q : Request) → tell (made s (slot d v) q) ≡ done-by s d v q
unfolding vcpu_at occupant_at writes.put_vcpu writes.put_occupant applied dispatched left
made-is s d v l Request.Admit = go (vcpu s d v).state
  where
    go : (st : RunState) → tell (applied s (slot d v) (changes.admitted (vcpu s d v) st)) ≡ admitting s d v st
    go Offline = refl
    go Runnable = refl
    go (Running p) = refl
    go Blocked = refl
made-is s d v l (Request.Run p now) = go (vcpu s d v).state
  where
    enter : (b : Bool)
        → tell (applied s (slot d v) (cond b (Ok (Enter (dispatched (vcpu s d v) p now) p)) (Err Answer.NotAffine)))
        ≡ test b 6 s (test (page.is_idle (holder s p)) 5 s
        (done (page.put_holder (page.put_vcpu s d v (page.vc (Running p) (vcpu s d v).runtime now (vcpu s d v).affinity p)) p (Vcpu d v))))
    enter true =
        tell-tested (reads.is_idle (holder s p)) Answer.PcpuBusy s _
        ∙ ap₂ (λ (b : Bool) (o : Occupant). test b 5 s
        (done (page.put_holder (page.put_vcpu s d v (page.vc (Running p) (vcpu s d v).runtime now (vcpu s d v).affinity p)) p o)))
        (idle-is (holder s p)) (slot-who d v l)
    enter false = refl

    go : (st : RunState) → tell (applied s (slot d v) (changes.ran (vcpu s d v) p now st)) ≡ dispatching s d v p now st
    go Offline = refl
    go Runnable = enter (admits (vcpu s d v).affinity p)
    go (Running q) = refl
    go Blocked = refl
made-is s d v l (Request.Preempt now) = go (vcpu s d v).state
  where
    go : (st : RunState) → tell (applied s (slot d v) (changes.preempted (vcpu s d v) now st)) ≡ preempting s d v now st
    go Offline = refl
    go Runnable = refl
    go (Running p) = refl
    go Blocked = refl
made-is s d v l (Request.Block now) = go (vcpu s d v).state
  where
    go : (st : RunState) → tell (applied s (slot d v) (changes.blocked (vcpu s d v) now st)) ≡ blocking s d v now st
    go Offline = refl
    go Runnable = refl
    go (Running p) = refl
    go Blocked = refl
made-is s d v l Request.Wake = go (vcpu s d v).state
  where
    go : (st : RunState) → tell (applied s (slot d v) (changes.woken (vcpu s d v) st)) ≡ waking s d v st
    go Offline = refl
    go Runnable = refl
    go (Running p) = refl
    go Blocked = refl
made-is s d v l (Request.SetAffinity m) = go (vcpu s d v).state
  where
    clip : ℕ
    clip = m % 2 ^ min s.pcpu_count 64

    go : (st : RunState) → tell (applied s (slot d v) (changes.masked (vcpu s d v) clip st)) ≡ masking s d v clip st
    go Offline = refl
    go Runnable = refl
    go (Running p) = turn (admits clip p)
      where
        turn : (b : Bool)
            → tell (applied s (slot d v) (cond b (changes.masked (vcpu s d v) clip Offline) (Err Answer.NotAffine)))
            ≡ test b 6 s (masking s d v clip Offline)
        turn true = refl
        turn false = refl
    go Blocked = refl
made-is s d v l (Request.Offline now) = go (vcpu s d v).state
  where
    go : (st : RunState) → tell (applied s (slot d v) (changes.offlined (vcpu s d v) (full_affinity s) now st)) ≡ offlining s d v now st
    go Offline = refl
    go Runnable = refl
    go (Running p) = refl
    go Blocked = refl

module _ (s : System) (d v : ℕ) where
  in_order : (q : Request) (a b c : Bool) → (c ≡ true → v < 8)
      → tell (tested a Answer.BadPcpu s (tested b Answer.BadDomain s (tested c Answer.BadVcpu s (made s (slot d v) q))))
      ≡ test a 3 s (test b 1 s (test c 2 s (done-by s d v q)))
  in_order q false b c l = refl
  in_order q true false c l = refl
  in_order q true true false l = refl
  in_order q true true true l = made-is s d v (l refl) q

  requested-is : (q : Request) → tell (requested s d v q) ≡ test (sound s) 8 s (test (reaches q (page.pcpus s)) 3 s (asked s d v (done-by s d v q)))
  unfolding requested
  requested-is q =
      tell-tested (invariants_hold s) Answer.Unsound s _
      ∙ ap₂ (λ (b : Bool) (r : Told). test b 8 s r) (sound-is s)
      (in_order q (reaches q (page.pcpus s)) (ltb d (page.domains s)) (ltb v (page.vcpus s))
      (λ e. let h = ltb-true v (page.vcpus s) e in omega arith))

  pub request_is : (q : Request) → tell (requested s d v q) ≡ page.called s d v q
  request_is Request.Admit = requested-is Request.Admit
  request_is (Request.Run p now) = requested-is (Request.Run p now)
  request_is (Request.Preempt now) = requested-is (Request.Preempt now)
  request_is (Request.Block now) = requested-is (Request.Block now)
  request_is Request.Wake = requested-is Request.Wake
  request_is (Request.SetAffinity m) = requested-is (Request.SetAffinity m)
  request_is (Request.Offline now) = requested-is (Request.Offline now)

pub offline-all-is : (s : System) (d now : ℕ) → tell (sched.offline_all s d now) ≡ page.offline_all s d now
unfolding sched.offline_all offline_first times
offline-all-is s d now =
    tell-tested (invariants_hold s) Answer.Unsound s _
    ∙ ap₂ (λ (b : Bool) (t : System). test b 8 s (done t)) (sound-is s) (each (reads.vcpu_count s d) (few (ltb d (page.domains s))))
  where
    few : (b : Bool) → cond b (page.vcpus s) 0 ≤ 8
    few true = omega arith
    few false = omega arith

    each : (k : ℕ) → k ≤ 8 → offline_first s d now k ≡ times (λ v t. (offlining t d v now (vcpu t d v).state).system) k s
    each zero l = refl
    each (suc k) l =
        ap (λ (r : Told). r.system) (made-is (offline_first s d now k) d k (omega arith) (Request.Offline now))
        ∙ ap (λ (t : System). (offlining t d k now (vcpu t d k).state).system) (each k (omega arith))
