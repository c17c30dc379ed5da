-- A run is told 6 exactly if it passes the tests before that one and `affinity_permits` is false of its pCPU. Assumes nothing.
use Rattle.std.specs.Prelude.{ℕ, ◌<◌, Bool, cond, ◌≡◌, ◌↔◌, Option, Some, Ok, Err, ltb}
use Rattle.std.proofs.Math.Bool.{true, false}
use Rattle.std.proofs.Math.Path.{refl, ap}
use Rattle.std.proofs.Common.{sym, ◌∙◌}
use native.Mathlib.Omega.{arith}
use borrow.Author.Tests.{ltb-true, lt-ltb}
use Rattle.masks.specs.Masks.{permits}
use Rattle.system.specs.declared.RunState.{RunState}
use Rattle.system.specs.declared.RunState.TheVariants.{Offline, Runnable, Running, Blocked}
use Rattle.system.specs.declared.VirtualCpu.{VirtualCpu}
use Rattle.system.specs.declared.System.{System}
use Rattle.system.specs.declared.Answer.{Answer}
use Rattle.system.specs.declared.Answer.TheVariants.{BadDomain, BadVcpu, BadPcpu, NotAffine, Unsound}
use Rattle.system.specs.Answers.{told, SystemOutcome}
use Rattle.system.specs.Reads.{vcpu_at, occupant_at, is_idle, vcpu_of, state_in, state_of, permits_in, affinity_permits}
use Rattle.system.specs.Slots.{domains, vcpus, pcpus, slot}
use Rattle.verdict.specs.Violations.{invariants_hold}
use Rattle.verdict.specs.Sound.{Sound, sound_iff}
use Rattle.calls.specs.declared.Request.{Request}
use Rattle.changes.specs.declared.Change.TheVariants.{Enter}
use Rattle.changes.specs.Records.{dispatched}
use Rattle.changes.specs.Changes.{ran}
use Rattle.sched.specs.Steps.{tested, applied, made, requested, run}

-- the pCPU and the vCPU are there, and the vCPU is Runnable, but it may not run on that pCPU
pub record Barred (s : System) (d v p : ℕ) : Type 0 where
  pub pcpu : p < pcpus s
  pub domain : d < domains s
  pub vcpu : v < vcpus s
  pub ready : state_of s d v ≡ Some Runnable
  pub barred : affinity_permits s d v p ≡ false

module _ (s : System) (d v p now : ℕ) where
  abbrev vcpu : VirtualCpu
  vcpu = vcpu_at s (slot d v)

  found : d < domains s → v < vcpus s → vcpu_of s d v ≡ Some vcpu
  unfolding vcpu_of
  found l m = rw (lt-ltb d (domains s) l, lt-ltb v (vcpus s) m)

  permits-found : p < pcpus s → d < domains s → v < vcpus s → affinity_permits s d v p ≡ permits vcpu.affinity p
  permits-found k l m = rw (lt-ltb p (pcpus s) k) (ap (λ (x : Option VirtualCpu). permits_in x p) (found l m))

  -- a test that is told otherwise has passed
  passed : (t : Bool) (a : Answer) (r : SystemOutcome) → (told a ≡ told NotAffine → ⊥) → (tested t a s r).number ≡ told NotAffine
      → (t ≡ true) × (r.number ≡ told NotAffine)
  passed true a r n e = (refl, e)
  passed false a r n e = absurd (n e)

  entering : (f : Bool) → is_idle (occupant_at s p) ≡ f
      → (applied s (slot d v) (Ok (Enter (dispatched vcpu p now) p))).number ≡ told NotAffine → ⊥
  unfolding applied
  entering true x e = let y = rw x at e in omega arith
  entering false x e = let y = rw x at e in omega arith

  refused-ran : (st : RunState) → (applied s (slot d v) (ran vcpu p now st)).number ≡ told NotAffine
      → (st ≡ Runnable) × (permits vcpu.affinity p ≡ false)
  unfolding applied
  refused-ran Offline e = absurd (omega arith)
  refused-ran Runnable e = (refl, go (permits vcpu.affinity p) e)
    where
      go : (m : Bool) → (applied s (slot d v) (cond m (Ok (Enter (dispatched vcpu p now) p)) (Err NotAffine))).number ≡ told NotAffine
          → m ≡ false
      go true x = absurd (entering (is_idle (occupant_at s p)) refl x)
      go false x = refl
  refused-ran (Running q) e = absurd (omega arith)
  refused-ran Blocked e = absurd (omega arith)

  ran-refused : vcpu.state ≡ Runnable → permits vcpu.affinity p ≡ false
      → (made s (slot d v) (Request.Run p now)).number ≡ told NotAffine
  unfolding applied
  ran-refused e f = ap (λ (st : RunState). (applied s (slot d v) (ran vcpu p now st)).number) e ∙ rw f

  pub run-not-affine : Sound s → ((run s d v p now).number ≡ told NotAffine) ↔ Barred s d v p
  unfolding requested
  run-not-affine S = (there, back)
    where
      there : (run s d v p now).number ≡ told NotAffine → Barred s d v p
      there e =
          let made-it = made s (slot d v) (Request.Run p now) in
          let by-vcpu = tested (ltb v (vcpus s)) BadVcpu s made-it in
          let by-domain = tested (ltb d (domains s)) BadDomain s by-vcpu in
          let a = passed (invariants_hold s) Unsound (tested (ltb p (pcpus s)) BadPcpu s by-domain) (λ x. omega arith) e in
          let b = passed (ltb p (pcpus s)) BadPcpu by-domain (λ x. omega arith) a.1 in
          let c = passed (ltb d (domains s)) BadDomain by-vcpu (λ x. omega arith) b.1 in
          let f = passed (ltb v (vcpus s)) BadVcpu made-it (λ x. omega arith) c.1 in
          let g = refused-ran vcpu.state f.1 in
          let k = ltb-true p (pcpus s) b.0 in
          let l = ltb-true d (domains s) c.0 in
          let m = ltb-true v (vcpus s) f.0 in
          record {
            pcpu = k;
            domain = l;
            vcpu = m;
            ready = ap state_in (found l m) ∙ ap Some g.0;
            barred = permits-found k l m ∙ g.1;
          }

      back : Barred s d v p → (run s d v p now).number ≡ told NotAffine
      back B =
          let e : Some vcpu.state ≡ Some Runnable = sym (ap state_in (found B.domain B.vcpu)) ∙ B.ready in
          let st : vcpu.state ≡ Runnable = cc in
          rw
          ((sound_iff s).1 S, lt-ltb p (pcpus s) B.pcpu, lt-ltb d (domains s) B.domain, lt-ltb v (vcpus s) B.vcpu)
          (ran-refused st (sym (permits-found B.pcpu B.domain B.vcpu) ∙ B.barred))
