-- Every read of a sound system that agrees with the book gives what the book says. Assumes nothing.
use Rattle.std.specs.Prelude.{Option, None, Some}
use Prim.Native.Nat.{ℕ, ◌+◌, ◌-◌, ◌%◌, ◌^◌, ◌≤◌, ◌<◌}
use mathlib.Core.Bool.{Bool, true, false, cond, not, ◌&&◌, and-false}
use mathlib.Core.Path.{◌≡◌, refl, sym, ◌∙◌, ap, ap₂}
use mathlib.Core.Logic.{◌⊎◌, inl, inr}
use native.Mathlib.Nat.{div-eq_of_lt, lt_of_lt_of_le}
use native.Mathlib.Omega.{arith}
use lib.Dec.{eqb, ltb}
use lib.Pow.{pow_mono}
use borrow.Author.Tests.{ltb-true, ltb-false, lt-ltb, le-ltb}
use Rattle.masks.specs.Masks.{bit, permits}
use Rattle.system.specs.declared.RunState.{RunState}
use Rattle.system.specs.declared.RunState.TheVariants.{Offline, Runnable, Running, Blocked}
use Rattle.system.specs.declared.VirtualCpu.{VirtualCpu}
use Rattle.system.specs.declared.Occupant.{Occupant}
use Rattle.system.specs.declared.System.{System}
use Rattle.system.specs.Records.{flight, in_flight, runtime_until}
use Rattle.system.specs.States.{while_running}
use Rattle.system.specs.Slots.{domains, vcpus, pcpus, slot}
use Rattle.system.specs.Reads.{vcpu_at, occupant_at, is_idle, vcpu_of, state_in, runs, runtime_in, since, since_in}
use Rattle.system.specs.Reads.{affinity_in, permits_in, count, count_same, busy_pcpus}
use Rattle.verdict.specs.Sound.{Sound, sound_none}
use Rattle.scans.specs.Scan.{some}
use Rattle.usage.specs.Usage.{sum, usage}
use Rattle.usage.specs.Sums.{sum_same}
use Rattle.demand3.specs.Book.{Line, Book, Shape, holder}
use Rattle.demand3.specs.Agreement.{LineSays, Agrees}
use Rattle.demand3.specs.Lists.{open_part, book_service}
use Rattle.demand3.specs.Reads.{ReadsLine, ReadsAbsent, ReadsAgree}
use Rattle.demand3.proofs.Holders.{held-busy, shaped-domains, shaped-vcpus, shaped-pcpus}

-- a pCPU below a count of at most 64 has a bit
bit_below : (m n p : ℕ) → n ≤ 64 → (ltb p n && permits m p) ≡ (ltb p n && bit m p)
bit_below m n p h = go (ltb p n) refl
  where
    go : (t : Bool) → ltb p n ≡ t → (t && permits m p) ≡ (t && bit m p)
    go true e = let l = ltb-true p n e in rw (lt-ltb p 64 (omega arith))
    go false e = refl

-- a mask has no bit at or above a count that it is clipped to
pub clipped_bits : (m n p : ℕ) → m < 2 ^ n → (ltb p n && bit m p) ≡ bit m p
clipped_bits m n p h = go (ltb p n) refl
  where
    go : (t : Bool) → ltb p n ≡ t → (t && bit m p) ≡ bit m p
    go true e = refl
    go false e = sym (ap (λ (x : ℕ). eqb (x % 2) 1) (div-eq_of_lt (lt_of_lt_of_le h (pow_mono (ltb-false p n e)))))

-- since when, by a line that says what a record has
since-says : {l : Line} {v : VirtualCpu} → LineSays l v → (st : RunState) → v.state ≡ st
    → since st v.dispatched_at ≡ while_running st (λ p. Some l.clock) None
since-says y Offline e = refl
since-says y Runnable e = refl
since-says y (Running p) e = ap Some (sym (y.clock p e))
since-says y Blocked e = refl

-- and its service at a reading
pub service-says : (b : Book) (s : System) (r i : ℕ) → LineSays (b i) (vcpu_at s i)
    → book_service b r i ≡ runtime_until (vcpu_at s i) r
unfolding in_flight
service-says b s r i y =
    ap₂ ◌+◌ y.time (ap (open_part (b i) r) y.state ∙ open-same (vcpu_at s i).state refl)
  where
    open-same : (st : RunState) → (vcpu_at s i).state ≡ st → open_part (b i) r st ≡ flight (vcpu_at s i) r st
    open-same Offline e = refl
    open-same Runnable e = refl
    open-same (Running p) e = ap (λ (c : ℕ). r - c) (y.clock p e)
    open-same Blocked e = refl

module _ {k : Shape} {b : Book} {s : System} (A : Agrees k b s) (S : Sound s) where
  same-domains : domains s ≡ k.domains
  same-domains = shaped-domains A.shape S

  same-vcpus : vcpus s ≡ k.vcpus
  same-vcpus = shaped-vcpus A.shape S

  same-pcpus : pcpus s ≡ k.pcpus
  same-pcpus = shaped-pcpus A.shape S

  found : (d v : ℕ) → d < k.domains → v < k.vcpus → vcpu_of s d v ≡ Some (vcpu_at s (slot d v))
  unfolding vcpu_of
  found d v l m =
      rw (lt-ltb d (domains s) (omega (arith, same-domains)), lt-ltb v (vcpus s) (omega (arith, same-vcpus)))

  not_found : (d v : ℕ) → (k.domains ≤ d) ⊎ (k.vcpus ≤ v) → vcpu_of s d v ≡ None
  unfolding vcpu_of
  not_found d v (inl l) = rw (le-ltb d (domains s) (omega (arith, same-domains)))
  not_found d v (inr l) = rw (le-ltb v (vcpus s) (omega (arith, same-vcpus)), and-false (ltb d (domains s)))

  says_there : (d v : ℕ) → d < k.domains → v < k.vcpus → LineSays (b (slot d v)) (vcpu_at s (slot d v))
  says_there d v l m =
      let z : k.vcpus ≤ 8 = omega (arith, S.vcpus, A.shape.vcpus) in
      A.lines (slot d v) (record { domain = omega arith; vcpu = omega arith })

  reads-line : (d v : ℕ) → d < k.domains → v < k.vcpus → ReadsLine s d v k.pcpus (b (slot d v))
  reads-line d v l m =
      record {
        read = vcpu_at s (slot d v);
        vcpu = f;
        says = y;
        state = ap state_in f ∙ ap Some (sym y.state);
        running = ap (λ (x : Option VirtualCpu). runs (state_in x)) f ∙ ap (λ (st : RunState). while_running st (λ p. true) false) (sym y.state);
        runtime = ap runtime_in f ∙ ap Some (sym y.time);
        since =
            ap since_in f ∙ (since-says y (vcpu_at s (slot d v)).state refl
            ∙ ap (λ (st : RunState). while_running st (λ p. Some (b (slot d v)).clock) None) (sym y.state));
        affinity = ap affinity_in f ∙ ap Some (sym y.mask);
        permits = λ p.
            ap₂ (λ (n : ℕ) (x : Option VirtualCpu). ltb p n && permits_in x p) same-pcpus f
            ∙ (ap (λ (x : ℕ). ltb p k.pcpus && permits x p) (sym y.mask)
            ∙ bit_below (b (slot d v)).mask k.pcpus p (omega (arith, S.pcpus, A.shape.pcpus)));
      }
    where
      f : vcpu_of s d v ≡ Some (vcpu_at s (slot d v))
      f = found d v l m

      y : LineSays (b (slot d v)) (vcpu_at s (slot d v))
      y = says_there d v l m

  reads-absent : (d v : ℕ) → (k.domains ≤ d) ⊎ (k.vcpus ≤ v) → ReadsAbsent s d v
  reads-absent d v l =
      let f = not_found d v l in
      record {
        vcpu = f;
        state = ap state_in f;
        running = ap (λ (x : Option VirtualCpu). runs (state_in x)) f;
        runtime = ap runtime_in f;
        since = ap since_in f;
        affinity = ap affinity_in f;
        permits = λ p. ap (λ (x : Option VirtualCpu). ltb p (pcpus s) && permits_in x p) f ∙ and-false (ltb p (pcpus s));
      }

  reads-used : (d r : ℕ) → d < k.domains → usage s d r ≡ sum (λ v. book_service b r (slot d v)) k.vcpus
  reads-used d r l =
      ap (sum (λ v. runtime_until (vcpu_at s (slot d v)) r)) (rw (lt-ltb d (domains s) (omega (arith, same-domains))) same-vcpus)
      ∙ sum_same _ _ k.vcpus (λ v m. sym (service-says b s r (slot d v) (says_there d v l m)))

  reads-unused : (d r : ℕ) → k.domains ≤ d → usage s d r ≡ 0
  unfolding sum
  reads-unused d r l = rw (le-ltb d (domains s) (omega (arith, same-domains)))

  busy-count : busy_pcpus s ≡ count (λ p. some (holder k b p)) k.pcpus
  unfolding occupant_at
  busy-count =
      ap (count (λ p. not (is_idle (occupant_at s p)))) same-pcpus
      ∙ count_same (λ p. not (is_idle (occupant_at s p))) (λ p. some (holder k b p)) k.pcpus
      (λ p l. ap (λ (o : Occupant). not (is_idle o)) (A.holders p l) ∙ held-busy (holder k b p))

  pub reads-agree : ReadsAgree k b s
  reads-agree =
      record {
        line = reads-line;
        absent = reads-absent;
        used = reads-used;
        unused = reads-unused;
        occupant = λ p l. rw (lt-ltb p (pcpus s) (omega (arith, same-pcpus))) (A.holders p l);
        no_occupant = λ p l. rw (le-ltb p (pcpus s) (omega (arith, same-pcpus)));
        domains = same-domains;
        vcpus = λ d. ap₂ (λ (n m : ℕ). cond (ltb d n) m 0) same-domains same-vcpus;
        pcpus = same-pcpus;
        busy = busy-count;
        full = ap (λ (n : ℕ). 2 ^ n - 1) same-pcpus;
        verdict = sound_none s S;
      }
