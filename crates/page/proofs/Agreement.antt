-- A system that agrees with the book of demand 3 agrees with the page's. Assumes nothing.
use Rattle.std.specs.Prelude.{None, Some}
use Prim.Native.Nat.{ℕ, zero, suc, ◌+◌, ◌*◌, ◌≤◌, ◌<◌}
use mathlib.Core.Bool.{Bool, true, false, cond, ◌&&◌, and-false}
use mathlib.Core.Logic.{◌⊎◌, inl, inr}
use mathlib.Core.Path.{◌≡◌, refl, sym, ◌∙◌, ap, ap₂}
use native.Mathlib.Omega.{arith}
use lib.Dec.{ltb}
use borrow.Author.Tests.{ltb-true, ltb-false, lt-ltb}
use Rattle.masks.specs.Masks.{bit}
use Rattle.system.specs.declared.RunState.{RunState}
use Rattle.system.specs.declared.RunState.TheVariants.{Offline, Runnable, Running, Blocked}
use Rattle.system.specs.declared.VirtualCpu.{VirtualCpu}
use Rattle.system.specs.declared.Occupant.TheVariants.{Idle}
use Rattle.system.specs.declared.System.{System}
use Rattle.system.specs.States.{while_running}
use Rattle.system.specs.Reads.{vcpu_at, occupant_at, affinity_permits, count}
use Rattle.scans.specs.Scan.{Pick, some}
use Rattle.scans.specs.Scan as scans
use Rattle.usage.specs.Usage as usage
use Rattle.usage.specs.Usage.{sum}
use Rattle.demand3.specs.Book as slots
use Rattle.demand3.specs.Book.{Book}
use Rattle.demand3.specs.Agreement as agreement
use Rattle.demand3.specs.Lists.{book_service}
use Rattle.demand3.specs.Reads.{ReadsAgree}
use Rattle.page.specs.Book as page
use Rattle.page.specs.Page.{vcpu, admits, times, somebody}
use Rattle.page.specs.Reads as reads
use Rattle.page.specs.Lists.{Sized, service_of}
use Rattle.page.specs.Demand3.{Says, Agrees, has, occupant_by}
use Rattle.page.proofs.Loops.{who}
use Rattle.page.proofs.Verdict.{first_violation_is}
use Rattle.page.proofs.ReadLaws.{state-of-is, is-running-is, runtime-is, since-is, affinity-of-is}
use Rattle.page.proofs.ReadLaws.{affinity-permits-is, busy-is, usage-is}
use Rattle.page.proofs.ByIds.{shape, lined, booked, line-is, holder-is}
use Rattle.page.proofs.ByIds as ids
use Rattle.page.proofs.AtPoints.{present, service-of-is}

cond-is : (t : Bool) → cond t true false ≡ t
cond-is true = refl
cond-is false = refl

and_is : (t b : Bool) → cond t b false ≡ (t && b)
and_is true b = refl
and_is false b = refl

cond-and : {A : Type 0} (t u : Bool) (x y : A) → cond t (cond u x y) y ≡ cond (t && u) x y
cond-and true u x y = refl
cond-and false u x y = refl

-- a test of the state
running-is : {A : Type 0} (st : RunState) (x y : A) → while_running st (λ p. x) y ≡ cond (reads.running st) x y
running-is Offline x y = refl
running-is Runnable x y = refl
running-is (Running p) x y = refl
running-is Blocked x y = refl

occupant-by-is : (r : Pick) → slots.occupant_by r ≡ occupant_by (who r)
occupant-by-is scans.nobody = refl
occupant-by-is (scans.at i) = refl

says : {l : slots.Line} {x : VirtualCpu} → agreement.LineSays l x → Says (lined l) x
says A =
    record {
      state = sym A.state;
      time = sym A.time;
      mask = sym A.mask;
      clock = λ p e. sym (A.clock p (sym A.state ∙ e));
    }

module _ (k : page.Shape) (sized : Sized k) (b : Book) (s : System) (A : agreement.Agrees (shape k) b s)
    (R : ReadsAgree (shape k) b s)
    (bits : (d v p : ℕ) → d < k.domains → v < k.vcpus → affinity_permits s d v p ≡ bit (b (d * 8 + v)).mask p) where
  -- what is read of d/v, where it is there, by its line in the page's book; else what is absent
  by-line : {A : Type 0} {got : A} (f : page.Line → A) (absent : A) (d v : ℕ)
      → (d < k.domains → v < k.vcpus → got ≡ f (lined (b (d * 8 + v))))
      → ((k.domains ≤ d) ⊎ (k.vcpus ≤ v) → got ≡ absent) → got ≡ cond (has k d v) (f (booked k b d v)) absent
  by-line {A} {got} f absent d v there gone = go (ltb d k.domains) refl (ltb v k.vcpus) refl
    where
      go : (t : Bool) → ltb d k.domains ≡ t → (u : Bool) → ltb v k.vcpus ≡ u → got ≡ cond (t && u) (f (booked k b d v)) absent
      go true x true y =
          let l = ltb-true v k.vcpus y in
          there (ltb-true d k.domains x) l ∙ ap f (sym (line-is k b d v (omega (arith, sized.vcpus))))
      go true x false y = gone (inr (ltb-false v k.vcpus y))
      go false x u y = gone (inl (ltb-false d k.domains x))

  -- bit p of a clipped mask, with the test that there may be such a bit or without
  permits-is : (d v p : ℕ) → d < k.domains → v < k.vcpus → affinity_permits s d v p ≡ admits (b (d * 8 + v)).mask p
  permits-is d v p x y = go (ltb p k.pcpus) refl ((R.line d v x y).permits p)
    where
      here : Bool
      here = bit (b (d * 8 + v)).mask p

      go : (t : Bool) → ltb p k.pcpus ≡ t → affinity_permits s d v p ≡ (t && here) → affinity_permits s d v p ≡ (ltb p 64 && here)
      go true e f =
          let l = ltb-true p k.pcpus e in f ∙ ap (λ (t : Bool). t && here) (sym (lt-ltb p 64 (omega (arith, sized.pcpus))))
      go false e f = f ∙ (sym (and-false (ltb p 64)) ∙ ap (λ (t : Bool). ltb p 64 && t) (sym f ∙ bits d v p x y))

  pub agrees : Agrees k (booked k b) s
  unfolding vcpu_at occupant_at times count sum
  agrees =
      record {
        lines = λ d v x y. rw (line-is k b d v (omega (arith, sized.vcpus))) (says (A.lines (d * 8 + v) (present k sized x y)));
        records = λ d v.
            ap₂ (λ (m n : ℕ). cond (ltb d m && ltb v n) (Some (vcpu s d v)) None) R.domains
            (omega (arith, A.shape.vcpus, sized.vcpus));
        states = λ d v.
            sym (state-of-is s d v)
            ∙ by-line (λ l. Some l.state) _ d v (λ x y. (R.line d v x y).state) (λ x. (R.absent d v x).state);
        running = λ d v.
            sym (is-running-is s d v)
            ∙ (by-line (λ l. cond (reads.running l.state) true false) false d v
            (λ x y. (R.line d v x y).running ∙ running-is (b (d * 8 + v)).state true false) (λ x. (R.absent d v x).running)
            ∙ (cond-and (has k d v) _ true false ∙ cond-is (has k d v && _)));
        run-times = λ d v.
            sym (runtime-is s d v)
            ∙ by-line (λ l. Some l.time) _ d v (λ x y. (R.line d v x y).runtime) (λ x. (R.absent d v x).runtime);
        masks = λ d v.
            sym (affinity-of-is s d v)
            ∙ by-line (λ l. Some l.mask) _ d v (λ x y. (R.line d v x y).affinity) (λ x. (R.absent d v x).affinity);
        permits = λ d v p.
            sym (affinity-permits-is s d v p)
            ∙ (by-line (λ l. admits l.mask p) false d v (λ x y. permits-is d v p x y) (λ x. (R.absent d v x).permits p)
            ∙ and_is (has k d v) _);
        clocks = λ d v.
            sym (since-is s d v)
            ∙ (by-line (λ l. cond (reads.running l.state) (Some l.clock) None) _ d v
            (λ x y. (R.line d v x y).since ∙ running-is (b (d * 8 + v)).state _ _) (λ x. (R.absent d v x).since)
            ∙ cond-and (has k d v) _ _ _);
        used = λ d r. sym (usage-is s d r) ∙ used d r (ltb d k.domains) refl;
        holders = λ p. held p (ltb p k.pcpus) refl;
        busy = sym (busy-is s) ∙ (R.busy ∙ counted k.pcpus);
        domains = R.domains;
        vcpus = R.vcpus;
        pcpus = R.pcpus;
        full-mask = R.full;
        sound = sym (first_violation_is s) ∙ R.verdict;
      }
    where
      services : (d r n : ℕ) → n ≤ 8 → sum (λ v. book_service b r (d * 8 + v)) n ≡ times (λ v n. n + service_of (booked k b) r d v) n 0
      services d r zero l = refl
      services d r (suc n) l = ap₂ ◌+◌ (services d r n (omega arith)) (sym (service-of-is k b r d n (omega arith)))

      used : (d r : ℕ) (t : Bool) → ltb d k.domains ≡ t
          → usage.usage s d r ≡ times (λ v n. n + service_of (booked k b) r d v) (cond t k.vcpus 0) 0
      used d r true e = R.used d r (ltb-true d k.domains e) ∙ services d r k.vcpus sized.vcpus
      used d r false e = R.unused d r (ltb-false d k.domains e)

      held : (p : ℕ) (t : Bool) → ltb p k.pcpus ≡ t → reads.occupant s p ≡ cond t (occupant_by (page.holder k (booked k b) p)) Idle
      held p true e =
          R.occupant p (ltb-true p k.pcpus e)
          ∙ (occupant-by-is (slots.holder (shape k) b p) ∙ ap occupant_by (sym (holder-is k b sized.vcpus p)))
      held p false e = R.no_occupant p (ltb-false p k.pcpus e)

      counted : (n : ℕ) → count (λ p. some (slots.holder (shape k) b p)) n
          ≡ times (λ p n. n + cond (somebody (page.holder k (booked k b) p)) 1 0) n 0
      counted zero = refl
      counted (suc n) = ap₂ ◌+◌ (counted n) (ap (λ (t : Bool). cond t 1 0) (sym (ids.busy-is k b sized.vcpus n)))
