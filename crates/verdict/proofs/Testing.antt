-- What a test of soundness keeps, slot by slot, and its verdict. Assumes nothing.
use Rattle.std.specs.Prelude.{Option, None, Some, is_none}
use Rattle.std.specs.Option.{option_or, is_some}
use Rattle.std.proofs.Common.{ℕ, ◌+◌, ◌/◌, ◌%◌, ◌≤◌, zero-le, Bool, true, false, ◌≡◌, refl, sym, ◌∙◌, ap, add-zero, add-one, arith, eqb}
use Rattle.std.proofs.lemmas.Bool.{false≢true}
use Rattle.system.specs.declared.System.{System}
use Rattle.system.specs.Shape.{within_sizes}
use Rattle.system.specs.Reads.{vcpu_at, occupant_at, count, busy_pcpus}
use Rattle.system.specs.Slots.{pcpus, slots}
use Rattle.verdict.specs.declared.Violation.{Violation}
use Rattle.verdict.specs.Violations.{slot_violation, pcpu_violation, earliest, first_violation, invariants_hold}
use Rattle.verdict.specs.OneViolation.{pcpu_index, vcpu_violation_at, runs_within, running_at}
use Rattle.verdict.specs.Sound.{is-none}
use Rattle.verdict.proofs.VerdictScan.{is-found, is-clean, or_keeps, slot-told}
use Rattle.verdict.proofs.Tally.{counted, running-told, running-present, rests, tally}

abbrev pub fits : System → Bool
fits s = within_sizes s.domain_count s.vcpus_per_domain s.pcpu_count

-- after the first i slots: whether all was in order, and how many vCPUs run
pub record Testing (s : System) (sound : Bool) (running i : ℕ) : Type 0 where
  pub few : running ≤ i
  pub oversize : fits s ≡ false → sound ≡ false
  pub clean : fits s ≡ true → sound ≡ is_none (earliest (slot_violation s) i)
  pub counts : fits s ≡ true → running ≡ count (running_at s) i

-- a verdict of none changes nothing, and any other is the verdict
or_right : (a : Option Violation) → is_none (option_or a None) ≡ is_none a
or_right None = refl
or_right (Some v) = refl

or_broken : (a b : Option Violation) → is_none b ≡ false → is_none (option_or a b) ≡ false
or_broken None b e = e
or_broken (Some v) b e = refl

module _ (s : System) where
  pub testing_starts : (b : Bool) → b ≡ fits s → Testing s b 0 0
  unfolding earliest count
  testing_starts b e = record { few = zero-le; oversize = λ o. e ∙ o; clean = λ o. e ∙ o; counts = λ o. refl }

  -- a vCPU that does not run is in order
  pub testing_rests : (i : ℕ) {b r : Bool} {n : ℕ} → r ≡ runs_within s.vcpus_per_domain (i % 8) (vcpu_at s i).state → r ≡ false
      → Testing s b n i → Testing s b n (i + 1)
  unfolding earliest
  testing_rests i {n = n} e r T =
      record {
        few = omega (arith, T.few);
        oversize = T.oversize;
        clean = λ o. rw (add-one i, rests s o i (rest o)) (T.clean o ∙ sym (or_right (earliest (slot_violation s) i)));
        counts = λ o. rw (add-one i) (sym (add-zero n) ∙ counted (running_at s) i n (T.counts o) (rest o));
      }
    where
      rest : fits s ≡ true → running_at s i ≡ false
      rest o = sym (running-told s o i) ∙ sym e ∙ r

  -- of one that runs it is looked up whether it may stand where it does
  module _ (i : ℕ) {r : Bool} {x : Option Violation} {q : ℕ} (e : r ≡ runs_within s.vcpus_per_domain (i % 8) (vcpu_at s i).state) (runs : r ≡ true)
      (at : q ≡ pcpu_index (vcpu_at s i).state)
      (found : x ≡ vcpu_violation_at s.pcpu_count (occupant_at s q) (i / 8) (i % 8) (vcpu_at s i).affinity (vcpu_at s i).state) where
    run : fits s ≡ true → running_at s i ≡ true
    run o = sym (running-told s o i) ∙ sym e ∙ runs

    told : fits s ≡ true → x ≡ slot_violation s i
    told o = slot-told s o i q x (running-present s o i (run o)) at found

    one_more : {b : Bool} {n : ℕ} → Testing s b n i → fits s ≡ true → n + 1 ≡ count (running_at s) (i + 1)
    one_more {n = n} T o = rw (add-one i) (counted (running_at s) i n (T.counts o) (run o))

    pub testing_backed : {b : Bool} {n : ℕ} → is_some x ≡ false → Testing s b n i → Testing s b (n + 1) (i + 1)
    unfolding earliest
    testing_backed y T =
        record {
          few = omega (arith, T.few);
          oversize = T.oversize;
          clean = λ o. rw (add-one i, sym (told o) ∙ is-clean x y) (T.clean o ∙ sym (or_right (earliest (slot_violation s) i)));
          counts = one_more T;
        }

    pub testing_broken : {b : Bool} {n : ℕ} → is_some x ≡ true → Testing s b n i → Testing s false (n + 1) (i + 1)
    unfolding earliest
    testing_broken y T =
        record {
          few = omega (arith, T.few);
          oversize = λ o. refl;
          clean = λ o. rw (add-one i) (sym (or_broken (earliest (slot_violation s) i) (slot_violation s i) (ap is_none (sym (told o)) ∙ is-found x y)));
          counts = one_more T;
        }

  -- the verdict: all in order, and as many pCPUs held as vCPUs run
  module _ {n i : ℕ} (all : i ≡ slots s) where
    pub testing_verdict : Testing s true n i → eqb n (busy_pcpus s) ≡ invariants_hold s
    unfolding first_violation invariants_hold
    testing_verdict T = go (fits s) refl
      where
        go : (f : Bool) → fits s ≡ f → eqb n (busy_pcpus s) ≡ invariants_hold s
        go true o =
            ap (λ (k : ℕ). eqb k (busy_pcpus s)) (T.counts o ∙ ap (count (running_at s)) all)
            ∙ tally s o (is-none _ (sym (T.clean o ∙ ap (λ (j : ℕ). is_none (earliest (slot_violation s) j)) all)))
        go false o = absurd (false≢true (sym (T.oversize o)))

    pub testing_unsound : Testing s false n i → false ≡ invariants_hold s
    unfolding first_violation invariants_hold
    testing_unsound T = go (fits s) refl
      where
        go : (f : Bool) → fits s ≡ f → false ≡ invariants_hold s
        go true o =
            let broken = sym (T.clean o ∙ ap (λ (j : ℕ). is_none (earliest (slot_violation s) j)) all) in
            sym (rw (o, or_keeps _ (earliest (pcpu_violation s) (pcpus s)) broken) broken)
        go false o = sym (rw o)
