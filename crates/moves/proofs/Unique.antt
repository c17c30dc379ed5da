-- What fixes a decision: whatever is so decided is the same, and the decision is so decided. Assumes nothing.
use Rattle.std.specs.Prelude.{ℕ, ◌≤◌, ◌<◌, ◌≡◌, refl}
use Rattle.std.proofs.Common.{true≢false, sym, ◌∙◌, ap, inl, inr, arith}
use Rattle.std.proofs.Math.Decide.{ℕ_discrete, dec_le}
use Rattle.std.proofs.Math.Bool.{Bool, true}
use Rattle.scans.specs.Booleans.{zero_one}
use Rattle.moves.specs.declared.Choice.{Choice}
use Rattle.moves.specs.declared.Choice.TheVariants.{Run, Preempt, Rest}
use Rattle.scans.specs.Scan.{Ranks}
use Rattle.moves.specs.Decide.{Standings, Involved, placement, decide}
use Rattle.moves.specs.DecideLaws.{Fits, Beats, run_fits, run-placed, run-found, preempt-beaten, rest-unbeaten}
use Rattle.moves.specs.DecideLaws.{pick-least, pick-earliest, victim_worst, victim-earliest}
use Rattle.moves.specs.Unique.{First, FitsSomewhere, Nobody, Decided, run, stop, rest}

pub first_unique : {P : ℕ → Type 0} {better : ℕ → ℕ → Bool} {n i j : ℕ} → First P better n i → First P better n j → i ≡ j
first_unique {P} {better} {n} {i} {j} f g = go (ℕ_discrete i j) (dec_le i j)
  where
    apart : {i j : ℕ} → First P better n i → First P better n j → i < j → ⊥
    apart {i} {j} f g l = true≢false (sym (g.earliest i l f.is) ∙ f.best j g.below g.is)

    go : Dec (i ≡ j) → Dec (i ≤ j) → i ≡ j
    go (yes e) l = e
    go (no d) (yes l) = absurd (apart f g (omega arith))
    go (no d) (no l) = absurd (apart g f (omega arith))

-- whatever is so decided is the same
pub decided_unique : {t : Standings} {n : ℕ} {c d : Choice} → Decided t n c → Decided t n d → c ≡ d
decided_unique {t} (run f) (run g) = ap (λ (i : ℕ). Run i (placement t i)) (first_unique f g)
decided_unique (run f) (stop none g) = absurd (none _ f.below f.is)
decided_unique (run f) (rest none h) = absurd (none _ f.below f.is)
decided_unique (stop none f) (run g) = absurd (none _ g.below g.is)
decided_unique {t} (stop none f) (stop none' g) = ap (λ (i : ℕ). Preempt i (t.on i)) (first_unique f g)
decided_unique (stop none f) (rest none' h) = absurd (h _ f.below f.is)
decided_unique (rest none h) (run g) = absurd (none _ g.below g.is)
decided_unique (rest none h) (stop none' g) = absurd (h _ g.below g.is)
decided_unique (rest none h) (rest none' k) = refl

-- where `beats` ranks those that take part, the decision is so decided
pub decide-decided : (t : Standings) (n : ℕ) → Ranks (Involved t) t.beats → Decided t n (decide t n)
decide-decided t n R = go (decide t n) refl
  where
    placed : (i : ℕ) → i < n → Fits t i (placement t i) → Involved t i
    placed i l f = inl f.waits

    lost : (i j : ℕ) → i < n → t.expired i ≡ true → Beats t n i j → Involved t i
    lost i j l h b = inr h

    -- a decision that is no Run
    nobody : (c : Choice) → decide t n ≡ c → ((i p : ℕ) → c ≡ Run i p → ⊥) → Nobody (FitsSomewhere t) n
    nobody c e not-run i l f = let r = run-found t n i f.onto l f.fits in not-run r.who r.onto (sym e ∙ r.is)

    go : (c : Choice) → decide t n ≡ c → Decided t n c
    go (Run i p) e =
        let f = run_fits t n i p e in
        rw (← run-placed t n i p e)
        (run
        (record {
          below = f.0;
          is = record { onto = p; fits = f.1 };
          best = λ j l h. pick-least t n R placed i p j h.onto e l h.fits;
          earliest = λ j l h. pick-earliest t n R placed i p j h.onto e l h.fits;
        }))
    go (Preempt i p) e =
        let k = preempt-beaten t n i p e in
        rw (← k.on)
        (stop (nobody (Preempt i p) e (λ j q x. zero_one cc))
        (record {
          below = k.below;
          is = record { expired = k.expired; by = k.by; beats = k.beats };
          best = λ j l h. victim_worst t n R lost i p j h.by e l h.expired h.beats;
          earliest = λ j l h. victim-earliest t n R lost i p j h.by e l h.expired h.beats;
        }))
    go Rest e = rest (nobody Rest e (λ j q x. zero_one cc)) (λ i l h. rest-unbeaten t n i h.by e l h.expired h.beats)
