-- Laws of the decision. Everything above this crate goes by these and not by the decision's text. Assumes nothing.
use Rattle.std.specs.Prelude.{ℕ, ◌≤◌, ◌<◌, Bool, ◌&&◌, ◌≡◌, ltb}
use Rattle.std.proofs.Math.Bool.{true, false, cond}
use Rattle.std.proofs.Common.{true≢false, sym, ◌∙◌, le_refl, lt_of_not-le, arith, ltb-true, lt-ltb}
use Rattle.std.proofs.lemmas.Bool.{false≢true}
use Rattle.std.proofs.Math.Path.{refl}
use Rattle.std.proofs.Math.Decide.{dec_le}
use Rattle.scans.specs.Booleans.{both, all_two, zero_one}
use Rattle.masks.specs.Masks.{bit, permits}
use Rattle.masks.specs.Laws.{first-least}
use Rattle.moves.specs.declared.Choice.{Choice}
use Rattle.moves.specs.declared.Choice.TheVariants.{Run, Preempt, Rest}
use Rattle.scans.specs.Scan.{Pick, nobody, at, scan, some, scan-sound, scan_complete, scan-least, scan-earliest, Ranks, never}
use Rattle.moves.specs.Decide.{Standings, usable, first_idle_pcpu_for, placement, placeable, beaten, loses, chosen, victim}
use Rattle.moves.specs.Decide.{or_preempt, or_run, decide}

-- i waits, and may use pCPU p now
pub record Fits (t : Standings) (i p : ℕ) : Type 0 where
  pub waits : t.waits i ≡ true
  pub word : p < 64
  pub idle : t.idle p ≡ true
  pub admits : permits (t.mask i) p ≡ true

-- j waits, its mask admits the pCPU of i, and it beats i
pub record Beats (t : Standings) (n i j : ℕ) : Type 0 where
  pub below : j < n
  pub waits : t.waits j ≡ true
  pub admits : permits (t.mask j) (t.on i) ≡ true
  pub wins : t.beats j i ≡ true

-- ---- placement: what it gives fits, and it gives one if one fits; whatever stands above goes by these two

module _ (t : Standings) (i : ℕ) where
  pub usable-word : (p : ℕ) → usable t i p ≡ true → p < 64
  usable-word p e =
      let f = both (t.idle p) (permits (t.mask i) p) e in
      ltb-true p 64 (both (ltb p 64) (bit (t.mask i) p) f.1).0

  usable-fits : (p : ℕ) → t.waits i ≡ true → usable t i p ≡ true → Fits t i p
  usable-fits p w e =
      let f = both _ _ e in
      record { waits = w; word = usable-word p e; idle = f.0; admits = f.1 }

  fits-usable : (p : ℕ) → Fits t i p → usable t i p ≡ true
  fits-usable p f = all_two f.idle f.admits

  pub first-lowest : (p : ℕ) → usable t i p ≡ true → first_idle_pcpu_for t i ≤ p
  unfolding first_idle_pcpu_for
  first-lowest p e = go (dec_le (first_idle_pcpu_for t i) p)
    where
      go : Dec (first_idle_pcpu_for t i ≤ p) → first_idle_pcpu_for t i ≤ p
      go (yes h) = h
      go (no n) = absurd (true≢false (sym e ∙ (first-least (usable t i) 64).before p (lt_of_not-le n)))

  pub placement-fits : t.waits i ≡ true → placement t i < 64 → Fits t i (placement t i)
  unfolding placement first_idle_pcpu_for
  placement-fits w = go (usable t i (t.last i)) refl
    where
      go : (b : Bool) → usable t i (t.last i) ≡ b → let p = cond b (t.last i) (first_idle_pcpu_for t i) in p < 64 → Fits t i p
      go true e l = usable-fits (t.last i) w e
      go false e l = usable-fits (first_idle_pcpu_for t i) w ((first-least (usable t i) 64).found l)

  pub placement-finds : (p : ℕ) → Fits t i p → placement t i < 64
  unfolding placement
  placement-finds p f = go (usable t i (t.last i)) refl
    where
      go : (b : Bool) → usable t i (t.last i) ≡ b → cond b (t.last i) (first_idle_pcpu_for t i) < 64
      go true e = usable-word (t.last i) e
      go false e = let w = f.word in omega (arith, first-lowest p (fits-usable p f))

  -- which one it is: the one that it was last on, where that fits
  pub placement-last : Fits t i (t.last i) → placement t i ≡ t.last i
  unfolding placement
  placement-last f = rw (fits-usable (t.last i) f)

  -- else the lowest-numbered of those that fit
  pub placement-lowest : (p : ℕ) → (Fits t i (t.last i) → ⊥) → Fits t i p → placement t i ≤ p
  unfolding placement
  placement-lowest p n f = go (usable t i (t.last i)) refl
    where
      go : (b : Bool) → usable t i (t.last i) ≡ b → cond b (t.last i) (first_idle_pcpu_for t i) ≤ p
      go true e = absurd (n (usable-fits (t.last i) f.waits e))
      go false e = first-lowest p (fits-usable p f)

-- one that waits, with a placement in the word, fits there; one that fits somewhere waits, with a placement in the word
placed-fits : (t : Standings) (i : ℕ) → (t.waits i && ltb (placement t i) 64) ≡ true → Fits t i (placement t i)
placed-fits t i e = let f = both _ _ e in placement-fits t i f.0 (ltb-true _ _ f.1)

fits-placed : (t : Standings) (i p : ℕ) → Fits t i p → (t.waits i && ltb (placement t i) 64) ≡ true
fits-placed t i p f = all_two f.waits (lt-ltb (placement t i) 64 (placement-finds t i p f))

pub placeable-fits : (t : Standings) (i : ℕ) → placeable t i ≡ true → Fits t i (placement t i)
unfolding placeable
placeable-fits t i e = placed-fits t i e

-- ---- being beaten

is_some : (r : Pick) → some r ≡ true → (k : ℕ) × (r ≡ at k)
is_some nobody e = absurd (false≢true e)
is_some (at k) e = (k, refl)

beaten-by : (t : Standings) (n i : ℕ) → beaten t n i ≡ true → (j : ℕ) × Beats t n i j
unfolding beaten
beaten-by t n i e =
    let k = is_some _ e in
    let f = scan-sound (λ j. t.waits j && (permits (t.mask j) (t.on i) && t.beats j i)) never n k.0 k.1 in
    let a = both _ _ f.1 in
    let b = both _ _ a.1 in
    (k.0, record { below = f.0; waits = a.0; admits = b.0; wins = b.1 })

pub by-beaten : (t : Standings) (n i j : ℕ) → Beats t n i j → beaten t n i ≡ true
unfolding beaten
by-beaten t n i j b = go (scan test never n) refl
  where
    test : ℕ → Bool
    test k = t.waits k && (permits (t.mask k) (t.on i) && t.beats k i)

    go : (r : Pick) → scan test never n ≡ r → some r ≡ true
    go nobody e = absurd (scan_complete test never n j b.below (all_two b.waits (all_two b.admits b.wins)) e)
    go (at k) e = refl

-- ---- what a decision tells of the two scans

run_why : (t : Standings) (n i p : ℕ) → decide t n ≡ Run i p → (chosen t n ≡ at i) × (placement t i ≡ p)
unfolding decide
run_why t n i p e = go (chosen t n) refl (victim t n) e
  where
    go : (r : Pick) → chosen t n ≡ r → (q : Pick) → or_run t r (or_preempt t q) ≡ Run i p → (chosen t n ≡ at i) × (placement t i ≡ p)
    go (at j) c q h = let a : j ≡ i = cc in let b : placement t j ≡ p = cc in rw (← a) (c, b)
    go nobody c (at j) h = absurd (zero_one cc)
    go nobody c nobody h = absurd (zero_one cc)

preempt_why : (t : Standings) (n i p : ℕ) → decide t n ≡ Preempt i p → (victim t n ≡ at i) × (t.on i ≡ p)
unfolding decide
preempt_why t n i p e = go (chosen t n) (victim t n) refl e
  where
    go : (r q : Pick) → victim t n ≡ q → or_run t r (or_preempt t q) ≡ Preempt i p → (victim t n ≡ at i) × (t.on i ≡ p)
    go (at j) q v h = absurd (zero_one cc)
    go nobody (at j) v h = let a : j ≡ i = cc in let b : t.on j ≡ p = cc in rw (← a) (v, b)
    go nobody nobody v h = absurd (zero_one cc)

rest_why : (t : Standings) (n : ℕ) → decide t n ≡ Rest → victim t n ≡ nobody
unfolding decide
rest_why t n e = go (chosen t n) (victim t n) e
  where
    go : (r q : Pick) → or_run t r (or_preempt t q) ≡ Rest → q ≡ nobody
    go (at j) q h = absurd (zero_one cc)
    go nobody (at j) h = absurd (zero_one cc)
    go nobody nobody h = refl

-- ---- the laws

-- a Run is of one that waits, onto an idle pCPU that its mask admits
pub run_fits : (t : Standings) (n i p : ℕ) → decide t n ≡ Run i p → (i < n) × Fits t i p
unfolding chosen placeable
run_fits t n i p e =
    let w = run_why t n i p e in
    let h = scan-sound (placeable t) t.beats n i w.0 in
    (h.0, rw w.1 at (placed-fits t i h.1))

-- at its placement
pub run-placed : (t : Standings) (n i p : ℕ) → decide t n ≡ Run i p → placement t i ≡ p
run-placed t n i p e = (run_why t n i p e).1

-- the decision is a Run
pub record IsRun (d : Choice) : Type 0 where
  pub who : ℕ
  pub onto : ℕ
  pub is : d ≡ Run who onto

-- it is one if anybody who waits may use an idle pCPU
pub run-found : (t : Standings) (n i p : ℕ) → i < n → Fits t i p → IsRun (decide t n)
unfolding decide chosen placeable
run-found t n i p l f = go (chosen t n) refl
  where
    go : (r : Pick) → chosen t n ≡ r → IsRun (or_run t r (or_preempt t (victim t n)))
    go (at j) c = record { who = j; onto = placement t j; is = refl }
    go nobody c = absurd (scan_complete (placeable t) t.beats n i l (fits-placed t i p f) c)

-- a Preempt is of one that is expired, where it runs, and that a waiter beats who may run there
pub record IsStopped (t : Standings) (n i p : ℕ) : Type 0 where
  pub below : i < n
  pub expired : t.expired i ≡ true
  pub on : t.on i ≡ p
  pub by : ℕ
  pub beats : Beats t n i by

pub preempt-beaten : (t : Standings) (n i p : ℕ) → decide t n ≡ Preempt i p → IsStopped t n i p
unfolding victim loses
preempt-beaten t n i p e =
    let w = preempt_why t n i p e in
    let h = scan-sound (loses t n) (λ k j. t.beats j k) n i w.0 in
    let g = both _ _ h.1 in
    let k = beaten-by t n i g.1 in
    record { below = h.0; expired = g.0; on = w.1; by = k.0; beats = k.1 }

-- at Rest nobody expired is beaten by a waiter who may run there
pub rest-unbeaten : (t : Standings) (n i j : ℕ) → decide t n ≡ Rest → i < n → t.expired i ≡ true → Beats t n i j → ⊥
unfolding victim loses
rest-unbeaten t n i j e l h b =
    scan_complete (loses t n) (λ k j. t.beats j k) n i l (all_two h (by-beaten t n i j b)) (rest_why t n e)

-- ---- where `beats` ranks those that are compared, the pick is the most deserving and the victim the least deserving, the
-- earliest among equals

turned : {P : ℕ → Type 0} {b : ℕ → ℕ → Bool} → Ranks P b → Ranks P (λ k j. b j k)
turned R =
    record {
      irrefl = R.irrefl;
      trans = λ i j k x y z e f. R.trans k j i z y x f e;
      weak = λ i j k x y z e f. R.weak k j i z y x f e;
    }

module _ (t : Standings) (n : ℕ) {P : ℕ → Type 0} (R : Ranks P t.beats) (P-of : (i : ℕ) → i < n → Fits t i (placement t i) → P i) where
  passes : (i : ℕ) → i < n → (t.waits i && ltb (placement t i) 64) ≡ true → P i
  passes i l c = P-of i l (placed-fits t i c)

  pub pick-least : (i p j q : ℕ) → decide t n ≡ Run i p → j < n → Fits t j q → t.beats j i ≡ false
  unfolding chosen placeable
  pick-least i p j q e l f =
      scan-least (placeable t) t.beats R n passes n i j (le_refl n) (run_why t n i p e).0 l (fits-placed t j q f)

  pub pick-earliest : (i p j q : ℕ) → decide t n ≡ Run i p → j < i → Fits t j q → t.beats i j ≡ true
  unfolding chosen placeable
  pick-earliest i p j q e l f =
      scan-earliest (placeable t) t.beats R n passes n i j (le_refl n) (run_why t n i p e).0 l (fits-placed t j q f)

module _ (t : Standings) (n : ℕ) {P : ℕ → Type 0} (R : Ranks P t.beats)
    (P-of : (i j : ℕ) → i < n → t.expired i ≡ true → Beats t n i j → P i) where
  stops : (i : ℕ) → i < n → loses t n i ≡ true → P i
  unfolding loses
  stops i l c =
      let g = both _ _ c in
      let k = beaten-by t n i g.1 in
      P-of i k.0 l g.0 k.1

  pub victim_worst : (i p j k : ℕ) → decide t n ≡ Preempt i p → j < n → t.expired j ≡ true → Beats t n j k → t.beats i j ≡ false
  unfolding victim loses
  victim_worst i p j k e l h b =
      scan-least (loses t n) (λ u w. t.beats w u) (turned R) n stops n i j (le_refl n) (preempt_why t n i p e).0 l
      (all_two h (by-beaten t n j k b))

  pub victim-earliest : (i p j k : ℕ) → decide t n ≡ Preempt i p → j < i → t.expired j ≡ true → Beats t n j k → t.beats j i ≡ true
  unfolding victim loses
  victim-earliest i p j k e l h b =
      scan-earliest (loses t n) (λ u w. t.beats w u) (turned R) n stops n i j (le_refl n) (preempt_why t n i p e).0 l
      (all_two h (by-beaten t n j k b))
