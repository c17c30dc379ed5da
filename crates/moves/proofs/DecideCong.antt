-- The decision depends only on what is known of the slots below n that wait or are expired, and of the pCPUs. Assumes nothing.
use Prim.Native.Nat.{ℕ, ◌<◌}
use mathlib.Core.Bool.{Bool, true, false, ◌&&◌, and-false}
use mathlib.Core.Path.{◌≡◌, refl, sym, ◌∙◌, ap, ap₂}
use mathlib.Core.Logic.{inl, inr}
use lib.Dec.{ltb}
use borrow.Author.Tests.{ltb-true}
use Rattle.scans.specs.Booleans.{both}
use Rattle.masks.specs.Masks.{permits}
use Rattle.masks.specs.Laws.{first_cong}
use Rattle.moves.specs.declared.Choice.TheVariants.{Run, Preempt}
use Rattle.scans.specs.Scan.{Pick, nobody, at, some, scan-sound, scan_cong, never}
use Rattle.moves.specs.Decide.{Standings, Involved, usable, first_idle_pcpu_for, placement, placeable, beaten, loses, chosen, victim}
use Rattle.moves.specs.Decide.{or_preempt, or_run, decide}

-- t and t' are alike for a decision over n slots
pub record Alike (t t' : Standings) (n : ℕ) : Type 0 where
  pub waits : (i : ℕ) → i < n → t.waits i ≡ t'.waits i
  pub expired : (i : ℕ) → i < n → t.expired i ≡ t'.expired i
  pub on : (i : ℕ) → i < n → t.expired i ≡ true → t.on i ≡ t'.on i
  pub mask : (i : ℕ) → i < n → t.waits i ≡ true → t.mask i ≡ t'.mask i
  pub last : (i : ℕ) → i < n → t.waits i ≡ true → t.last i ≡ t'.last i
  pub beats : (i j : ℕ) → i < n → j < n → Involved t i → Involved t j → t.beats i j ≡ t'.beats i j
  pub idle : (p : ℕ) → p < 64 → t.idle p ≡ t'.idle p

-- two tests that agree on the first part, and on the second where the first holds
and_cong : (a a' b b' : Bool) → a ≡ a' → (a ≡ true → b ≡ b') → (a && b) ≡ (a' && b')
and_cong true a' b b' e f = rw (← e) (f refl)
and_cong false a' b b' e f = rw (← e)

module _ {t t' : Standings} {n : ℕ} (A : Alike t t' n) where
  -- a pCPU from 64 up is admitted by no mask
  usable_same : (i p : ℕ) → i < n → t.waits i ≡ true → usable t i p ≡ usable t' i p
  usable_same i p l w = go (ltb p 64) refl
    where
      go : (b : Bool) → ltb p 64 ≡ b → usable t i p ≡ usable t' i p
      go true e = ap₂ ◌&&◌ (A.idle p (ltb-true p 64 e)) (ap (λ (m : ℕ). permits m p) (A.mask i l w))
      go false e = rw e (and-false (t.idle p) ∙ sym (and-false (t'.idle p)))

  placement-same : (i : ℕ) → i < n → t.waits i ≡ true → placement t i ≡ placement t' i
  unfolding placement first_idle_pcpu_for
  placement-same i l w =
      let e = A.last i l w in
      let u = usable_same i (t.last i) l w ∙ ap (usable t' i) e in
      let f = first_cong (usable t i) (usable t' i) 64 (λ p h. usable_same i p l w) in
      rw (u, e, f)

  placeable-same : (i : ℕ) → i < n → placeable t i ≡ placeable t' i
  unfolding placeable
  placeable-same i l = and_cong _ _ _ _ (A.waits i l) (λ w. ap (λ (p : ℕ). ltb p 64) (placement-same i l w))

  beaten-same : (i : ℕ) → i < n → t.expired i ≡ true → beaten t n i ≡ beaten t' n i
  unfolding beaten
  beaten-same i l h =
      ap some
      (scan_cong (λ j. t.waits j && (permits (t.mask j) (t.on i) && t.beats j i))
      (λ j. t'.waits j && (permits (t'.mask j) (t'.on i) && t'.beats j i))
      never never n
      (λ j k. and_cong _ _ _ _ (A.waits j k)
      (λ w. ap₂ ◌&&◌ (ap₂ permits (A.mask j k w) (A.on i l h)) (A.beats j i k l (inl w) (inr h))))
      (λ x y a b c d. refl))

  loses-same : (i : ℕ) → i < n → loses t n i ≡ loses t' n i
  unfolding loses
  loses-same i l = and_cong _ _ _ _ (A.expired i l) (λ h. beaten-same i l h)

  chosen-same : chosen t n ≡ chosen t' n
  unfolding chosen placeable
  chosen-same =
      scan_cong (placeable t) (placeable t') t.beats t'.beats n placeable-same
      (λ i j a b c d. A.beats i j a b (inl (both _ _ c).0) (inl (both _ _ d).0))

  victim-same : victim t n ≡ victim t' n
  unfolding victim loses
  victim-same =
      scan_cong (loses t n) (loses t' n) (λ k j. t.beats j k) (λ k j. t'.beats j k) n loses-same
      (λ i j a b c d. A.beats j i b a (inr (both _ _ d).0) (inr (both _ _ c).0))

  pub decide_cong : decide t n ≡ decide t' n
  unfolding decide chosen placeable victim loses
  decide_cong =
      run-same (chosen t n) refl ∙ ap₂ (or_run t') chosen-same (preempt-same (victim t n) refl ∙ ap (or_preempt t') victim-same)
    where
      run-same : (r : Pick) → chosen t n ≡ r → or_run t r (or_preempt t (victim t n)) ≡ or_run t' r (or_preempt t (victim t n))
      run-same nobody e = refl
      run-same (at i) e =
          let f = scan-sound (placeable t) t.beats n i e in
          ap (Run i) (placement-same i f.0 (both _ _ f.1).0)

      preempt-same : (r : Pick) → victim t n ≡ r → or_preempt t r ≡ or_preempt t' r
      preempt-same nobody e = refl
      preempt-same (at i) e =
          let f = scan-sound (loses t n) (λ k j. t.beats j k) n i e in
          ap (Preempt i) (A.on i f.0 (both _ _ f.1).0)
