-- A scan: of the indices below n that pass a test, the one that no other is better than, the earliest among equals.
-- Assumes nothing.
use Prim.Native.Nat.{ℕ, zero, suc, ◌≤◌, ◌<◌}
use Rattle.std.specs.Prelude.{◌≡◌, ◌⊎◌, Bool}
use Rattle.std.proofs.Math.Path.{refl, ap}
use Rattle.std.proofs.Common.{sym, ◌∙◌, inl, inr, true≢false, eq-or-lt_of_le}
use Rattle.std.proofs.Math.Bool.{true, false, cond}
use native.Mathlib.Omega.{arith}
use Rattle.scans.specs.Booleans.{zero_one}

pub data Pick : Type 0 where
  nobody : Pick
  at : ℕ → Pick

-- index k, which passes, against the pick so far: it takes the place only of one that it is better than
abbrev pub against : (ℕ → ℕ → Bool) → ℕ → Pick → Pick
against b k nobody = at k
against b k (at j) = cond (b k j) (at k) (at j)

-- c: who passes; b k j: k is better than j
unfoldable pub scan : (ℕ → Bool) → (ℕ → ℕ → Bool) → ℕ → Pick
scan c b zero = nobody
scan c b (suc k) = cond (c k) (against b k (scan c b k)) (scan c b k)

abbrev pub some : Pick → Bool
some nobody = false
some (at i) = true

-- no index is better than another, so the first that passes is picked
abbrev pub never : ℕ → ℕ → Bool
never k j = false

clash {ℓ} : {A : Type ℓ} (t : Bool) → t ≡ true → t ≡ false → A
clash t y n = absurd (true≢false (sym y ∙ n))

-- index k is the last below suc k
last : {i k : ℕ} → i < suc k → (i ≡ k) ⊎ (i < k)
last l = go (eq-or-lt_of_le l)
  where
    go : {i k : ℕ} → (suc i ≡ suc k) ⊎ (suc i < suc k) → (i ≡ k) ⊎ (i < k)
    go (inl e) = inl (omega arith)
    go (inr m) = inr (omega arith)

module _ (c : ℕ → Bool) (b : ℕ → ℕ → Bool) where
  -- the pick passes
  pub scan-sound : (n i : ℕ) → scan c b n ≡ at i → (i < n) × (c i ≡ true)
  unfolding scan
  scan-sound zero i h = absurd (zero_one cc)
  scan-sound (suc k) i h = step (c k) refl (scan c b k) (λ e. scan-sound k i e) h
    where
      step : (t : Bool) → c k ≡ t → (r : Pick) → (r ≡ at i → (i < k) × (c i ≡ true)) → cond t (against b k r) r ≡ at i
          → (i < suc k) × (c i ≡ true)
      step false e r ih g = let f = ih g in (omega (arith, f.0), f.1)
      step true e nobody ih g = let x : k ≡ i = cc in (omega arith, ap c (sym x) ∙ e)
      step true e (at j) ih g = go (b k j) g
        where
          go : (u : Bool) → cond u (at k) (at j) ≡ at i → (i < suc k) × (c i ≡ true)
          go true f = let x : k ≡ i = cc in (omega arith, ap c (sym x) ∙ e)
          go false f = let g = ih f in (omega (arith, g.0), g.1)

  -- somebody is picked if anybody passes
  pub scan_complete : (n i : ℕ) → i < n → c i ≡ true → scan c b n ≡ nobody → ⊥
  unfolding scan
  scan_complete zero i l y h = omega arith
  scan_complete (suc k) i l y h = step (c k) refl (scan c b k) (λ m. scan_complete k i m y) h
    where
      step : (t : Bool) → c k ≡ t → (r : Pick) → (i < k → r ≡ nobody → ⊥) → cond t (against b k r) r ≡ nobody → ⊥
      step false e r ih g = split (last l)
        where
          split : (i ≡ k) ⊎ (i < k) → ⊥
          split (inl x) = clash (c i) y (ap c x ∙ e)
          split (inr m) = ih m g
      step true e nobody ih g = zero_one cc
      step true e (at j) ih g = go (b k j) g
        where
          go : (u : Bool) → cond u (at k) (at j) ≡ nobody → ⊥
          go true f = zero_one cc
          go false f = zero_one cc

-- b ranks those of whom P is true: it is a strict weak order among them
pub record Ranks (P : ℕ → Type 0) (b : ℕ → ℕ → Bool) : Type 0 where
  pub irrefl : (i : ℕ) → P i → b i i ≡ false
  pub trans : (i j k : ℕ) → P i → P j → P k → b i j ≡ true → b j k ≡ true → b i k ≡ true
  pub weak : (i j k : ℕ) → P i → P j → P k → b i j ≡ false → b j k ≡ false → b i k ≡ false

module _ (c : ℕ → Bool) (b : ℕ → ℕ → Bool) {P : ℕ → Type 0} (R : Ranks P b) (m : ℕ) (P-of : (i : ℕ) → i < m → c i ≡ true → P i) where
  -- nobody who passes is better than the pick
  pub scan-least : (n i j : ℕ) → n ≤ m → scan c b n ≡ at i → j < n → c j ≡ true → b j i ≡ false
  unfolding scan
  scan-least zero i j w h l y = absurd (omega arith)
  scan-least (suc k) i j w h l y =
      step (c k) refl (scan c b k) (λ x e o. scan-least k x j (omega arith) e o y) (λ o. scan_complete c b k j o y)
      (λ x. scan-sound c b k x) h (last l)
    where
      step : (t : Bool) → c k ≡ t → (r : Pick) → ((x : ℕ) → r ≡ at x → j < k → b j x ≡ false) → (j < k → r ≡ nobody → ⊥)
          → ((x : ℕ) → r ≡ at x → (x < k) × (c x ≡ true)) → cond t (against b k r) r ≡ at i → (j ≡ k) ⊎ (j < k) → b j i ≡ false
      step false e r ih em so g (inl x) = clash (c j) y (ap c x ∙ e)
      step false e r ih em so g (inr o) = ih i g o
      step true e nobody ih em so g (inl x) = let z : k ≡ i = cc in let f = R.irrefl k (P-of k (omega arith) e) in cc
      step true e nobody ih em so g (inr o) = absurd (em o refl)
      step true e (at p) ih em so g o = go (b k p) refl g o
        where
          here : P k
          here = P-of k (omega arith) e

          best : P p
          best = let f = so p refl in P-of p (omega (arith, f.0)) f.1

          go : (u : Bool) → b k p ≡ u → cond u (at k) (at p) ≡ at i → (j ≡ k) ⊎ (j < k) → b j i ≡ false
          go true f q (inl x) = let z : k ≡ i = cc in let f = R.irrefl k here in cc
          go true f q (inr o) = let z : k ≡ i = cc in rw (← z) (turn (b j k) refl (ih p refl o))
            where
              turn : (v : Bool) → b j k ≡ v → b j p ≡ false → v ≡ false
              turn true d n = clash (b j p) (R.trans j k p (P-of j (omega arith) y) here best d f) n
              turn false d n = refl
          go false f q (inl x) = let z : p ≡ i = cc in cc
          go false f q (inr o) = let z : p ≡ i = cc in rw (← z) (ih p refl o)

  -- and the pick is better than whoever passes before it
  pub scan-earliest : (n i j : ℕ) → n ≤ m → scan c b n ≡ at i → j < i → c j ≡ true → b i j ≡ true
  unfolding scan
  scan-earliest zero i j w h l y = absurd (zero_one cc)
  scan-earliest (suc k) i j w h l y =
      step (c k) refl (scan c b k) (λ x e. scan-earliest k x j (omega arith) e) (λ x e o. scan-least k x j (omega arith) e o y)
      (λ o. scan_complete c b k j o y) (λ x. scan-sound c b k x) h
    where
      step : (t : Bool) → c k ≡ t → (r : Pick) → ((x : ℕ) → r ≡ at x → j < x → c j ≡ true → b x j ≡ true)
          → ((x : ℕ) → r ≡ at x → j < k → b j x ≡ false) → (j < k → r ≡ nobody → ⊥) → ((x : ℕ) → r ≡ at x → (x < k) × (c x ≡ true))
          → cond t (against b k r) r ≡ at i → b i j ≡ true
      step false e r ih le em so g = ih i g l y
      step true e nobody ih le em so g = let z : k ≡ i = cc in absurd (em (omega arith) refl)
      step true e (at p) ih le em so g = go (b k p) refl g
        where
          best : P p
          best = let f = so p refl in P-of p (omega (arith, f.0)) f.1

          go : (u : Bool) → b k p ≡ u → cond u (at k) (at p) ≡ at i → b i j ≡ true
          go true f q = let z : k ≡ i = cc in rw (← z) (turn (b k j) refl (omega arith) (le p refl (omega arith)))
            where
              turn : (v : Bool) → b k j ≡ v → j < k → b j p ≡ false → v ≡ true
              turn true d o n = refl
              turn false d o n = clash (b k p) f (R.weak k j p (P-of k (omega arith) e) (P-of j (omega arith) y) best d n)
          go false f q = let z : p ≡ i = cc in rw (← z) (ih p refl (omega arith) y)

-- a scan depends only on what its tests say of the indices below n
pub scan_cong : (c d : ℕ → Bool) (b e : ℕ → ℕ → Bool) (n : ℕ) → ((i : ℕ) → i < n → c i ≡ d i)
    → ((i j : ℕ) → i < n → j < n → c i ≡ true → c j ≡ true → b i j ≡ e i j) → scan c b n ≡ scan d e n
unfolding scan
scan_cong c d b e zero h k = refl
scan_cong c d b e (suc n) h k =
    rw (← scan_cong c d b e n (λ i l. h i (omega arith)) (λ i j x y. k i j (omega arith) (omega arith)), ← h n (omega arith))
    (step (c n) refl (scan c b n) (λ x. scan-sound c b n x))
  where
    step : (t : Bool) → c n ≡ t → (r : Pick) → ((x : ℕ) → r ≡ at x → (x < n) × (c x ≡ true))
        → cond t (against b n r) r ≡ cond t (against e n r) r
    step false y r so = refl
    step true y nobody so = refl
    step true y (at j) so = let f = so j refl in rw (k n j (omega arith) (omega (arith, f.0)) y f.1)
