-- Counting by pairing off: what is mapped into a set, no two to one place, is no more than the set, and less where a place is missed.
-- Assumes nothing.
use Rattle.std.proofs.Common.{ℕ, zero, suc, ◌+◌, ◌≤◌, ◌<◌, zero-le, Bool, true, false, cond, ◌≡◌, refl, ◌∙◌, ap, ⊎_elim, eq-or-lt_of_le, arith, eqb, eq-eqb, ne_eqb}
use Rattle.system.specs.Reads.{count, count_same}

-- `to` maps the numbers below n that have f to numbers below m that have g, no two to one
pub record Into (f g : ℕ → Bool) (n m : ℕ) (to : ℕ → ℕ) : Type 0 where
  pub below : (i : ℕ) → i < n → f i ≡ true → to i < m
  pub lands : (i : ℕ) → i < n → f i ≡ true → g (to i) ≡ true
  pub apart : (i j : ℕ) → i < n → j < n → f i ≡ true → f j ≡ true → to i ≡ to j → i ≡ j

-- g everywhere but at q
abbrev but : (ℕ → Bool) → ℕ → ℕ → Bool
but g q i = cond (eqb i q) false (g i)

elsewhere : (g : ℕ → Bool) (q i : ℕ) → (i ≡ q → ⊥) → but g q i ≡ g i
elsewhere g q i h = rw (ne_eqb i q h)

-- one place less is one less
count-but : (g : ℕ → Bool) (q m : ℕ) → q < m → g q ≡ true → count g m ≡ suc (count (but g q) m)
unfolding count
count-but g q zero l e = absurd (omega arith)
count-but g q (suc m) l e =
    ⊎_elim here (λ x. rw (elsewhere g q m (λ y. omega arith)) (omega (arith, count-but g q m (omega arith) e))) (eq-or-lt_of_le l)
  where
    here : suc q ≡ suc m → count g m + cond (g m) 1 0 ≡ suc (count (but g q) m + cond (but g q m) 1 0)
    here x =
        let j : m ≡ q = omega arith in
        let same = count_same (but g q) g m (λ i k. elsewhere g q i (λ y. omega arith)) in
        let there : but g q m ≡ false = rw (eq-eqb m q j) in
        rw (there, ap g j ∙ e) (omega arith)

module _ {f g : ℕ → Bool} {m : ℕ} {to : ℕ → ℕ} where
  -- a place that is missed can be left out
  avoid : {n : ℕ} (q : ℕ) → Into f g n m to → ((i : ℕ) → i < n → f i ≡ true → to i ≡ q → ⊥) → Into f (but g q) n m to
  avoid q h miss =
      record {
        below = h.below;
        lands = λ i l e. elsewhere g q (to i) (miss i l e) ∙ h.lands i l e;
        apart = h.apart;
      }

  fewer : {n : ℕ} → Into f g (suc n) m to → Into f g n m to
  fewer h =
      record {
        below = λ i l. h.below i (omega arith);
        lands = λ i l. h.lands i (omega arith);
        apart = λ i j k l. h.apart i j (omega arith) (omega arith);
      }

-- no more are mapped than there are places
pub into_le : (f g : ℕ → Bool) (n m : ℕ) (to : ℕ → ℕ) → Into f g n m to → count f n ≤ count g m
unfolding count
into_le f g zero m to h = zero-le
into_le f g (suc n) m to h = go (f n) refl (into_le f g n m to (fewer h)) (λ q k. into_le f (but g q) n m to k)
  where
    go : (b : Bool) → f n ≡ b → count f n ≤ count g m → ((q : ℕ) → Into f (but g q) n m to → count f n ≤ count (but g q) m)
        → count f n + cond b 1 0 ≤ count g m
    go true e ih less =
        let rest = avoid (to n) (fewer h) (λ i l d w. let z = h.apart i n (omega arith) (omega arith) d e w in omega arith) in
        omega (arith, less (to n) rest, count-but g (to n) m (h.below n (omega arith) e) (h.lands n (omega arith) e))
    go false e ih less = omega arith

-- and fewer where the place q is missed
pub into_lt : (f g : ℕ → Bool) (n m q : ℕ) (to : ℕ → ℕ) → Into f g n m to → q < m → g q ≡ true
    → ((i : ℕ) → i < n → f i ≡ true → to i ≡ q → ⊥) → count f n < count g m
into_lt f g n m q to h l e miss = omega (arith, into_le f (but g q) n m to (avoid q h miss), count-but g q m l e)
