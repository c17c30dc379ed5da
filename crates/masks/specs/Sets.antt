-- The set of the pCPUs below n that f holds of, as a number, and its laws. Assumes nothing.
use Rattle.std.specs.Prelude.{◌≡◌, refl, Bool, true, false, cond, ◌&&◌, ◌⊎◌, ℕ, zero, suc, ◌+◌, ◌*◌, ◌/◌, ◌%◌, ◌^◌, ◌≤◌, ◌<◌, eqb, ltb}
use Rattle.std.proofs.Common.{sym, ap, ap₂, ◌∙◌, inl, inr, eq-or-lt_of_le, lt_of_lt_of_le, one-mul, add-zero, arith, pow_mono, lt-ltb, ltb-true, ltb-false}
use Rattle.std.proofs.Math.Bool.{and-false}
use Rattle.std.proofs.Math.Nat.{div-eq_of_lt, add-mul-mod_self_right}
use Rattle.std.proofs.Math.Pow.{high}
use Rattle.masks.specs.Masks.{bit, permits}
use Rattle.masks.specs.Laws.{clipped-bit}

unfoldable pub set_of : (ℕ → Bool) → ℕ → ℕ
set_of f zero = 0
set_of f (suc k) = set_of f k + cond (f k) (2 ^ k) 0

pub set_of-below : (f : ℕ → Bool) (k : ℕ) → set_of f k < 2 ^ k
unfolding set_of
set_of-below f zero = omega arith
set_of-below f (suc k) = go (f k) (set_of-below f k)
  where
    go : (b : Bool) → set_of f k < 2 ^ k → set_of f k + cond b (2 ^ k) 0 < 2 ^ suc k
    go true h = omega arith
    go false h = omega arith

-- what stands at k and above does not change a bit below k
low_bit : (a k lo p : ℕ) → p < k → bit (lo + a * 2 ^ k) p ≡ bit lo p
low_bit a k lo p h = sym (clip (lo + a * 2 ^ k)) ∙ (ap (λ (x : ℕ). bit x p) (add-mul-mod_self_right lo a (2 ^ k)) ∙ clip lo)
  where
    clip : (m : ℕ) → bit (m % 2 ^ k) p ≡ bit m p
    clip m = clipped-bit m k p ∙ ap (λ (t : Bool). t && bit m p) (lt-ltb p k h)

top_bit : (k : ℕ) {lo : ℕ} → lo < 2 ^ k → (b : Bool) → bit (lo + cond b (2 ^ k) 0) k ≡ b
top_bit k {lo} h true = ap (λ (x : ℕ). eqb (x % 2) 1) (ap (λ (n : ℕ). n / 2 ^ k) (omega arith) ∙ high 1 k h)
top_bit k {lo} h false = ap (λ (x : ℕ). eqb (x % 2) 1) (ap (λ (n : ℕ). n / 2 ^ k) (add-zero lo) ∙ div-eq_of_lt h)

-- bit p says whether f holds of p
pub set_of-bit : (f : ℕ → Bool) (k p : ℕ) → p < k → bit (set_of f k) p ≡ f p
unfolding set_of
set_of-bit f zero p l = absurd (omega arith)
set_of-bit f (suc k) p l = go (eq-or-lt_of_le l) (λ m. set_of-bit f k p m)
  where
    below : (b : Bool) → p < k → bit (set_of f k + cond b (2 ^ k) 0) p ≡ bit (set_of f k) p
    below true h = ap (λ (n : ℕ). bit (set_of f k + n) p) (sym (one-mul (2 ^ k))) ∙ low_bit 1 k (set_of f k) p h
    below false h = ap (λ (n : ℕ). bit n p) (add-zero (set_of f k))

    go : (suc p ≡ suc k) ⊎ (suc p < suc k) → (p < k → bit (set_of f k) p ≡ f p) → bit (set_of f k + cond (f k) (2 ^ k) 0) p ≡ f p
    go (inl e) ih = let x : p ≡ k = omega arith in rw x (top_bit k (set_of-below f k) (f k))
    go (inr m) ih = below (f k) (omega arith) ∙ ih (omega arith)

-- the set admits just the pCPUs below the count that f holds of
pub set_of-permits : (f : ℕ → Bool) (k p : ℕ) → k ≤ 64 → permits (set_of f k) p ≡ (ltb p k && f p)
set_of-permits f k p h = go (ltb p k) refl
  where
    go : (t : Bool) → ltb p k ≡ t → (ltb p 64 && bit (set_of f k) p) ≡ (t && f p)
    go true e =
        let l = ltb-true p k e in
        rw (lt-ltb p 64 (omega arith)) (set_of-bit f k p l)
    go false e =
        let l = ltb-false p k e in
        let z : bit (set_of f k) p ≡ false = ap (λ (x : ℕ). eqb (x % 2) 1) (div-eq_of_lt (lt_of_lt_of_le (set_of-below f k) (pow_mono l))) in
        rw z (and-false (ltb p 64))

-- two sets that agree everywhere but at p
pub set_of_change : (f g : ℕ → Bool) (k p : ℕ) → p < k → ((q : ℕ) → q < k → (q ≡ p → ⊥) → f q ≡ g q)
    → set_of f k + cond (g p) (2 ^ p) 0 ≡ set_of g k + cond (f p) (2 ^ p) 0
unfolding set_of
set_of_change f g zero p l h = absurd (omega arith)
set_of_change f g (suc k) p l h = go (eq-or-lt_of_le l) (λ m. set_of_change f g k p m (λ q n. h q (omega arith)))
  where
    same : (n : ℕ) → ((q : ℕ) → q < n → f q ≡ g q) → set_of f n ≡ set_of g n
    same zero e = refl
    same (suc n) e = ap₂ ◌+◌ (same n (λ q m. e q (omega arith))) (ap (λ (b : Bool). cond b (2 ^ n) 0) (e n (omega arith)))

    go : (suc p ≡ suc k) ⊎ (suc p < suc k) → (p < k → set_of f k + cond (g p) (2 ^ p) 0 ≡ set_of g k + cond (f p) (2 ^ p) 0)
        → set_of f k + cond (f k) (2 ^ k) 0 + cond (g p) (2 ^ p) 0 ≡ set_of g k + cond (g k) (2 ^ k) 0 + cond (f p) (2 ^ p) 0
    go (inl e) ih =
        let x : p ≡ k = omega arith in
        let r : set_of f k ≡ set_of g k = same k (λ q n. h q (omega arith) (λ w. omega arith)) in
        rw x (omega arith)
    go (inr m) ih = omega (arith, ih (omega arith), ap (λ (b : Bool). cond b (2 ^ k) 0) (h k (omega arith) (λ w. omega arith)))
