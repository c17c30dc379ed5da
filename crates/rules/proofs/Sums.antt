-- Sums over the numbers below n. Assumes nothing.
use Prim.Native.Nat.{ℕ, zero, suc, ◌+◌, ◌*◌, ◌≤◌, ◌<◌}
use mathlib.Core.Path.{◌≡◌, refl}
use mathlib.Core.Logic.{◌⊎◌, inl, inr}
use native.Mathlib.Omega.{arith}
use native.Mathlib.Nat.{eq-or-lt_of_le}

-- f 0 + .. + f (n - 1)
unfoldable pub sum : (ℕ → ℕ) → ℕ → ℕ
sum f zero = 0
sum f (suc k) = sum f k + f k

pub sum_bound : (f : ℕ → ℕ) (m n : ℕ) → ((p : ℕ) → f p ≤ m) → sum f n ≤ m * n
unfolding sum
sum_bound f m zero h = omega arith
sum_bound f m (suc k) h = omega (arith, sum_bound f m k h, h k)

pub sum_same : (f g : ℕ → ℕ) (n : ℕ) → ((q : ℕ) → q < n → f q ≡ g q) → sum f n ≡ sum g n
unfolding sum
sum_same f g zero h = refl
sum_same f g (suc k) h = omega (arith, sum_same f g k (λ q l. h q (omega arith)), h k (omega arith))

-- two functions that agree everywhere but at p
pub sum_change : (f g : ℕ → ℕ) (n p : ℕ) → p < n → ((q : ℕ) → q < n → (q ≡ p → ⊥) → f q ≡ g q) → sum f n + g p ≡ sum g n + f p
unfolding sum
sum_change f g zero p l h = absurd (omega arith)
sum_change f g (suc k) p l h = go (eq-or-lt_of_le l) (λ m. sum_change f g k p m (λ q n. h q (omega arith)))
  where
    go : (suc p ≡ suc k) ⊎ (suc p < suc k) → (p < k → sum f k + g p ≡ sum g k + f p) → sum f k + f k + g p ≡ sum g k + g k + f p
    go (inl e) ih =
        let e' : p ≡ k = omega arith in
        let r : sum f k ≡ sum g k = sum_same f g k (λ q n. h q (omega arith) (λ w. omega arith)) in
        rw e' (omega arith)
    go (inr m) ih = omega (arith, ih (omega arith), h k (omega arith) (λ w. omega arith))
