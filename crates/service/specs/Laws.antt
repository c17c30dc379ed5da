-- What callers may rely on: limbs and their value, and the order of two vCPUs by service. Assumes nothing.
use Rattle.std.specs.Prelude.{◌≡◌, true, false, List, [], ◌∷◌, ℕ, zero, suc, ◌+◌, ◌*◌, ◌-◌, ◌%◌, ◌^◌, ◌<◌, min, ltb, length, get_or}
use Rattle.std.proofs.Common.{sym, ap, ◌∙◌, le_refl, le_of_lt, lt_of_le_of_lt, mul-le-mul_right, add_comm, mod-eq_of_lt, pow-suc, arith, lit<, ltb-true, le-ltb}
use Rattle.std.proofs.Math.Nat.{min-le_right, mul-lt-mul_of_pos_left, mod-one, one-le-pow}
use Rattle.std.proofs.Math.Arith.{digits_lt, mod-mul}
use Rattle.service.specs.Service.{value, limbs, held, more_deserving}

-- a number below m is not cut at m - 1; for any m, since of a number as long as 2 ^ 128 `omega` says nothing
pub below-limit : (n m : ℕ) → n < m → min n (m - 1) ≡ n
below-limit n m h = omega arith

-- ---- steps to the laws: any number of limbs

value-limbs : (k n : ℕ) → value (limbs k n) ≡ n % (2 ^ 32) ^ k
unfolding limbs value
value-limbs zero n = sym (mod-one n)
value-limbs (suc k) n = rw (pow-suc (2 ^ 32) k, value-limbs k) (sym (mod-mul n (one-le-pow k (2 ^ 32) (lit< tt)) (lit< tt)))

value_bound : (l : List ℕ) → ((i : ℕ) → get_or l i 0 < 2 ^ 32) → value l < (2 ^ 32) ^ length l
unfolding value
value_bound [] h = lit< tt
value_bound (x ∷ l) h = rw (pow-suc (2 ^ 32) (length l)) (digits_lt (value_bound l (λ i. h (suc i))) (h 0))

-- ---- the laws

-- what is held is the number, up to the largest of 128 bits
pub value-held : (n : ℕ) → value (held n) ≡ min n (2 ^ 128 - 1)
unfolding held
value-held n = value-limbs 4 _ ∙ mod-eq_of_lt (lt_of_le_of_lt (min-le_right n (2 ^ 128 - 1)) (lit< tt))

-- a number of 128 bits is held whole
pub held-exact : (n : ℕ) → n < 2 ^ 128 → value (held n) ≡ n
held-exact n h = value-held n ∙ below-limit n (2 ^ 128) h

-- limbs that hold it are worth it
pub exactly : {l : List ℕ} {n : ℕ} → n < 2 ^ 128 → l ≡ held n → (l ≡ held n) × (value l ≡ n)
exactly {n = n} h e = (e, ap value e ∙ held-exact n h)

-- four limbs are worth less than 2 ^ 128
pub value-below : (l : List ℕ) → length l ≡ 4 → ((i : ℕ) → get_or l i 0 < 2 ^ 32) → value l < 2 ^ 128
value-below l e h = rw e at (value_bound l h)

limit-sum : (a b m : ℕ) → min (min a m + b) m ≡ min (a + b) m
limit-sum a b m = omega arith

held-limit : (a b : ℕ) → held (min a (2 ^ 128 - 1) + b) ≡ held (a + b)
unfolding held
held-limit a b = ap (limbs 4) (limit-sum a b (2 ^ 128 - 1))

-- a sum that is held at each step is held once
pub held-sum : (a b : ℕ) → held (value (held a) + b) ≡ held (a + b)
held-sum a b = rw (value-held a) (held-limit a b)

pub held-sum-both : (a b : ℕ) → held (value (held a) + value (held b)) ≡ held (a + b)
held-sum-both a b =
    held-sum a (value (held b)) ∙ (ap held (add_comm a (value (held b))) ∙ (held-sum b a ∙ ap held (add_comm b a)))

-- the order is exact where neither product is held
pub deserving-exact : (s w t v : ℕ) → s * v < 2 ^ 128 → t * w < 2 ^ 128 → more_deserving s w t v ≡ ltb (s * v) (t * w)
unfolding more_deserving
deserving-exact s w t v p q = rw (below-limit (s * v) (2 ^ 128) p, below-limit (t * w) (2 ^ 128) q)

-- a service below 2 ^ 96 times a weight is never held
pub product-below : (s v : ℕ) → s < 2 ^ 96 → v < 2 ^ 32 → s * v < 2 ^ 128
product-below s v h k = lt_of_le_of_lt (mul-le-mul_right v (le_of_lt h)) (mul-lt-mul_of_pos_left {k = 2 ^ 96} k (lit< tt))

-- nobody is more deserving than itself
pub deserving-irrefl : (s w : ℕ) → more_deserving s w s w ≡ false
unfolding more_deserving
deserving-irrefl s w = let p = min (s * w) (2 ^ 128 - 1) in le-ltb p p (le_refl p)

-- of two, at most one is more deserving than the other
pub deserving-asym : (s w t v : ℕ) → more_deserving s w t v ≡ true → more_deserving t v s w ≡ false
unfolding more_deserving
deserving-asym s w t v e = asym (min (s * v) (2 ^ 128 - 1)) (min (t * w) (2 ^ 128 - 1)) e
  where
    asym : (x y : ℕ) → ltb x y ≡ true → ltb y x ≡ false
    asym x y e = le-ltb y x (omega (arith, ltb-true x y e))
