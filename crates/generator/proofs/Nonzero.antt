-- No draw leaves the 64 bits, and from a state that is not 0 none leads to 0. Assumes nothing.
use Prim.Native.Nat.{ℕ, zero, suc, ◌+◌, ◌*◌, ◌/◌, ◌%◌, ◌^◌, ◌<◌}
use mathlib.Core.Path.{◌≡◌, refl, ap, sym, ◌∙◌}
use native.Mathlib.Nat.{
  mul-one,
  mul_assoc,
  pow-zero,
  pow-suc,
  pos_of_ne-zero,
  lt_of_le_of_lt,
  mod-lt,
  mod-eq_of_lt,
  mul-mod_left,
  mul-add-mod_self_right,
}
use native.Mathlib.Omega.{arith}
use lib.Bits.{bit_xor, xor_add_and, and_le_l, and_le_r, xor_lt}
use lib.Pow.{pow_pos, split, shr_le}
use Rattle.generator.specs.Xorshift.{up, down, after, after_draws}

-- ---- below 2 ^ 64

up-below : (k x : ℕ) → x < 2 ^ 64 → up k x < 2 ^ 64
unfolding up
up-below k x l = xor_lt 64 x _ l (mod-lt _ (pow_pos 64))

down-below : (k x : ℕ) → x < 2 ^ 64 → down k x < 2 ^ 64
unfolding down
down-below k x l = xor_lt 64 x _ l (lt_of_le_of_lt (shr_le x k) l)

pub after-below : (x : ℕ) → x < 2 ^ 64 → after x < 2 ^ 64
unfolding after
after-below x l = up-below 17 _ (down-below 7 _ (up-below 13 x l))

pub draws-below : (n x : ℕ) → x < 2 ^ 64 → after_draws n x < 2 ^ 64
unfolding after_draws
draws-below zero x l = l
draws-below (suc n) x l = after-below _ (draws-below n x l)

-- ---- not 0

-- only equal numbers leave 0 when one is put over the other
xor_equal : (a b : ℕ) → bit_xor a b ≡ 0 → a ≡ b
xor_equal a b e = omega (arith, xor_add_and a b, and_le_l a b, and_le_r a b)

-- what a factor leaves as it is, its powers do too
stays : (m x : ℕ) → x < 2 ^ 64 → x * m % 2 ^ 64 ≡ x → (n : ℕ) → x * m ^ n % 2 ^ 64 ≡ x
stays m x l e zero = rw (pow-zero m, mul-one x) (mod-eq_of_lt l)
stays m x l e (suc n) =
    let q = x * m ^ n / 2 ^ 64 in
    let before : x * m ^ n ≡ q * 2 ^ 64 + x = omega (arith, split (x * m ^ n) 64, stays m x l e n) in
    let here : x * m ^ suc n ≡ q * m * 2 ^ 64 + x * m = rw (pow-suc m n) (omega (arith, ap (λ (y : ℕ). y * m) before)) in
    rw here (mul-add-mod_self_right (q * m) (2 ^ 64) (x * m) ∙ e)

-- of 64 bits moved up by k, five times over, none is left
up-nonzero : (k c x : ℕ) → (2 ^ k) ^ 5 ≡ c * 2 ^ 64 → x < 2 ^ 64 → 0 < x → 0 < up k x
unfolding up
up-nonzero k c x p l h = pos_of_ne-zero never
  where
    never : bit_xor x (x * 2 ^ k % 2 ^ 64) ≡ 0 → ⊥
    never z =
        let stay = stays (2 ^ k) x l (sym (xor_equal x _ z)) 5 in
        let none : x * (2 ^ k) ^ 5 % 2 ^ 64 ≡ 0 = rw (p, ← mul_assoc) (mul-mod_left (x * c) (2 ^ 64)) in
        omega arith

down-nonzero : (x : ℕ) → 0 < x → 0 < down 7 x
unfolding down
down-nonzero x h = pos_of_ne-zero (λ z. omega (arith, xor_equal x _ z))

pub after-nonzero : (x : ℕ) → x < 2 ^ 64 → 0 < x → 0 < after x
unfolding after
after-nonzero x l h =
    let first = up-nonzero 13 2 x refl l h in
    up-nonzero 17 (2 ^ 21) _ refl (down-below 7 _ (up-below 13 x l)) (down-nonzero _ first)

pub draws-nonzero : (n x : ℕ) → x < 2 ^ 64 → 0 < x → 0 < after_draws n x
unfolding after_draws
draws-nonzero zero x l h = h
draws-nonzero (suc n) x l h = after-nonzero _ (draws-below n x l) (draws-nonzero n x l h)
