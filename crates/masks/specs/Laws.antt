-- Laws of masks, for callers. Assumes nothing.
use Rattle.std.specs.Prelude.{◌≡◌, refl, Bool, true, false, cond, ◌&&◌, ℕ, zero, suc, ◌+◌, ◌-◌, ◌/◌, ◌%◌, ◌^◌, ◌≤◌, ◌<◌, min, eqb, ltb}
use Rattle.std.proofs.Common.{ap, subst, zero-le, suc-le-suc, mod-lt, lt_of_lt_of_le, arith, pow_pos, pow_mono, ltb-true, ltb-false, lt-ltb, le-ltb}
use Rattle.std.proofs.Math.Nat.{zero-min, div-eq_of_lt}
use Rattle.std.proofs.Math.Pow.{field, mod-mod-pow, ones_lt, ones_split, high}
use Rattle.std.specs.Int.Bits.{bit_and, and_step}
use Rattle.std.proofs.lemmas.Nat.{and_shr}
use Rattle.masks.specs.Masks.{bit, permits, pcpu_bit, full_mask, clipped, first, lowest}

-- r is the least number below n that f holds of, or n where there is none
pub record Least (f : ℕ → Bool) (n r : ℕ) : Type 0 where
  pub within : r ≤ n
  pub found : r < n → f r ≡ true
  pub before : (q : ℕ) → q < r → f q ≡ false

pub first-least : (f : ℕ → Bool) (n : ℕ) → Least f n (first f n)
unfolding first
first-least f zero = record { within = zero-le; found = λ h. absurd (omega arith); before = λ q h. absurd (omega arith) }
first-least f (suc n) = go (f zero) refl (first-least (λ p. f (suc p)) n)
  where
    go : (b : Bool) → f zero ≡ b → {r : ℕ} → Least (λ p. f (suc p)) n r → Least f (suc n) (cond b zero (suc r))
    go true e l = record { within = zero-le; found = λ h. e; before = λ q h. absurd (omega arith) }
    go false e {r} l = record { within = suc-le-suc l.within; found = λ h. l.found (omega arith); before = low }
      where
        low : (q : ℕ) → q < suc r → f q ≡ false
        low zero h = e
        low (suc q) h = l.before q (omega arith)

-- what is first depends only on what f says below n
pub first_cong : (f g : ℕ → Bool) (n : ℕ) → ((p : ℕ) → p < n → f p ≡ g p) → first f n ≡ first g n
unfolding first
first_cong f g zero h = refl
first_cong f g (suc n) h =
    let e = h zero (omega arith) in
    let l = first_cong (λ p. f (suc p)) (λ p. g (suc p)) n (λ p k. h (suc p) (omega arith)) in
    rw (e, l)

-- ---- the bit of a pCPU that a word has, and none from 64 up

pub pcpu-bit-is : (p : ℕ) → p < 64 → pcpu_bit p ≡ 2 ^ p
pcpu-bit-is p h = rw (lt-ltb p 64 h)

pub pcpu-bit-past : (p : ℕ) → 64 ≤ p → pcpu_bit p ≡ 0
pcpu-bit-past p h = rw (le-ltb p 64 h)

-- ---- no mask admits a pCPU from 64 up

pub permits-past : (m p : ℕ) → 64 ≤ p → permits m p ≡ false
permits-past m p h = ap (λ (t : Bool). t && bit m p) (le-ltb p 64 h)

-- ---- an intersection admits what both masks admit, and its lowest is the lowest in both

and-true : (d e : ℕ) → d < 2 → e < 2 → eqb (min d e) 1 ≡ (eqb d 1 && eqb e 1)
and-true zero e h k = rw zero-min
and-true (suc zero) zero h k = refl
and-true (suc zero) (suc zero) h k = refl
and-true (suc zero) (suc (suc e)) h k = absurd (omega arith)
and-true (suc (suc d)) e h k = absurd (omega arith)

and-bit : (a b p : ℕ) → bit (bit_and a b) p ≡ (bit a p && bit b p)
and-bit a b p =
    let x = a / 2 ^ p in
    let y = b / 2 ^ p in
    let low : bit_and x y % 2 ≡ min (x % 2) (y % 2) = omega (arith, and_step x y) in
    rw (and_shr, low) (and-true (x % 2) (y % 2) (omega arith) (omega arith))

within_word : (t a b : Bool) → (t && (a && b)) ≡ ((t && a) && (t && b))
within_word true a b = refl
within_word false a b = refl

pub and-permits : (a b p : ℕ) → permits (bit_and a b) p ≡ (permits a p && permits b p)
and-permits a b p = rw and-bit (within_word (ltb p 64) (bit a p) (bit b p))

pub lowest-and : (a b : ℕ) → lowest (bit_and a b) ≡ first (λ p. permits a p && permits b p) 64
lowest-and a b = ap (λ f. first f 64) (λ i p. and-permits a b p i)

-- ---- a clipped mask has exactly the bits below the count

kept : (m j p : ℕ) → bit (m % 2 ^ (j + 1 + p)) p ≡ bit m p
kept m j p = rw (field m (j + 1) p, mod-mod-pow (m / 2 ^ p) j 1)

pub clipped-bit : (m n p : ℕ) → bit (m % 2 ^ n) p ≡ (ltb p n && bit m p)
clipped-bit m n p = go (ltb p n) refl
  where
    go : (t : Bool) → ltb p n ≡ t → bit (m % 2 ^ n) p ≡ (t && bit m p)
    go true e = subst (λ (k : ℕ). bit (m % 2 ^ k) p ≡ bit m p) (omega (arith, ltb-true p n e)) (kept m (n - suc p) p)
    go false e =
        ap (λ (x : ℕ). eqb (x % 2) 1)
        (div-eq_of_lt (lt_of_lt_of_le (mod-lt m (pow_pos n)) (pow_mono (ltb-false p n e))))

-- p is below the lesser of n and 64 where it is below both
below_both : (n p : ℕ) (b : Bool) → (ltb p 64 && (ltb p (min n 64) && b)) ≡ (ltb p n && (ltb p 64 && b))
below_both n p b = go (ltb p n) (ltb p 64) refl refl
  where
    go : (t u : Bool) → ltb p n ≡ t → ltb p 64 ≡ u → (u && (ltb p (min n 64) && b)) ≡ (t && (u && b))
    go true true e f = rw (lt-ltb p (min n 64) (omega (arith, ltb-true p n e, ltb-true p 64 f)))
    go true false e f = refl
    go false true e f = rw (le-ltb p (min n 64) (omega (arith, ltb-false p n e)))
    go false false e f = refl

pub clipped-permits : (m n p : ℕ) → permits (clipped m n) p ≡ (ltb p n && permits m p)
clipped-permits m n p = rw (clipped-bit m (min n 64) p) (below_both n p (bit m p))

-- ---- a full mask admits every pCPU below the count, up to 64

ones_bit : (n p : ℕ) → p < n → bit (2 ^ n - 1) p ≡ true
ones_bit n p h = subst (λ (k : ℕ). bit (2 ^ k - 1) p ≡ true) (omega arith) (at (n - suc p))
  where
    at : (j : ℕ) → bit (2 ^ (suc j + p) - 1) p ≡ true
    at j =
        let odd : (2 ^ suc j - 1) % 2 ≡ 1 = omega (arith, pow_pos j) in
        rw (ones_split (suc j) p, high (2 ^ suc j - 1) p (ones_lt p), odd)

pub full-permits : (n p : ℕ) → p < n → p < 64 → permits (full_mask n) p ≡ true
full-permits n p h k = rw (lt-ltb p 64 k) (ones_bit (min n 64) p (omega arith))
