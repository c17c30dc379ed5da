-- What single bits and counts of zeros are, of a word of 64 bits. Assumes nothing.
use mathlib.Core.Path.{◌≡◌, refl, sym, ap, ap₂, ◌∙◌}
use mathlib.Core.Bool.{Bool, true, false, cond, not, ◌&&◌}
use Prim.Native.Nat.{ℕ, zero, suc, ◌+◌, ◌*◌, ◌-◌, ◌/◌, ◌%◌, ◌^◌, ◌<◌}
use native.Mathlib.Numerals.{add-one}
use native.Mathlib.Nat.{add_comm, zero-mul, one-mul, pow-suc, mul_comm, div-div-eq-div-mul, div-one, mod-lt}
use native.Mathlib.Omega.{arith}
use lib.Dec.{eqb, ltb, lit<}
use lib.Pow.{pow_pos}
use lib.Bits.{bit_and, and_high, and_zero_r}
use lib.Count.{count_trailing_zeros, under}
use borrow.Author.Tests.{lt-ltb, ne_eqb}
use Rattle.masks.specs.Masks.{bit, permits, pcpu_bit, first, lowest}
use Rattle.masks.specs.Laws.{first_cong}

-- a word meets one bit where that bit is set
meets-bit : (m p : ℕ) → not (eqb (bit_and m (2 ^ p)) 0) ≡ bit m p
meets-bit m p = ap (λ (n : ℕ). not (eqb n 0)) (ap (bit_and m) alone ∙ and_high m 1 p) ∙ scaled (m / 2 ^ p % 2) (omega arith)
  where
    alone : 2 ^ p ≡ 2 ^ (1 + p) - 2 ^ p
    alone = rw (add_comm 1 p, add-one) (omega arith)

    scaled : (d : ℕ) → d < 2 → not (eqb (d * 2 ^ p) 0) ≡ eqb d 1
    scaled zero h = rw zero-mul
    scaled (suc zero) h = rw (one-mul, ne_eqb (2 ^ p) 0 (λ e. omega (arith, pow_pos p)))
    scaled (suc (suc d)) h = absurd (omega arith)

-- and so a mask meets the bit of each pCPU that it admits
pub meets_pcpu : (m p : ℕ) → not (eqb (bit_and m (pcpu_bit p)) 0) ≡ permits m p
meets_pcpu m p = go (ltb p 64)
  where
    go : (t : Bool) → not (eqb (bit_and m (cond t (2 ^ p) 0)) 0) ≡ (t && bit m p)
    go true = meets-bit m p
    go false = rw and_zero_r

-- the bits of n / 2 are those of n, one place down
half : (n p : ℕ) → bit (n / 2) p ≡ bit n (suc p)
half n p = rw (div-div-eq-div-mul, mul_comm 2 (2 ^ p), ← pow-suc 2 p)

under-cond : (d t : ℕ) → d < 2 → under d t ≡ cond (eqb d 1) zero (suc t)
under-cond zero t h = refl
under-cond (suc zero) t h = refl
under-cond (suc (suc d)) t h = absurd (omega arith)

-- a count of trailing zeros is the first set bit
trailing : (k n : ℕ) → count_trailing_zeros k n ≡ first (bit n) k
unfolding count_trailing_zeros first
trailing zero n = refl
trailing (suc k) n =
    under-cond (n % 2) _ (mod-lt n (lit< tt))
    ∙ ap₂ (λ (x y : ℕ). cond (eqb (x % 2) 1) zero (suc y)) (sym (div-one n))
    (trailing k (n / 2) ∙ ap (λ f. first f k) (λ i p. half n p i))

pub trailing_lowest : (n : ℕ) → count_trailing_zeros 64 n ≡ lowest n
trailing_lowest n = trailing 64 n ∙ first_cong (bit n) (permits n) 64 (λ p h. rw (lt-ltb p 64 h))
