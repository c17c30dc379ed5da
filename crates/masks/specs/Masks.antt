-- A set of pCPUs is a number: pCPU p is in the set where bit p is set. A word of 64 bits has no bit from 64 up.
use Rattle.std.specs.Prelude.{ℕ, zero, suc, ◌/◌, ◌%◌, ◌^◌, ◌-◌, min, Bool, cond, ◌&&◌, ltb, eqb}

-- bit p of m
abbrev pub bit : ℕ → ℕ → Bool
bit m p = eqb (m / 2 ^ p % 2) 1

-- the mask admits pCPU p
abbrev pub permits : ℕ → ℕ → Bool
permits m p = ltb p 64 && bit m p

-- the number with bit p alone, or 0 where a word has no such bit
abbrev pub pcpu_bit : ℕ → ℕ
pcpu_bit p = cond (ltb p 64) (2 ^ p) 0

-- the first n pCPUs, or all 64
abbrev pub full_mask : ℕ → ℕ
full_mask n = 2 ^ min n 64 - 1

-- what m has of the first n pCPUs
abbrev pub clipped : ℕ → ℕ → ℕ
clipped m n = m % 2 ^ min n 64

-- the least p below n that f holds of, or n
unfoldable pub first : (ℕ → Bool) → ℕ → ℕ
first f zero = zero
first f (suc n) = cond (f zero) zero (suc (first (λ p. f (suc p)) n))

-- the lowest-numbered pCPU of the set, or 64 where the set is empty
abbrev pub lowest : ℕ → ℕ
lowest set = first (permits set) 64
