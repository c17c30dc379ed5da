-- The service of a vCPU: a number of 128 bits as four limbs of 32 bits, the least first, and the order of two vCPUs by it.
use Rattle.std.specs.Prelude.{Bool, List, [], ◌∷◌, ℕ, zero, suc, ◌+◌, ◌*◌, ◌-◌, ◌/◌, ◌%◌, ◌^◌, min, ltb}

-- what a list of limbs is worth, each 2 ^ 32 times the one before it
unfoldable pub value : List ℕ → ℕ
value [] = 0
value (x ∷ xs) = value xs * 2 ^ 32 + x

-- the k lowest digits of n in base 2 ^ 32
unfoldable pub limbs : ℕ → ℕ → List ℕ
limbs zero n = []
limbs (suc k) n = n % 2 ^ 32 ∷ limbs k (n / 2 ^ 32)

-- n, or the largest number of 128 bits
unfoldable pub held : ℕ → List ℕ
unfolding limbs
held n = limbs 4 (min n (2 ^ 128 - 1))

-- whether a service s at weight w comes before a service t at weight v: s / w < t / v, by products held at 128 bits
unfoldable pub more_deserving : ℕ → ℕ → ℕ → ℕ → Bool
more_deserving s w t v = ltb (min (s * v) (2 ^ 128 - 1)) (min (t * w) (2 ^ 128 - 1))
