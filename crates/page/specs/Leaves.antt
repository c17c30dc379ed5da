-- The leaves, modules 1 and 2 of document 01: a mask is a number, whose bit p admits pCPU p; a service is four limbs.
use Rattle.std.specs.Prelude.{ℕ, ◌+◌, ◌-◌, ◌*◌, ◌/◌, ◌%◌, ◌^◌, min, max, Bool, cond, List, ltb}
use Rattle.page.specs.Policy.{number, four, hold}
use Rattle.page.specs.Next.{admits, lowest}

-- ---- Masks. A pCPU from 64 up has no bit.
abbrev pub pcpu_bit : ℕ → ℕ
pcpu_bit p = cond (ltb p 64) (2 ^ p) 0

abbrev pub full_mask : ℕ → ℕ
full_mask n = 2 ^ min n 64 - 1

abbrev pub clip : ℕ → ℕ → ℕ
clip mask n = mask % 2 ^ min n 64

-- 64 where the set is empty
abbrev pub lowest_pcpu : ℕ → ℕ
lowest_pcpu set = lowest (admits set) 64

-- ---- Service: held at 2^128 − 1, and a difference at 0
abbrev pub sum : List ℕ → List ℕ → List ℕ
sum a b = four (hold (number a + number b))

abbrev pub product : List ℕ → ℕ → List ℕ
product a w = four (hold (number a * w))

-- rounded down; weight 0 reads as 1
abbrev pub quotient : List ℕ → ℕ → List ℕ
quotient a w = four (hold (number a / max w 1))

abbrev pub difference : List ℕ → List ℕ → List ℕ
difference a b = four (hold (number a - number b))

abbrev pub less : List ℕ → List ℕ → Bool
less a b = ltb (number a) (number b)

-- a at weight w before b at weight v
abbrev pub more_deserving : List ℕ → ℕ → List ℕ → ℕ → Bool
more_deserving a w b v = ltb (hold (number a * v)) (hold (number b * w))
