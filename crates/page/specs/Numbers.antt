-- Numbers in bytes, in decimal, and among arguments.
use Rattle.std.specs.Prelude.{ℕ, ◌+◌, ◌-◌, ◌*◌, ◌/◌, ◌%◌, ◌^◌, Bool, true, cond, ◌&&◌, List, [], ◌∷◌, ◌++◌, ltb, leb, length, get_or, Option, None, Some}
use Rattle.page.specs.Host.{times}

-- part 0, then part 1, .. n of them, one right behind the other
abbrev pub parts : ℕ → (ℕ → List ℕ) → List ℕ
parts n part = times (λ k l. l ++ part k) n []

-- whether every number below n passes
abbrev pub all : ℕ → (ℕ → Bool) → Bool
all n passes = times (λ k b. b && passes k) n true

-- ---- In bytes: the n bytes of x, and what n bytes from index `at` on say; past the end there are zeros
-- the most significant first: the least is put down, then each next one before it
unfoldable pub bytes : ℕ → ℕ → List ℕ
bytes n x = times (λ k l. x / 256 ^ k % 256 ∷ l) n []

unfoldable pub field : List ℕ → ℕ → ℕ → ℕ
field bs at n = times (λ k x. x * 256 + get_or bs (at + k) 0) n 0

-- ---- In decimal: the digit worth 10^k stands where the number is at least 10^k, the last one always
abbrev pub digit : ℕ → ℕ → List ℕ
digit n k = cond (ltb 0 k && ltb n (10 ^ k)) [] ((48 + n / 10 ^ k % 10) ∷ [])

-- the last of its digits, at most so many
unfoldable pub digits : ℕ → ℕ → List ℕ
digits most n = times (λ k l. digit n k ++ l) most []

-- 20 digits hold any number of 64 bits, 39 any of 128
abbrev pub decimal : ℕ → List ℕ
decimal n = digits 20 n

abbrev pub wide_decimal : ℕ → List ℕ
wide_decimal n = digits 39 n

-- ---- Among arguments: decimal digits alone, one at least, that say a number of 64 bits; zeros may lead
abbrev pub is_digit : ℕ → Bool
is_digit b = leb 48 b && leb b 57

abbrev pub said : List ℕ → ℕ
said w = times (λ k n. n * 10 + (get_or w k 0 - 48)) (length w) 0

unfoldable pub number_in : List ℕ → Option ℕ
number_in w =
    cond (ltb 0 (length w) && all (length w) (λ k. is_digit (get_or w k 0)) && ltb (said w) (2 ^ 64)) (Some (said w)) None
