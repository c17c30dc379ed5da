-- Numbers in bytes, the most significant first.
use Rattle.std.specs.Prelude.{ℕ, zero, suc, ◌+◌, ◌*◌, ◌/◌, ◌%◌, ◌^◌, ◌<◌, List, [], ◌∷◌, get_or}

-- the n bytes of x
unfoldable pub bytes : ℕ → ℕ → List ℕ
bytes zero x = []
bytes (suc n) x = x / 256 ^ n % 256 ∷ bytes n x

-- what n bytes from index `at` on say; past the end there are zeros
unfoldable pub number : List ℕ → ℕ → ℕ → ℕ
number bs at zero = 0
number bs at (suc n) = number bs at n * 256 + get_or bs (at + n) 0

-- each of them is a byte
abbrev pub AllBytes : List ℕ → Type 0
AllBytes [] = Unit {0}
AllBytes (b ∷ bs) = (b < 256) × AllBytes bs
