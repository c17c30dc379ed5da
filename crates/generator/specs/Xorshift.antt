-- Marsaglia's 64-bit xorshift with shifts left 13, right 7, left 17.
use Rattle.std.specs.Prelude.{ℕ, zero, suc, ◌*◌, ◌/◌, ◌%◌, ◌^◌, Bool, true, false}
use Rattle.std.specs.Int.Bits.{bit_xor}

-- x with its own bits, moved up by k and cut at 64 bits, put over it
unfoldable pub up : ℕ → ℕ → ℕ
up k x = bit_xor x (x * 2 ^ k % 2 ^ 64)

-- x with its own bits, moved down by k, put over it
unfoldable pub down : ℕ → ℕ → ℕ
down k x = bit_xor x (x / 2 ^ k)

-- the state after x, which is also the number drawn
unfoldable pub after : ℕ → ℕ
after x = up 17 (down 7 (up 13 x))

-- the state after n draws from x
unfoldable pub after_draws : ℕ → ℕ → ℕ
after_draws zero x = x
after_draws (suc n) x = after (after_draws n x)

-- a draw where one is wanted: the number, and the state left
abbrev pub drawn_if : Bool → ℕ → ℕ
drawn_if true x = after x
drawn_if false x = 0

abbrev pub state_if : Bool → ℕ → ℕ
state_if true x = after x
state_if false x = x
