-- Numbers in bytes by hand. Assumes nothing.
use Rattle.std.specs.Prelude.{ℕ, ◌+◌, ◌^◌, refl, List, [], ◌∷◌}
use Rattle.rows.specs.Rows.{Row, row, rows, AllDue}
use Rattle.big_endian.specs.Numbers.{bytes, number}

abbrev some : List ℕ
some = 1 ∷ 2 ∷ 3 ∷ 4 ∷ 255 ∷ []

abbrev pub numbers : List Row
numbers =
    -- the first byte is worth most
    rows (bytes 2 258) (1 ∷ 2 ∷ [])
    ∷ rows (bytes 4 258) (0 ∷ 0 ∷ 1 ∷ 2 ∷ [])
    ∷ rows (bytes 16 (2 ^ 120 + 7)) (1 ∷ 0 ∷ 0 ∷ 0 ∷ 0 ∷ 0 ∷ 0 ∷ 0 ∷ 0 ∷ 0 ∷ 0 ∷ 0 ∷ 0 ∷ 0 ∷ 0 ∷ 7 ∷ [])
    ∷ row (number some 0 2) 258
    ∷ row (number some 1 2) 515
    ∷ row (number some 0 4) 16909060
    -- past the end there are zeros
    ∷ row (number some 4 2) 65280
    ∷ row (number some 9 4) 0
    ∷ []

pub numbers-due : AllDue numbers
unfolding bytes number
numbers-due = refl
