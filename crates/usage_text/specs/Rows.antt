-- Bodies as text, by hand. Assumes nothing.
use Rattle.std.specs.Prelude.{ℕ, refl, List, [], ◌∷◌, ◌++◌, replicate}
use Rattle.rows.specs.Rows.{Row, rows, AllDue}
use Rattle.big_endian.specs.Numbers.{number}
use Rattle.text.specs.Ascii.{ascii}
use Rattle.text.specs.Lines.{digits, decimal, wide_decimal, field, usage_line}
use Rattle.usage_layout.specs.Layout.{each}
use Rattle.usage_text.specs.BodyText.{vcpu_line, body_lines}

-- weight 256 and service 10, and the largest of both
abbrev small : List ℕ
small = 0 ∷ 0 ∷ 1 ∷ 0 ∷ replicate 15 0 ++ (10 ∷ [])

abbrev largest : List ℕ
largest = replicate 20 255

abbrev pub bodies : List Row
bodies =
    rows (body_lines 3 []) []
    ∷ rows (body_lines 3 (small ++ largest)) (ascii "3 0 256 10\n3 1 4294967295 340282366920938463463374607431768211455\n")
    -- bytes that make no whole vCPU, and a ninth vCPU
    ∷ rows (body_lines 15 (small ++ replicate 19 255)) (ascii "15 0 256 10\n")
    ∷ rows (body_lines 0 (replicate 180 0)) (ascii "0 0 0 0\n0 1 0 0\n0 2 0 0\n0 3 0 0\n0 4 0 0\n0 5 0 0\n0 6 0 0\n0 7 0 0\n")
    ∷ []

pub bodies-due : AllDue bodies
unfolding number ascii digits decimal wide_decimal field usage_line each vcpu_line body_lines
bodies-due = refl
