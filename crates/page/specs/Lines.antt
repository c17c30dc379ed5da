-- Lines of numbers, and text put into a stretch of bytes.
use Rattle.std.specs.Prelude.{ℕ, ◌+◌, Bool, cond, List, [], ◌∷◌, ◌++◌, leb, length, take, drop, replicate}
use Rattle.text.specs.declared.Line.{Line}
use Rattle.page.specs.Numbers.{decimal, wide_decimal}

-- ---- Lines: 32 is a space, 112 a p, 10 ends a line
abbrev pub spaced : ℕ → List ℕ
spaced n = 32 ∷ decimal n

-- what a record is told: its number, the answer, the moves
unfoldable pub answer_line : ℕ → ℕ → ℕ → List ℕ
answer_line number answer moves = decimal number ++ spaced answer ++ spaced moves ++ (10 ∷ [])

-- a space before each number
unfoldable pub numbers_line : List ℕ → List ℕ
numbers_line [] = 10 ∷ []
numbers_line (n ∷ ns) = spaced n ++ numbers_line ns

-- a pCPU that is held, and its holder
unfoldable pub pcpu_line : ℕ → ℕ → ℕ → List ℕ
pcpu_line p d v = (32 ∷ 112 ∷ []) ++ spaced p ++ spaced d ++ spaced v ++ (10 ∷ [])

-- domain, vCPU, weight, service
unfoldable pub usage_line : ℕ → ℕ → ℕ → ℕ → List ℕ
usage_line d v weight service = decimal d ++ spaced v ++ spaced weight ++ (32 ∷ wide_decimal service) ++ (10 ∷ [])

-- ---- Text put in place of what stands at index `at`
abbrev pub put : List ℕ → ℕ → List ℕ → List ℕ
put out at t = take at out ++ (t ++ drop (at + length t) out)

-- a line of that text, zeros past it
abbrev pub line_of : List ℕ → Line
line_of t = record { bytes = put (replicate 192 0) 0 t; length = length t }

-- a whole line is put where it fits, and the index past it
abbrev pub fits : List ℕ → ℕ → List ℕ → Bool
fits out at t = leb (at + length t) (length out)

abbrev pub append : List ℕ → ℕ → List ℕ → List ℕ
append out at t = cond (fits out at t) (put out at t) out

abbrev pub past : List ℕ → ℕ → List ℕ → ℕ
past out at t = cond (fits out at t) (at + length t) at

-- what a record is told is put where there are 63 bytes, which is room for any such line
abbrev pub put_answer : List ℕ → ℕ → ℕ → ℕ → ℕ → List ℕ
put_answer out at number answer moves =
    cond (leb (at + 63) (length out)) (put out at (answer_line number answer moves)) out

abbrev pub past_answer : List ℕ → ℕ → ℕ → ℕ → ℕ → ℕ
past_answer out at number answer moves =
    cond (leb (at + 63) (length out)) (at + length (answer_line number answer moves)) at
