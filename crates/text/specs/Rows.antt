-- Lines as the requirements write them: numbers in decimal; and the numbers that words say. Assumes nothing.
use Rattle.std.specs.Prelude.{◌-◌, ◌^◌, refl, List, [], ◌∷◌, ◌++◌, replicate}
use Rattle.std.specs.Option.{option_to_list}
use Rattle.rows.specs.Rows.{Row, row, rows, AllDue}
use Rattle.text.specs.Ascii.{ascii}
use Rattle.text.specs.Lines.{digits, decimal, wide_decimal, field, fields, answer_line, numbers_line, pcpu_line, usage_line}
use Rattle.text.specs.AnswerPlaces.{answer_put, answer_end}
use Rattle.text.specs.Numerals.{numeral, said, number_in}

abbrev pub lines : List Row
lines =
    -- a number: no digit before the first, the last one too, 20 digits at most
    rows (decimal 0) (ascii "0")
    ∷ rows (decimal 9) (ascii "9")
    ∷ rows (decimal 10) (ascii "10")
    ∷ rows (decimal 907) (ascii "907")
    ∷ rows (decimal (2 ^ 64 - 1)) (ascii "18446744073709551615")
    -- one of 128 bits, 39 digits at most
    ∷ rows (wide_decimal 0) (ascii "0")
    ∷ rows (wide_decimal 9) (ascii "9")
    ∷ rows (wide_decimal 10) (ascii "10")
    ∷ rows (wide_decimal (2 ^ 64)) (ascii "18446744073709551616")
    ∷ rows (wide_decimal (10 ^ 38)) (ascii "100000000000000000000000000000000000000")
    ∷ rows (wide_decimal (2 ^ 128 - 1)) (ascii "340282366920938463463374607431768211455")
    -- a record: its number, the answer, the moves
    ∷ rows (answer_line 12 5 130) (ascii "12 5 130\n")
    -- put where there are 63 bytes for it, and not where there are 62
    ∷ rows (answer_put (replicate 64 7) 1 1 0 0) (7 ∷ ascii "1 0 0\n" ++ replicate 57 7)
    ∷ row (answer_end (replicate 64 7) 1 1 0 0) 7
    ∷ rows (answer_put (replicate 63 7) 1 1 0 0) (replicate 63 7)
    ∷ row (answer_end (replicate 63 7) 1 1 0 0) 1
    -- numbers, and a pCPU that is held, as `trace` writes them, which the requirements do not say
    ∷ rows (numbers_line (3 ∷ 0 ∷ 64 ∷ [])) (ascii " 3 0 64\n")
    ∷ rows (pcpu_line 63 15 7) (ascii " p 63 15 7\n")
    -- a vCPU of a usage file: domain, vCPU, weight, service
    ∷ rows (usage_line 3 1 256 70) (51 ∷ 32 ∷ 49 ∷ 32 ∷ 50 ∷ 53 ∷ 54 ∷ 32 ∷ 55 ∷ 48 ∷ 10 ∷ [])
    ∷ rows (usage_line 15 7 (2 ^ 32 - 1) (2 ^ 64)) (ascii "15 7 4294967295 18446744073709551616\n")
    ∷ []

pub lines-due : AllDue lines
unfolding ascii digits decimal wide_decimal field fields answer_line answer_put answer_end numbers_line pcpu_line usage_line
lines-due = refl

-- what a word says, and nothing where it says no number
abbrev pub words : List Row
words =
    rows (option_to_list (number_in (ascii "0"))) (0 ∷ [])
    ∷ rows (option_to_list (number_in (ascii "007"))) (7 ∷ [])
    ∷ rows (option_to_list (number_in (ascii "18446744073709551615"))) ((2 ^ 64 - 1) ∷ [])
    -- too large, empty, and bytes that are no digits
    ∷ rows (option_to_list (number_in (ascii "18446744073709551616"))) []
    ∷ rows (option_to_list (number_in (ascii ""))) []
    ∷ rows (option_to_list (number_in (ascii "12a"))) []
    ∷ rows (option_to_list (number_in (ascii "-1"))) []
    ∷ []

pub words-due : AllDue words
unfolding ascii numeral said number_in
words-due = refl
