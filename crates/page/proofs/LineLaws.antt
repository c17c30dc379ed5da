-- Lines, and how they are put into a stretch of bytes, are the page's, for all numbers. Assumes nothing.
use Prim.Native.Nat.{ℕ, ◌+◌}
use mathlib.Core.Bool.{cond}
use mathlib.Core.List.{List, [], ◌∷◌, ◌++◌, append_assoc}
use mathlib.Core.Path.{◌≡◌, refl, ◌∙◌, ap, ap₂}
use lib.Dec.{leb}
use lib.ListN.{length, take}
use Rattle.service.specs.Service.{value}
use Rattle.text.specs.Lines as lines
use Rattle.text.specs.Places as places
use Rattle.text.specs.AnswerPlaces as answers
use Rattle.page.specs.Policy.{number}
use Rattle.page.specs.Numbers.{decimal, wide_decimal}
use Rattle.page.specs.Lines as page
use Rattle.page.specs.Lines.{spaced}
use Rattle.page.proofs.Standing.{number_is}
use Rattle.page.proofs.NumberLaws.{digits_are}

decimal-is : (n : ℕ) → lines.decimal n ≡ decimal n
unfolding lines.decimal
decimal-is n = digits_are 20 n

spaced-is : (n : ℕ) → lines.field n ≡ spaced n
unfolding lines.field
spaced-is n = ap (λ (l : List ℕ). 32 ∷ l) (decimal-is n)

pub answer-line-is : (n a m : ℕ) → lines.answer_line n a m ≡ page.answer_line n a m
unfolding lines.answer_line page.answer_line
answer-line-is n a m = rw (decimal-is n, spaced-is a, spaced-is m)

pub numbers-line-is : (ns : List ℕ) → lines.numbers_line ns ≡ page.numbers_line ns
unfolding lines.numbers_line lines.fields page.numbers_line
numbers-line-is [] = refl
numbers-line-is (n ∷ ns) =
    append_assoc (lines.field n) (lines.fields ns) (10 ∷ []) ∙ ap₂ ◌++◌ (spaced-is n) (numbers-line-is ns)

pub pcpu-line-is : (p d v : ℕ) → lines.pcpu_line p d v ≡ page.pcpu_line p d v
unfolding lines.pcpu_line page.pcpu_line
pcpu-line-is p d v = rw (spaced-is p, spaced-is d, spaced-is v)

pub usage-line-is : (d v w s : ℕ) → lines.usage_line d v w s ≡ page.usage_line d v w s
unfolding lines.usage_line lines.wide_decimal page.usage_line
usage-line-is d v w s =
    rw (decimal-is d, spaced-is v, spaced-is w, digits_are 39 s)
    (ap (λ (l : List ℕ). l ++ (10 ∷ [])) (append_assoc (decimal d ++ spaced v ++ spaced w) (32 ∷ []) (wide_decimal s)))

-- of a service in limbs
pub usage-line-of : (d v w : ℕ) (s : List ℕ) → lines.usage_line d v w (value s) ≡ page.usage_line d v w (number s)
usage-line-of d v w s = usage-line-is d v w (value s) ∙ ap (page.usage_line d v w) (number_is s)

-- what the functions of lines hand back
pub numbers-line-made : (ns : List ℕ) → places.line_of (lines.numbers_line (take 9 ns))
    ≡ page.line_of (page.numbers_line (take 9 ns))
numbers-line-made ns = ap page.line_of (numbers-line-is (take 9 ns))

pub pcpu-line-made : (p d v : ℕ) → places.line_of (lines.pcpu_line p d v) ≡ page.line_of (page.pcpu_line p d v)
pcpu-line-made p d v = ap page.line_of (pcpu-line-is p d v)

pub usage-line-made : (d v w : ℕ) (s : List ℕ)
    → places.line_of (lines.usage_line d v w (value s)) ≡ page.line_of (page.usage_line d v w (number s))
usage-line-made d v w s = ap page.line_of (usage-line-of d v w s)

pub put-answer-is : (out : List ℕ) (at n a m : ℕ) → answers.answer_put out at n a m ≡ page.put_answer out at n a m
unfolding answers.answer_put
put-answer-is out at n a m =
    ap (λ (l : List ℕ). cond (leb (at + 63) (length out)) (page.put out at l) out) (answer-line-is n a m)

pub past-answer-is : (out : List ℕ) (at n a m : ℕ) → answers.answer_end out at n a m ≡ page.past_answer out at n a m
unfolding answers.answer_end
past-answer-is out at n a m =
    ap (λ (l : List ℕ). cond (leb (at + 63) (length out)) (at + length l) at) (answer-line-is n a m)
