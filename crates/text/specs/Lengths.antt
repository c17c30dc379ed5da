-- How long a line can be. Assumes nothing.
use Rattle.std.specs.Prelude.{ℕ, zero, suc, ◌+◌, ◌*◌, ◌/◌, ◌%◌, ◌≤◌, Bool, true, false, cond, List, [], ◌∷◌, ◌++◌, ltb, length}
use Rattle.std.proofs.Common.{arith, length-append}
use Rattle.text.specs.Lines.{digits, decimal, wide_decimal, field, fields, answer_line, answer_room, numbers_line, pcpu_line, usage_line}

digits-short : (f n : ℕ) → length (digits f n) ≤ f
unfolding digits
digits-short zero n = omega arith
digits-short (suc f) n = go (ltb n 10) (digits-short f (n / 10))
  where
    go : (b : Bool) → length (digits f (n / 10)) ≤ f
        → length (cond b ((48 + n) ∷ []) (digits f (n / 10) ++ ((48 + n % 10) ∷ []))) ≤ suc f
    go true l = omega arith
    go false l = omega (arith, length-append (digits f (n / 10)) ((48 + n % 10) ∷ []))

pub decimal-short : (n : ℕ) → length (decimal n) ≤ 20
unfolding decimal
decimal-short n = digits-short 20 n

wide-decimal-short : (n : ℕ) → length (wide_decimal n) ≤ 39
unfolding wide_decimal
wide-decimal-short n = digits-short 39 n

pub field-short : (n : ℕ) → length (field n) ≤ 21
unfolding field
field-short n = omega (arith, decimal-short n)

fields-short : (ns : List ℕ) → length (fields ns) ≤ length ns * 21
unfolding fields
fields-short [] = omega arith
fields-short (n ∷ ns) = omega (arith, length-append (field n) (fields ns), field-short n, fields-short ns)

-- text longer by u than one of at most k
longer : (t u : List ℕ) (k l : ℕ) → length t ≤ k → length u ≤ l → length (t ++ u) ≤ k + l
longer t u k l a b = omega (arith, length-append t u)

ended : (t : List ℕ) (k : ℕ) → length t ≤ k → length (t ++ (10 ∷ [])) ≤ k + 1
ended t k a = longer t (10 ∷ []) k 1 a (omega arith)

pub answer-line-short : (n a m : ℕ) → length (answer_line n a m) ≤ answer_room
unfolding answer_line
answer-line-short n a m =
    let numbered = longer (decimal n) (field a) 20 21 (decimal-short n) (field-short a) in
    ended (decimal n ++ field a ++ field m) 62 (longer (decimal n ++ field a) (field m) 41 21 numbered (field-short m))

pub numbers-line-short : (ns : List ℕ) → length (numbers_line ns) ≤ length ns * 21 + 1
unfolding numbers_line
numbers-line-short ns = ended (fields ns) (length ns * 21) (fields-short ns)

pub pcpu-line-short : (p d v : ℕ) → length (pcpu_line p d v) ≤ 66
unfolding pcpu_line
pcpu-line-short p d v =
    let mark : List ℕ = 32 ∷ 112 ∷ [] in
    let a = longer mark (field p) 2 21 (omega arith) (field-short p) in
    let b = longer (mark ++ field p) (field d) 23 21 a (field-short d) in
    ended (mark ++ field p ++ field d ++ field v) 65 (longer (mark ++ field p ++ field d) (field v) 44 21 b (field-short v))

pub usage-line-short : (d v w s : ℕ) → length (usage_line d v w s) ≤ 103
unfolding usage_line
usage-line-short d v w s =
    let a = longer (decimal d) (field v) 20 21 (decimal-short d) (field-short v) in
    let b = longer (decimal d ++ field v) (field w) 41 21 a (field-short w) in
    let c = longer (decimal d ++ field v ++ field w) (32 ∷ []) 62 1 b (omega arith) in
    ended (decimal d ++ field v ++ field w ++ (32 ∷ []) ++ wide_decimal s) 102
    (longer (decimal d ++ field v ++ field w ++ (32 ∷ [])) (wide_decimal s) 63 39 c (wide-decimal-short s))
