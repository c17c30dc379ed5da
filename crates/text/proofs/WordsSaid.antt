-- The number of a word, byte by byte. Assumes nothing.
use Rattle.std.proofs.Common.{◌≡◌, ℕ, suc, ◌+◌, ◌*◌, ◌-◌, ◌^◌, ◌≤◌, ◌<◌, true, false, cond, eqb, ◌&&◌, List, [], ◌∷◌, ltb, length, get_or, drop, refl, sym, ◌∙◌, ap, drop-cons, arith, lt-ltb, le-ltb, le-leb, Option, None, Some}
use Rattle.std.proofs.Math.Bool.{and-false}
use Rattle.std.specs.Char.{is_ascii_digit}
use Rattle.std.proofs.lemmas.Bool.{eqb-true, eqb-false}
use Rattle.text.specs.Numerals.{numeral, said, number_in}

-- the number of a word whose bytes up to bs are digits that said m
abbrev pub from : ℕ → List ℕ → Option ℕ
from m bs = cond (numeral bs && ltb (said m bs) (2 ^ 64)) (Some (said m bs)) None

pub empty : (w : List ℕ) → true ≡ eqb (length w) 0 → None ≡ number_in w
unfolding number_in
empty w e = let none : length w ≡ 0 = eqb-true (length w) 0 (sym e) in rw none refl

pub start : (w : List ℕ) → false ≡ eqb (length w) 0 → number_in w ≡ from 0 w
unfolding number_in
start w e = rw (lt-ltb 0 (length w) (omega (arith, eqb-false (length w) 0 (sym e)))) refl

pub other : (m b : ℕ) (bs : List ℕ) → false ≡ is_ascii_digit b → from m (b ∷ bs) ≡ None
unfolding numeral
other m b bs e = ap (λ t. cond (t && numeral bs && ltb (said m (b ∷ bs)) (2 ^ 64)) (Some (said m (b ∷ bs))) None) (sym e)

said-least : (m : ℕ) (bs : List ℕ) → m ≤ said m bs
unfolding said
said-least m [] = omega arith
said-least m (b ∷ bs) = omega (arith, said-least (m * 10 + (b - 48)) bs)

pub large : (m b : ℕ) (bs : List ℕ) → 2 ^ 64 ≤ m * 10 + (b - 48) → from m (b ∷ bs) ≡ None
unfolding said
large m b bs l = rw (le-ltb (said m (b ∷ bs)) (2 ^ 64) (omega (arith, said-least (m * 10 + (b - 48)) bs)), and-false)

pub more : (m b : ℕ) (bs : List ℕ) → 48 ≤ b → b ≤ 57 → from m (b ∷ bs) ≡ from (m * 10 + (b - 48)) bs
unfolding numeral said
more m b bs l h = rw (le-leb 48 b l, le-leb b 57 h)

pub last : (m : ℕ) → m < 2 ^ 64 → from m [] ≡ Some m
unfolding numeral said
last m l = rw (lt-ltb m (2 ^ 64) l)

-- the byte at i, and those after it
pub next : (w : List ℕ) (m i : ℕ) → i < length w → number_in w ≡ from m (drop i w) → number_in w ≡ from m (get_or w i 0 ∷ drop (suc i) w)
next w m i l e = e ∙ ap (from m) (drop-cons w i 0 l)
