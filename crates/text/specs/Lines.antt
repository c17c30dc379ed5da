-- Numbers as text, and the lines made of them.
use Rattle.std.specs.Prelude.{ℕ, zero, suc, ◌+◌, ◌/◌, ◌%◌, ◌<◌, cond, ◌≡◌, refl, List, [], ◌∷◌, ◌++◌, ltb, length, take, get_or}
use Rattle.std.proofs.Common.{sym, ◌∙◌, ap, append_assoc, append-nil, take-suc}

-- the last of n's decimal digits, at most k of them
unfoldable pub digits : ℕ → ℕ → List ℕ
digits zero n = []
digits (suc k) n = cond (ltb n 10) ((48 + n) ∷ []) (digits k (n / 10) ++ ((48 + n % 10) ∷ []))

-- a 64-bit number in decimal: 20 digits hold any
unfoldable pub decimal : ℕ → List ℕ
decimal n = digits 20 n

-- a 128-bit number in decimal: 39 digits hold any
unfoldable pub wide_decimal : ℕ → List ℕ
wide_decimal n = digits 39 n

-- a number after a space
unfoldable pub field : ℕ → List ℕ
field n = 32 ∷ decimal n

unfoldable pub fields : List ℕ → List ℕ
fields [] = []
fields (n ∷ ns) = field n ++ fields ns

-- what a record is told: its number, the answer, the moves
unfoldable pub answer_line : ℕ → ℕ → ℕ → List ℕ
answer_line number answer moves = decimal number ++ field answer ++ field moves ++ (10 ∷ [])

-- the most bytes that it takes: three numbers of 20 digits, two spaces and the line's end
abbrev pub answer_room : ℕ
answer_room = 63

-- some numbers, as a vCPU's are written
unfoldable pub numbers_line : List ℕ → List ℕ
numbers_line ns = fields ns ++ (10 ∷ [])

-- an occupied pCPU and its holder
unfoldable pub pcpu_line : ℕ → ℕ → ℕ → List ℕ
pcpu_line p d v = (32 ∷ []) ++ (112 ∷ []) ++ field p ++ field d ++ field v ++ (10 ∷ [])

-- what a usage file says of a vCPU: whose it is, its weight and its service
unfoldable pub usage_line : ℕ → ℕ → ℕ → ℕ → List ℕ
usage_line domain vcpu weight service =
    decimal domain ++ field vcpu ++ field weight ++ (32 ∷ []) ++ wide_decimal service ++ (10 ∷ [])

fields-append : (ms ns : List ℕ) → fields (ms ++ ns) ≡ fields ms ++ fields ns
unfolding fields
fields-append [] ns = refl
fields-append (m ∷ ms) ns = ap (λ xs. field m ++ xs) (fields-append ms ns) ∙ sym (append_assoc (field m) (fields ms) (fields ns))

-- one number more
pub fields-more : (ns : List ℕ) (i : ℕ) → i < length ns → fields (take (suc i) ns) ≡ fields (take i ns) ++ field (get_or ns i 0)
unfolding fields
fields-more ns i l =
    ap fields (take-suc ns i 0 l) ∙ fields-append (take i ns) (get_or ns i 0 ∷ [])
    ∙ ap (λ xs. fields (take i ns) ++ xs) (append-nil (field (get_or ns i 0)))
