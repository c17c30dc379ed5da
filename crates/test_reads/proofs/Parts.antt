-- The numbers of an array, read one by one before others, are the array before them. Assumes nothing.
use Rattle.std.proofs.Common.{◌≡◌, ℕ, List, [], ◌∷◌, ◌++◌, length, get_or, refl, ap, ◌∙◌, append-nil, arith}

module _ {xs ys : List ℕ} (e : xs ≡ ys) where
  pub two : (l : List ℕ) → length l ≡ 2 → get_or l 0 0 ∷ get_or l 1 0 ∷ xs ≡ l ++ ys
  two [] n = absurd (omega arith)
  two (a ∷ []) n = absurd (omega arith)
  two (a ∷ b ∷ []) n = ap (λ l. a ∷ b ∷ l) e
  two (a ∷ b ∷ c ∷ l) n = absurd (omega arith)

  pub three : (l : List ℕ) → length l ≡ 3 → get_or l 0 0 ∷ get_or l 1 0 ∷ get_or l 2 0 ∷ xs ≡ l ++ ys
  three [] n = absurd (omega arith)
  three (a ∷ l) n = ap (λ l. a ∷ l) (two l (omega arith))

pub last_two : (l : List ℕ) → length l ≡ 2 → get_or l 0 0 ∷ get_or l 1 0 ∷ [] ≡ l
last_two l n = two refl l n ∙ append-nil l

pub last_three : (l : List ℕ) → length l ≡ 3 → get_or l 0 0 ∷ get_or l 1 0 ∷ get_or l 2 0 ∷ [] ≡ l
last_three l n = three refl l n ∙ append-nil l

pub last_four : (l : List ℕ) → length l ≡ 4 → get_or l 0 0 ∷ get_or l 1 0 ∷ get_or l 2 0 ∷ get_or l 3 0 ∷ [] ≡ l
last_four [] n = absurd (omega arith)
last_four (a ∷ l) n = ap (λ l. a ∷ l) (last_three l (omega arith))
