-- Stores of the bytes of a number, and a run of stores right behind another. Assumes nothing.
use Rattle.std.specs.Prelude.{◌≡◌, List, [], ◌∷◌, ◌++◌, ℕ, suc, ◌+◌, length, get_or, set}
use Rattle.std.proofs.Common.{ap, ◌∙◌, add-zero, suc-add, add-suc}
use Rattle.std.proofs.Math.Numerals.{towards_suc}
use Rattle.std.proofs.lemmas.List.Edits.{sets}
use Rattle.big_endian.specs.Numbers.{bytes}

-- two stores, and four, are the run of a number's bytes
pub stored-half : (l : List ℕ) (at n : ℕ) {b : List ℕ} → b ≡ bytes 2 n
    → set (set l at (get_or b 0 0)) (at + 1) (get_or b 1 0) ≡ sets l at (bytes 2 n)
unfolding bytes
stored-half l at n e = rw e (simp towards_suc)

pub stored-word : (l : List ℕ) (at n : ℕ) {b : List ℕ} → b ≡ bytes 4 n
    → set (set (set (set l at (get_or b 0 0)) (at + 1) (get_or b 1 0)) (at + 2) (get_or b 2 0)) (at + 3) (get_or b 3 0)
    ≡ sets l at (bytes 4 n)
unfolding bytes
stored-word l at n e = rw e (simp towards_suc)

sets-append : (l : List ℕ) (i : ℕ) (a b : List ℕ) → sets (sets l i a) (i + length a) b ≡ sets l i (a ++ b)
sets-append l i [] b = rw add-zero
sets-append l i (x ∷ a) b = rw (add-suc, ← suc-add) (sets-append _ (suc i) a b)

-- a run of stores right behind another is one run
pub stored-behind : (l : List ℕ) (i : ℕ) (a b : List ℕ) {x y : List ℕ} {j : ℕ} → x ≡ sets l i a → y ≡ sets x j b → i + length a ≡ j
    → y ≡ sets l i (a ++ b)
stored-behind l i a b {x} {y} {j} e f h =
    f ∙ ap (λ (z : List ℕ). sets z j b) e ∙ rw (← h) (sets-append l i a b)
