-- `all` over the numbers below n tells whether each of them passes. Assumes nothing.
use Rattle.std.proofs.Common.{ℕ, zero, suc, ◌+◌, Bool, ◌&&◌, List, [], ◌∷◌, ◌++◌, ◌≡◌, refl, ap, ap₂, ◌∙◌, arith}
use mathlib.Core.Bool.{and-true}
use Rattle.std.specs.List.{range_with_len, list_all}
use Rattle.std.proofs.lemmas.List.Folds.{list_all-append}
use Rattle.usage_layout.specs.Reading.{all}

range-more : (a n : ℕ) → range_with_len a (suc n) ≡ range_with_len a n ++ (a + n) ∷ []
range-more a zero = ap (λ (x : ℕ). x ∷ []) (omega arith)
range-more a (suc n) =
    let end : a + 1 + n ≡ a + suc n = omega arith in
    ap (λ (l : List ℕ). a ∷ l) (range-more (a + 1) n ∙ ap (λ (x : ℕ). range_with_len (a + 1) n ++ x ∷ []) end)

pub all-below : (n : ℕ) (passes : ℕ → Bool) → list_all passes (range_with_len 0 n) ≡ all n passes
unfolding all
all-below zero passes = refl
all-below (suc n) passes =
    ap (list_all passes) (range-more 0 n) ∙ list_all-append passes (range_with_len 0 n) ((0 + n) ∷ [])
    ∙ ap₂ (λ (s t : Bool). s && t) (all-below n passes) (and-true (passes (0 + n)) ∙ ap passes (omega arith))
