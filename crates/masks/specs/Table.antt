-- A table that lists the values of a function, and what stands at each place of it. Assumes nothing.
use Rattle.std.specs.Prelude.{◌≡◌, refl, List, [], ◌∷◌, ℕ, zero, suc, ◌<◌, get_or}
use Rattle.std.proofs.Common.{le_of_suc-le-suc, not-suc-le-zero}

-- f 0, f 1 and so on, n of them
abbrev pub listed : (ℕ → ℕ) → ℕ → List ℕ
listed f zero = []
listed f (suc n) = f zero ∷ listed (λ k. f (suc k)) n

pub entry : (f : ℕ → ℕ) (n k : ℕ) → k < n → get_or (listed f n) k 0 ≡ f k
entry f zero k h = absurd (not-suc-le-zero h)
entry f (suc n) zero h = refl
entry f (suc n) (suc k) h = entry (λ j. f (suc j)) n k (le_of_suc-le-suc h)
