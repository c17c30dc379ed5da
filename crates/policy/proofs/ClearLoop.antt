-- The turns of `set_wake_boost`: after i of them the first i offsets are cleared. Assumes nothing.
use Prim.Native.Nat.{ℕ, zero, suc, ◌<◌}
use mathlib.Core.Path.{◌≡◌, refl, sym, ap}
use mathlib.Core.List.{List, [], ◌∷◌, map}
use native.Mathlib.Omega.{arith}
use lib.ListN.{length, get_or, set}
use Rattle.policy.specs.declared.Account.{Account}
use Rattle.policy.specs.Accounts.{unboosted}

-- the first i offsets cleared
unfoldable pub clear_first : List Account → ℕ → List Account
clear_first [] i = []
clear_first (a ∷ l) zero = a ∷ l
clear_first (a ∷ l) (suc i) = unboosted a ∷ clear_first l i

pub clear_none : (l : List Account) → clear_first l 0 ≡ l
unfolding clear_first
clear_none [] = refl
clear_none (a ∷ l) = refl

pub clear_all : (l : List Account) → clear_first l (length l) ≡ map unboosted l
unfolding clear_first
clear_all [] = refl
clear_all (a ∷ l) = ap (λ (t : List Account). unboosted a ∷ t) (clear_all l)

pub clear_next : (l : List Account) (i : ℕ) (d : Account) → i < length l
    → set (clear_first l i) i (unboosted (get_or (clear_first l i) i d)) ≡ clear_first l (suc i)
unfolding clear_first
clear_next [] i d h = absurd (omega arith)
clear_next (a ∷ l) zero d h = ap (λ (t : List Account). unboosted a ∷ t) (sym (clear_none l))
clear_next (a ∷ l) (suc i) d h = ap (λ (t : List Account). unboosted a ∷ t) (clear_next l i d (omega arith))
