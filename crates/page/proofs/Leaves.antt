-- Masks and wide service are the page's, for any numbers. Assumes nothing.
use Prim.Native.Nat.{ℕ, ◌+◌, ◌-◌, ◌*◌, ◌/◌, max}
use mathlib.Core.List.{List}
use mathlib.Core.Path.{◌≡◌, refl, sym, ◌∙◌, ap, ap₂}
use lib.Dec.{ltb}
use Rattle.masks.specs.Masks as masks
use Rattle.service.specs.Service.{value, held, more_deserving}
use Rattle.service.specs.Laws.{value-held}
use Rattle.page.specs.Page.{number, four, hold}
use Rattle.page.specs.Leaves as leaves
use Rattle.page.proofs.Standing.{number_is, four_is}
use Rattle.page.proofs.Next.{first-is}

pub lowest-is : (set : ℕ) → masks.lowest set ≡ leaves.lowest_pcpu set
lowest-is set = first-is _ _ 64 (λ p. refl)

-- of one service, and of two, whatever is then made of them
by_number : (f : ℕ → ℕ) (a : List ℕ) → held (f (value a)) ≡ four (hold (f (number a)))
by_number f a = four_is (f (value a)) ∙ ap (λ (n : ℕ). four (hold (f n))) (number_is a)

by-numbers : (f : ℕ → ℕ → ℕ) (a b : List ℕ) → held (f (value a) (value b)) ≡ four (hold (f (number a) (number b)))
by-numbers f a b = four_is (f (value a) (value b)) ∙ ap₂ (λ (n m : ℕ). four (hold (f n m))) (number_is a) (number_is b)

pub sum_is : (a b : List ℕ) → held (value a + value b) ≡ leaves.sum a b
sum_is = by-numbers ◌+◌

pub difference-is : (a b : List ℕ) → held (value a - value b) ≡ leaves.difference a b
difference-is = by-numbers ◌-◌

pub product_is : (a : List ℕ) (w : ℕ) → held (value a * w) ≡ leaves.product a w
product_is a w = by_number (λ n. n * w) a

pub quotient_is : (a : List ℕ) (w : ℕ) → held (value a / max w 1) ≡ leaves.quotient a w
quotient_is a w = by_number (λ n. n / max w 1) a

pub less-is : (a b : List ℕ) → ltb (value a) (value b) ≡ leaves.less a b
less-is a b = ap₂ ltb (number_is a) (number_is b)

pub more-deserving-is : (a : List ℕ) (w : ℕ) (b : List ℕ) (v : ℕ)
    → more_deserving (value a) w (value b) v ≡ leaves.more_deserving a w b v
unfolding more_deserving
more-deserving-is a w b v = ap₂ (λ (n m : ℕ). more_deserving n w m v) (number_is a) (number_is b)

-- what is held whole is its own limbs
pub whole_is : (l : List ℕ) (n m : ℕ) → l ≡ held n → value l ≡ n → n ≡ m → (l ≡ four m) × (number l ≡ m)
whole_is l n m is whole e =
    let uncut = sym (value-held n) ∙ (ap value (sym is) ∙ whole) in
    (is ∙ (four_is n ∙ ap four (uncut ∙ e)), sym (number_is l) ∙ (whole ∙ e))
