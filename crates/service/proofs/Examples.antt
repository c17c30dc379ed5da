-- The definitions compute at numbers of 128 bits. Assumes nothing.
use mathlib.Core.Path.{◌≡◌, refl}
use mathlib.Core.Bool.{true, false}
use mathlib.Core.List.{List, [], ◌∷◌}
use Prim.Native.Nat.{ℕ, ◌+◌, ◌*◌, ◌/◌, ◌-◌, ◌^◌, max}
use lib.Dec.{ltb}
use Rattle.service.specs.Service.{value, held, more_deserving}

abbrev top : List ℕ
top = 0xffff_ffff ∷ 0xffff_ffff ∷ 0xffff_ffff ∷ 0xffff_ffff ∷ []

-- a sum stops at the top
sum-stops : held (value top + value (1 ∷ 0 ∷ 0 ∷ 0 ∷ [])) ≡ top
unfolding held value
sum-stops = refl

-- a product grows into the next limbs
product-grows : held (value (0xffff_ffff ∷ 0xffff_ffff ∷ 0 ∷ 0 ∷ []) * 0xffff_ffff) ≡ 1 ∷ 0xffff_ffff ∷ 0xffff_fffe ∷ 0 ∷ []
unfolding held value
product-grows = refl

-- a weight of 0 divides as 1 does
divided_by-zero : held (value top / max 0 1) ≡ top
unfolding held value
divided_by-zero = refl

-- a difference stops at 0
difference-stops : held (value (5 ∷ 0 ∷ 0 ∷ 0 ∷ []) - value (0 ∷ 1 ∷ 0 ∷ 0 ∷ [])) ≡ 0 ∷ 0 ∷ 0 ∷ 0 ∷ []
unfolding held value
difference-stops = refl

-- 10 over weight 2 and 5 over weight 1: neither is more deserving
even : more_deserving 10 2 5 1 ≡ false
unfolding more_deserving
even = refl

even_too : more_deserving 5 1 10 2 ≡ false
unfolding more_deserving
even_too = refl

-- 2 ^ 100 and 2 ^ 101 at weight 2 ^ 30 tie where their products are held
held_tie : more_deserving (2 ^ 100) (2 ^ 30) (2 ^ 101) (2 ^ 30) ≡ false
unfolding more_deserving
held_tie = refl

-- though the exact order is strict
exact_order : ltb (2 ^ 100 * 2 ^ 30) (2 ^ 101 * 2 ^ 30) ≡ true
exact_order = refl
