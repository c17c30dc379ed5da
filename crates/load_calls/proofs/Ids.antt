-- Ids by remainder, and the ids of a call. Assumes nothing.
use Prim.Native.Nat.{ℕ, ◌%◌, ◌<◌, ◌≤◌}
use mathlib.Core.Path.{◌≡◌}
use native.Mathlib.Nat.{mod-lt, zero-mod}
use native.Mathlib.Decide.{ℕ_discrete}
use native.Mathlib.Omega.{arith}
use borrow.Author.Tests.{ne_eqb}
use Rattle.load_calls.specs.Calls.{id_of, called}

-- there is none to draw
pub id-none : (n count : ℕ) → count ≡ 0 → id_of n count ≡ 0
id-none n count none = rw none

pub id-remainder : (n count : ℕ) → 0 < count → id_of n count ≡ n % count
id-remainder n count some = rw (ne_eqb count 0 (λ e. omega arith))

pub id_below : (n count : ℕ) → 0 < count → id_of n count < count
id_below n count some = rw (id-remainder n count some) (mod-lt n some)

pub id-within : (n count : ℕ) → id_of n count ≤ count
id-within n count = go (ℕ_discrete count 0)
  where
    go : Dec (count ≡ 0) → id_of n count ≤ count
    go (yes none) = omega (arith, id-none n count none)
    go (no some) = omega (arith, id_below n count (omega arith))

-- what is not drawn names none
pub id_undrawn : (count : ℕ) → id_of 0 count ≡ 0
id_undrawn count = go (ℕ_discrete count 0)
  where
    go : Dec (count ≡ 0) → id_of 0 count ≡ 0
    go (yes none) = id-none 0 count none
    go (no some) = rw (id-remainder 0 count (omega arith)) (zero-mod count)

module _ (d v x t : ℕ) where
  pub dom-below : 0 < d → (called d v x t).call.dom < d
  unfolding called
  dom-below = id_below _ d

  pub dom-none : d ≡ 0 → (called d v x t).call.dom ≡ 0
  unfolding called
  dom-none = id-none _ d

  pub vcpu-below : 0 < v → (called d v x t).call.vcpu < v
  unfolding called
  vcpu-below = id_below _ v

  pub vcpu-none : v ≡ 0 → (called d v x t).call.vcpu ≡ 0
  unfolding called
  vcpu-none = id-none _ v
