-- The most moves of an advance fit a word. Assumes nothing.
use Prim.Native.Nat.{ℕ, ◌*◌, ◌≤◌}
use native.Mathlib.Nat.{mul-le-mul}
use native.Mathlib.Omega.{arith}
use Rattle.system.specs.declared.System.{System}
use Rattle.system.specs.Slots.{domains, vcpus}
use Rattle.rules.specs.Settle.{limit}

pub product_small : (a b : ℕ) → a ≤ 16 → b ≤ 8 → a * b ≤ 128
product_small a b h k = mul-le-mul h k

pub limit-small : (s : System) → limit s ≤ 257
limit-small s = omega (arith, product_small (domains s) (vcpus s) (omega arith) (omega arith))
