-- A quotient and a difference that are held at each step are held once. Assumes nothing.
use Prim.Native.Nat.{ℕ, ◌-◌, ◌*◌, ◌/◌, ◌^◌, ◌≤◌, min, max}
use mathlib.Core.Path.{◌≡◌, ap}
use native.Mathlib.Omega.{arith}
use native.Mathlib.Nat.{div-le_self}
use Rattle.service.specs.Service.{value, held}
use Rattle.service.specs.Laws.{value-held}
use Rattle.policy.specs.Accounting.{lift}

-- m stands for the largest number of 128 bits
held-part : (q m r : ℕ) → q ≤ m → min q m - min r m ≡ q - r
held-part q m r l = omega arith

pub lifts : (t w v r : ℕ) → held (value (held (value (held (t * v)) / max w 1)) - value (held r)) ≡ held (lift t (max w 1) v r)
lifts t w v r =
    rw (value-held (t * v), value-held r, value-held (min (t * v) (2 ^ 128 - 1) / max w 1))
    (ap held (held-part (min (t * v) (2 ^ 128 - 1) / max w 1) (2 ^ 128 - 1) r (below (t * v) (max w 1) (2 ^ 128 - 1))))
  where
    below : (x w m : ℕ) → min x m / w ≤ m
    below x w m = let h = div-le_self (min x m) w in omega arith
