-- A slot's vCPU id, tested against a count that is held at 8. Assumes nothing.
use Prim.Native.Nat.{ℕ, ◌%◌, ◌<◌, ◌≤◌, min}
use mathlib.Core.Bool.{true, false}
use mathlib.Core.Path.{◌≡◌}
use native.Mathlib.Omega.{arith}
use lib.Dec.{ltb}
use borrow.Author.Tests.{lt-ltb, le-ltb}

pub vcpu-below : (i n : ℕ) → i % 8 < n → ltb (i % 8) (min n 8) ≡ true
vcpu-below i n h = lt-ltb (i % 8) (min n 8) (omega arith)

pub vcpu-beyond : (i n : ℕ) → n ≤ i % 8 → ltb (i % 8) (min n 8) ≡ false
vcpu-beyond i n h = le-ltb (i % 8) (min n 8) (omega arith)
