-- How long the parts of a file are. Assumes nothing.
use Prim.Native.Nat.{ℕ, ◌*◌, ◌<◌, ◌≤◌}
use mathlib.Core.Path.{◌≡◌}
use native.Mathlib.Nat.{mul-le-mul}
use native.Mathlib.Omega.{arith}
use lib.ListN.{length}
use Rattle.usage_layout.specs.Layout.{each, entry}
use Rattle.usage_layout.proofs.Laws.{each-length, entry_length}

-- the first d lines of the table of contents
pub lines-length : (n k d : ℕ) → length (each d (entry n k)) ≡ d * 6
lines-length n k d = each-length d 6 (entry n k) (entry_length n k)

-- at most 15 domains of 8 vCPUs stand before a domain
pub vcpus-before : (d k : ℕ) → d < 16 → k ≤ 8 → d * k ≤ 120
vcpus-before d k h l = let e : d ≤ 15 = omega arith in mul-le-mul e l
