-- A domain has at most eight vCPUs. Assumes nothing.
use Prim.Native.Nat.{ℕ, ◌≤◌}
use mathlib.Core.Bool.{Bool, true, false, cond}
use native.Mathlib.Omega.{arith}
use lib.Dec.{ltb}
use Rattle.system.specs.declared.System.{System}
use Rattle.system.specs.Reads.{vcpu_count}
use Rattle.system.specs.Slots.{domains, vcpus}

pub few : (s : System) (d : ℕ) → vcpu_count s d ≤ 8
few s d = go (ltb d (domains s))
  where
    go : (b : Bool) → cond b (vcpus s) 0 ≤ 8
    go true = omega arith
    go false = omega arith
