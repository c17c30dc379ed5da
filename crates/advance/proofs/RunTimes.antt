-- The run times of a system that the code holds are words. Assumes nothing.
use Prim.Native.Nat.{ℕ, zero, suc, ◌^◌, ◌<◌}
use mathlib.Core.List.{List, [], ◌∷◌}
use native.Mathlib.Omega.{arith}
use lib.ListN.{get_or}
use mir.Val.{Val}
use denote.Shadow.{shadow}
use denote.Array.{each}
use Rattle.system.specs.declared.VirtualCpu.{VirtualCpu}
use Rattle.system.specs.Shape.{no_vcpu}
use Rattle.system.specs.contracts.VirtualCpu as one

-- of a table of vCPUs: each is one of the code's
pub run-times : (vs : List VirtualCpu) (us : List Val)
    → shadow (each (one.the_row).Denot (one.the_row).own_val vs us)
    → (i : ℕ) → (get_or vs i no_vcpu).runtime < 2 ^ 64
run-times [] us s i = omega arith
run-times (v ∷ vs) [] s i = absurd s
run-times (v ∷ vs) (u ∷ us) s zero = s.0.1.1.1.0.1
run-times (v ∷ vs) (u ∷ us) s (suc i) = run-times vs us s.1 i
