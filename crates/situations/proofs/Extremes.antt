-- What `demand_3` is about at its ends: the largest host, the smallest, a policy of another shape, every call at its
-- largest numbers, clocks that stand still and clocks that run back. A narrower statement would not give these.
-- Assumes nothing.
use Prim.Native.Nat.{ℕ, ◌-◌, ◌^◌}
use mathlib.Core.Bool.{true, false}
use mathlib.Core.List.{List, [], ◌∷◌, ◌++◌}
use native.Mathlib.Omega.{arith}
use borrow.Author.Rules.{rules}
use Rattle.calls.specs.declared.Call.{Call}
use Rattle.calls.specs.Asked as call
use Rattle.demand3.specs.Book.{Shape}
use Rattle.demand3.specs.Lists.{AllTyped}
use Rattle.demand3.specs.Fresh.{Sized, Fresh}
use Rattle.demand3.specs.Demand3.{Demand-3}
use Rattle.demand3.proofs.Laws.{demand_3}

-- every call with the largest numbers of its types, the boost both ways, and two advances at one clock
abbrev pub largest-numbers : List Call
largest-numbers =
    call.admit (2 ^ 16 - 1) (2 ^ 32 - 1) ∷ call.run (2 ^ 16 - 1) (2 ^ 32 - 1) (2 ^ 32 - 1) (2 ^ 64 - 1)
    ∷ call.preempt (2 ^ 16 - 1) (2 ^ 32 - 1) (2 ^ 64 - 1) ∷ call.block (2 ^ 16 - 1) (2 ^ 32 - 1) (2 ^ 64 - 1)
    ∷ call.wake (2 ^ 16 - 1) (2 ^ 32 - 1) ∷ call.offline (2 ^ 16 - 1) (2 ^ 32 - 1) (2 ^ 64 - 1)
    ∷ Call.OfflineAll (2 ^ 16 - 1) (2 ^ 64 - 1) ∷ call.set_affinity (2 ^ 16 - 1) (2 ^ 32 - 1) (2 ^ 64 - 1)
    ∷ Call.SetWeight (2 ^ 16 - 1) (2 ^ 32 - 1) (2 ^ 32 - 1) ∷ Call.SetWakeBoost false ∷ Call.SetWakeBoost true
    ∷ Call.Advance (2 ^ 64 - 1) ∷ Call.Advance (2 ^ 64 - 1) ∷ []

-- every call of the last vCPU of the largest host, at clocks that run back and forth over their range, so that each does something
abbrev pub last-vcpu : List Call
last-vcpu =
    call.admit 15 7 ∷ call.run 15 7 63 (2 ^ 64 - 1) ∷ call.preempt 15 7 0 ∷ Call.Advance 0 ∷ call.block 15 7 (2 ^ 64 - 1)
    ∷ call.wake 15 7 ∷ call.set_affinity 15 7 (2 ^ 64 - 1) ∷ Call.SetWeight 15 7 (2 ^ 32 - 1) ∷ Call.SetWakeBoost false
    ∷ Call.Advance (2 ^ 64 - 1) ∷ Call.Advance 0 ∷ call.offline 15 7 (2 ^ 64 - 1) ∷ call.admit 15 7 ∷ Call.SetWakeBoost true
    ∷ Call.Advance 5 ∷ Call.Advance 5 ∷ Call.OfflineAll 15 (2 ^ 64 - 1) ∷ []

-- lists whose calls fit their types, one after the other
pub typed-both : (xs ys : List Call) → AllTyped xs → AllTyped ys → AllTyped (xs ++ ys)
typed-both [] ys f g = g
typed-both (x ∷ xs) ys f g = (f.0, typed-both xs ys f.1 g)

abbrev pub every_call : List Call
every_call = largest-numbers ++ last-vcpu

-- 16 domains of 8 vCPUs on 64 pCPUs, with a policy of any shape and any slice
abbrev pub largest-shape : Shape
largest-shape = record { domains = 16; vcpus = 8; pcpus = 64 }

pub sizes : Sized largest-shape
sizes = record { domains = omega arith; vcpus = omega arith; pcpus = omega arith }

abbrev pub largest-host : ℕ → ℕ → ℕ → Fresh
largest-host e u q = record { shape = largest-shape; domains = e; vcpus = u; slice = q; sized = sizes }

pub largest : (e u q : ℕ) → Demand-3 (largest-host e u q) every_call
largest e u q =
    demand_3 (largest-host e u q) every_call (typed-both largest-numbers last-vcpu (search rules) (search rules))

-- the largest policy beside a system of one vCPU
abbrev one : Fresh
one =
    record {
      shape = record { domains = 1; vcpus = 1; pcpus = 1 };
      domains = 16;
      vcpus = 8;
      slice = 1;
      sized = record { domains = omega arith; vcpus = omega arith; pcpus = omega arith };
    }

pub larger_policy : Demand-3 one largest-numbers
larger_policy = demand_3 one largest-numbers (search rules)

-- a host of nothing, slice 0
abbrev none : Fresh
none =
    record {
      shape = record { domains = 0; vcpus = 0; pcpus = 0 };
      domains = 0;
      vcpus = 0;
      slice = 0;
      sized = record { domains = omega arith; vcpus = omega arith; pcpus = omega arith };
    }

pub nothing : Demand-3 none largest-numbers
nothing = demand_3 none largest-numbers (search rules)
