-- A run time never falls. Assumes nothing.
use Prim.Native.Nat.{ℕ, ◌^◌, ◌≤◌, ◌<◌}
use mathlib.Core.Path.{◌≡◌, ap}
use native.Mathlib.Omega.{arith}
use native.Mathlib.Decide.{ℕ_discrete}
use Rattle.system.specs.declared.VirtualCpu.{VirtualCpu}
use Rattle.std.specs.Prelude.{Result}
use Rattle.system.specs.declared.Answer.{Answer}
use Rattle.system.specs.declared.Occupant.{Occupant}
use Rattle.system.specs.declared.System.{System}
use Rattle.system.specs.Answers.{SystemOutcome}
use Rattle.system.specs.Writes.{Tables, Wrote}
use Rattle.system.specs.Reads.{runtime_at}
use Rattle.changes.specs.declared.Change.{Change}
use Rattle.sched.proofs.Legal.{Legal, stays, keeps, busy, goes_on, goes_off}
use Rattle.sched.specs.Invariants.{Grows}

pub same-times : {s : System} → ((j : ℕ) → runtime_at s j < 2 ^ 64) → Grows s s
same-times w = record { time = λ j. omega arith; word = w }

module _ {s : System} {i : ℕ} (t : Tables s) (w : (j : ℕ) → runtime_at s j < 2 ^ 64) where
  wrote-grows : {s' : System} {v : VirtualCpu} {p : ℕ} {o : Occupant} → Wrote s s' i v p o → runtime_at s i ≤ v.runtime → v.runtime < 2 ^ 64 → Grows s s'
  wrote-grows {s'} {v} k l m = record { time = λ j. time' j (ℕ_discrete j i); word = λ j. word' j (ℕ_discrete j i) }
    where
      here : runtime_at s' i ≡ v.runtime
      here = ap (λ (x : VirtualCpu). x.runtime) k.here

      time' : (j : ℕ) → Dec (j ≡ i) → runtime_at s j ≤ runtime_at s' j
      time' j (yes e) = rw e (omega (arith, here))
      time' j (no n) = omega (arith, ap (λ (x : VirtualCpu). x.runtime) (k.there j n))

      word' : (j : ℕ) → Dec (j ≡ i) → runtime_at s' j < 2 ^ 64
      word' j (yes e) = rw e (omega (arith, here))
      word' j (no n) = omega (arith, ap (λ (x : VirtualCpu). x.runtime) (k.there j n), w j)

  pub grows : {c : Result Change Answer} {r : SystemOutcome} → Legal s i c r → Grows s r.system
  grows (stays a) = same-times w
  grows (keeps k wr) = wrote-grows (wr t) (omega (arith, k.time)) (omega (arith, k.time, w i))
  grows (busy l e) = same-times w
  grows (goes_on c o wr) = wrote-grows (wr t) (omega (arith, o.time)) (omega (arith, o.time, w i))
  grows (goes_off now on k wr) = wrote-grows (wr t) (omega (arith, k.time, w i)) (omega (arith, k.time))
