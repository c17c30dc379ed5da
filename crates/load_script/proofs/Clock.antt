-- The clock of a load never runs back, and its generator is never at 0. Assumes nothing.
use mathlib.Core.Path.{◌≡◌}
use Prim.Native.Nat.{ℕ, zero, suc, ◌+◌, ◌*◌, ◌-◌, ◌≤◌, ◌<◌}
use native.Mathlib.Nat.{add-zero, add-suc}
use native.Mathlib.Omega.{arith}
use Rattle.load_calls.proofs.Laws as calls
use Rattle.load_script.specs.declared.Load.{Load}
use Rattle.load_script.specs.Loads.{rest, load_after}
use Rattle.load_script.specs.LoadLaws.{Typed, ClockNeverBack, StepsWhole}
use Rattle.load_script.proofs.Sizes.{by-built}
use Rattle.load_script.proofs.Typed.{after-typed}

-- how a load follows another
record Follows (l m : Load) : Type 0 where
  back : l.clock ≤ m.clock
  most : m.clock ≤ l.clock + 99
  nonzero : 0 < l.generator.state → 0 < m.generator.state

follows : (l : Load) → Typed l → Follows l (rest l)
unfolding rest
follows =
    by-built (λ l. Typed l → Follows l (rest l))
    (λ b g t n typed. record {
      back = calls.clock-never-back b.dom b.vcpu g.state t typed.clock;
      most = calls.clock-moves b.dom b.vcpu g.state t typed.clock;
      nonzero = calls.state-nonzero b.dom b.vcpu g.state t typed.state;
    })
    (λ b g t n typed. record { back = omega arith; most = omega arith; nonzero = λ h. h })

module _ (l : Load) (typed : Typed l) where
  next : (n : ℕ) → Follows (load_after n l) (rest (load_after n l))
  next n = follows (load_after n l) (after-typed l typed n)

  clock-on : (m k : ℕ) → (load_after m l).clock ≤ (load_after (m + k) l).clock
  unfolding load_after
  clock-on m zero = rw add-zero (omega arith)
  clock-on m (suc k) = rw add-suc (omega (arith, clock-on m k, (next (m + k)).back))

  -- nor does it run on by more than 99 a record
  pub clock-moves : (n : ℕ) → (load_after n l).clock ≤ l.clock + n * 99
  unfolding load_after
  clock-moves zero = omega arith
  clock-moves (suc n) = omega (arith, clock-moves n, (next n).most)

  pub state-nonzero : 0 < l.generator.state → (n : ℕ) → 0 < (load_after n l).generator.state
  unfolding load_after
  state-nonzero h zero = h
  state-nonzero h (suc n) = (next n).nonzero (state-nonzero h n)

pub clock-never-back : ClockNeverBack
clock-never-back l typed m n h = let e : n ≡ m + (n - m) = omega arith in rw e (clock-on l typed m (n - m))

pub steps-whole : StepsWhole
steps-whole l typed starts n k h = calls.step-adds (load_after n l).clock k (omega (arith, clock-moves l typed n))
