-- A test of every number below n. Assumes nothing.
use Prim.Native.Nat.{ℕ, zero, suc, ◌<◌}
use mathlib.Core.Bool.{Bool, true}
use mathlib.Core.Path.{◌≡◌, refl}
use native.Mathlib.Decide.{ℕ_discrete}
use native.Mathlib.Omega.{arith}
use Rattle.scans.specs.Booleans.{both, all_two}
use Rattle.usage_layout.specs.Reading.{all}

pub all_pass : (n : ℕ) (passes : ℕ → Bool) → ((i : ℕ) → i < n → passes i ≡ true) → all n passes ≡ true
unfolding all
all_pass zero passes h = refl
all_pass (suc n) passes h = all_two (all_pass n passes (λ i l. h i (omega arith))) (h n (omega arith))

pub each-passes : (n : ℕ) (passes : ℕ → Bool) → all n passes ≡ true → (i : ℕ) → i < n → passes i ≡ true
unfolding all
each-passes zero passes e i l = absurd (omega arith)
each-passes (suc n) passes e i l = go (λ h. each-passes n passes (both (all n passes) (passes n) e).0 i h) (ℕ_discrete i n)
  where
    go : (i < n → passes i ≡ true) → Dec (i ≡ n) → passes i ≡ true
    go before (yes q) = rw q (both (all n passes) (passes n) e).1
    go before (no q) = before (omega arith)
