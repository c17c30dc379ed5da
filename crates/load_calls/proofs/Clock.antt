-- The clock of a load. Assumes nothing.
use Prim.Native.Nat.{ℕ, ◌+◌, ◌%◌, ◌^◌, ◌<◌, ◌≤◌}
use mathlib.Core.Path.{◌≡◌}
use native.Mathlib.Omega.{arith}
use Rattle.generator.specs.Xorshift.{after}
use Rattle.load_calls.specs.declared.Kind.{Kind}
use Rattle.load_calls.specs.declared.Kind.TheVariants.{Admit, Block, Wake, Mask, Advance}
use Rattle.load_calls.specs.Calls.{kind_of, numbers_drawn, later, clock_after, called}

-- short of the last reading there is, the step is added whole
pub step-adds : (t n : ℕ) → t + 99 < 2 ^ 64 → later t n ≡ t + n % 100
unfolding later
step-adds t n room = omega arith

-- how a reading follows another
record Follows (t u : ℕ) : Type 0 where
  back : t ≤ u
  most : u ≤ t + 99
  below : u < 2 ^ 64

stays : (t : ℕ) → t < 2 ^ 64 → Follows t t
stays t l = record { back = omega arith; most = omega arith; below = l }

moves : (t n : ℕ) → t < 2 ^ 64 → Follows t (later t n)
unfolding later
moves t n l = record { back = omega arith; most = omega arith; below = omega arith }

follows : (k : Kind) (t n : ℕ) → t < 2 ^ 64 → Follows t (clock_after k t n)
follows Admit t n l = stays t l
follows Block t n l = moves t n l
follows Wake t n l = stays t l
follows Mask t n l = stays t l
follows Advance t n l = moves t n l

module _ (d v x t : ℕ) (l : t < 2 ^ 64) where
  next : Follows t (called d v x t).clock
  unfolding called
  next = follows (kind_of (after x)) t (numbers_drawn d v x).last l

  pub clock-never-back : t ≤ (called d v x t).clock
  clock-never-back = next.back

  pub clock-moves : (called d v x t).clock ≤ t + 99
  clock-moves = next.most

  pub clock-below : (called d v x t).clock < 2 ^ 64
  clock-below = next.below
