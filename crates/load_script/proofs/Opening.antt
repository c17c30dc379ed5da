-- What an opened load is told, and which load it is: seed 0, else a shape above the sizes, is refused. Assumes nothing.
use mathlib.Core.Path.{◌≡◌, refl}
use Prim.Native.Nat.{ℕ, suc}
use native.Mathlib.Omega.{arith}
use borrow.Author.Tests.{ne_eqb}
use Rattle.records.specs.declared.Shape.{Shape}
use Rattle.load_script.specs.Loads.{begin, opened, size, stretch}
use Rattle.load_script.specs.LoadLaws.{ZeroSeedRefused, LargeShapeRefused, OthersOpened, RefusedEmpty}

pub bad_seed : ZeroSeedRefused
unfolding opened
bad_seed s count = refl

pub too_large : LargeShapeRefused
unfolding opened
too_large seed s count h large = rw (ne_eqb seed 0 (λ e. omega arith), large)

pub done : OthersOpened
unfolding opened
done seed s count h small = rw (ne_eqb seed 0 (λ e. omega arith), small)

pub refused-empty : RefusedEmpty
unfolding stretch
refused-empty = refl

-- the build and the calls
pub size-begin : (seed : ℕ) (s : Shape) (count : ℕ) → size (begin seed s count) ≡ suc count
size-begin seed s count = refl
