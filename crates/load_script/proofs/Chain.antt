-- The records of a load are a chain: each call is drawn where the record before it left the generator and the clock. Assumes nothing.
use mathlib.Core.Path.{◌≡◌, refl, ap}
use mathlib.Core.Bool.{true}
use Prim.Native.Nat.{ℕ, zero, suc, ◌-◌}
use native.Mathlib.Omega.{arith}
use Rattle.records.specs.declared.Shape.{Shape}
use Rattle.load_script.specs.declared.Load.{Load}
use Rattle.load_script.specs.Loads.{build_record, begin, chain, first, rest, load_after, nth_record}
use Rattle.load_script.specs.LoadLaws.{RecordsOfTheChain}

-- a load of which record n was the last to be handed out
abbrev pub handed_out : ℕ → Shape → ℕ → ℕ → Load
handed_out seed s count n =
    record {
      build = build_record s;
      generator = record { state = (chain seed s n).state };
      clock = (chain seed s n).clock;
      built = true;
      left = count - n;
    }

module _ (seed : ℕ) (s : Shape) (count : ℕ) where
  pub after_record : (n : ℕ) → load_after (suc n) (begin seed s count) ≡ handed_out seed s count n
  unfolding load_after rest chain
  after_record zero = let e : count ≡ count - 0 = omega arith in rw (← e)
  after_record (suc n) = let e : count - suc n ≡ count - n - 1 = omega arith in rw (e, after_record n)

  pub first-is-build : nth_record (begin seed s count) 0 ≡ build_record s
  unfolding load_after first
  first-is-build = refl

pub record_is : RecordsOfTheChain
unfolding load_after first chain
record_is seed s count zero = refl
record_is seed s count (suc n) = ap first (after_record seed s count n)
