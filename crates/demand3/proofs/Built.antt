-- Demand 3 holds of every host that is built, and above the sizes none is. Assumes nothing.
use Prim.Native.Nat.{ℕ, ◌<◌}
use mathlib.Core.Bool.{true, false, and-false}
use mathlib.Core.Path.{◌≡◌}
use mathlib.Core.Logic.{◌⊎◌, inl, inr}
use lib.Dec.{leb}
use borrow.Author.Tests.{le-leb, lt-leb}
use Rattle.system.specs.Shape.{within_sizes}
use Rattle.demand3.specs.Book.{Shape}
use Rattle.demand3.specs.Fresh.{Sized}
use Rattle.demand3.specs.Built.{asked, EveryBuiltHost}
use Rattle.demand3.proofs.Demand3.{demand_3}

fits : (k : Shape) → Sized k → within_sizes k.domains k.vcpus k.pcpus ≡ true
fits k z = rw (le-leb k.domains 16 z.domains, le-leb k.vcpus 8 z.vcpus, le-leb k.pcpus 64 z.pcpus)

over : (d v p : ℕ) → (16 < d) ⊎ ((8 < v) ⊎ (64 < p)) → within_sizes d v p ≡ false
over d v p (inl l) = rw (lt-leb d 16 l)
over d v p (inr (inl l)) = rw (lt-leb v 8 l) (and-false (leb d 16))
over d v p (inr (inr l)) = rw (lt-leb p 64 l, and-false (leb v 8)) (and-false (leb d 16))

pub built-holds : EveryBuiltHost
built-holds k q =
    record {
      done = λ z. rw (fits k z);
      host = λ z. rw (fits k z);
      holds = λ z cs f. demand_3 (asked k q z) cs f;
      refused = λ x. rw (over k.domains k.vcpus k.pcpus x);
    }
