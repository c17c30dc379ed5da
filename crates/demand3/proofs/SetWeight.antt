-- The weights looked up after a weight call, by whether it names their vCPU. Assumes nothing.
use Prim.Native.Nat.{ℕ, max}
use mathlib.Core.Bool.{true, cond, ◌&&◌, and-false}
use mathlib.Core.Path.{◌≡◌, sym}
use native.Mathlib.Decide.{ℕ_discrete}
use lib.Dec.{eqb}
use borrow.Author.Tests.{eq-eqb, ne_eqb}
use Rattle.policy.specs.declared.Scheduler.{Scheduler}
use Rattle.policy.specs.Accounts.{Tabled, covers, weight_of, set_weight}
use Rattle.policy.proofs.Laws.{set-weighed}

-- the new weight where these are the ids of the call, else the old one
pub set-weight : (π : Scheduler) → Tabled π → (d v x d' v' : ℕ) → covers π d' v' ≡ true
    → weight_of (set_weight π d v x) d' v' ≡ cond (eqb d d' && eqb v v') (max x 1) (weight_of π d' v')
set-weight π L d v x d' v' e = go (ℕ_discrete d d') (ℕ_discrete v v')
  where
    go : Dec (d ≡ d') → Dec (v ≡ v')
        → weight_of (set_weight π d v x) d' v' ≡ cond (eqb d d' && eqb v v') (max x 1) (weight_of π d' v')
    go (yes a) (yes b) = rw (eq-eqb d d' a, eq-eqb v v' b, ← a, ← b) ((set-weighed π L d v x).weight (rw (a, b) e))
    go (yes a) (no m) = rw (ne_eqb v v' m, and-false (eqb d d')) ((set-weighed π L d v x).others d' v' (λ f. m (sym f.1)))
    go (no m) b = rw (ne_eqb d d' m) ((set-weighed π L d v x).others d' v' (λ f. m (sym f.0)))
