-- A vCPU that no weight was set for ranks as one set to 256. Assumes nothing.
use Prim.Native.Nat.{ℕ, ◌/◌, ◌%◌}
use mathlib.Core.Bool.{Bool, true, false, cond}
use mathlib.Core.Path.{◌≡◌, refl, ◌∙◌}
use mathlib.Core.List.{List}
use Rattle.policy.specs.Accounts.{in_shape}
use Rattle.policy.proofs.Laws.{ranks-at}
use Rattle.calls.specs.declared.Call.{Call}
use Rattle.demand3.specs.Weights.{weight_through, weight_after}
use Rattle.demand3.specs.Unset.{Unset, none, outside, UnsetRanks}
use Rattle.demand3.proofs.AsSet.{weights-at}

unset-weight : {e u d v : ℕ} {cs : List Call} → Unset e u d v cs → weight_after e u cs d v ≡ 256
unset-weight {e} {u} {d} {v} {cs} (none f) = go (in_shape e u d v)
  where
    go : (b : Bool) → cond b (weight_through d v 256 cs) 256 ≡ 256
    go true = f 256
    go false = refl
unset-weight (outside x) = rw x

pub unset-ranks : UnsetRanks
unset-ranks f cs i n = ranks-at (weights-at f cs (i / 8) (i % 8) ∙ unset-weight n)
