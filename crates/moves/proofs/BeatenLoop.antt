-- What one turn of the search for a waiter that beats a runner shows. Assumes nothing.
use Prim.Native.Nat.{ℕ, suc}
use mathlib.Core.Bool.{false, ◌&&◌}
use mathlib.Core.Path.{◌≡◌, ◌∙◌, ap}
use Rattle.scans.specs.Scan.{some, never}
use Rattle.masks.specs.Masks.{permits}
use Rattle.moves.specs.Decide.{Standings, beaten}
use Rattle.moves.proofs.ScanSteps.{passes}

-- one more slot does not beat x
pub unbeaten : (t : Standings) (i x : ℕ) → beaten t i x ≡ false
    → (t.waits i && (permits (t.mask i) (t.on x) && t.beats i x)) ≡ false → beaten t (suc i) x ≡ false
unfolding beaten
unbeaten t i x h e =
    ap some (passes (λ j. t.waits j && (permits (t.mask j) (t.on x) && t.beats j x)) never i e) ∙ h
