-- `load::put_script`: a stretch of a load that is not over has a record. Assumes nothing.
use Rattle.std.proofs.Common.{◌≡◌, ◌<◌, ℕ, List, length, arith}
use Rattle.std.proofs.lemmas.List.{length-replicate}
use Rattle.load_script.specs.declared.Load.{Load}
use Rattle.load_script.specs.Loads.{size, fitting, filled}
use Rattle.load_script.proofs.Laws.{size-after}
use Rattle.load.proofs.put_script.Goals as goal

fewer : (l m : Load) (out : List ℕ) → m ≡ (filled l out).load → length out ≡ 60000 → 0 < size l → size m < size l
fewer l m out e long some = rw e (omega (arith, size-after (fitting l out) l))

pub loop-left-init : goal.loop-left-init
loop-left-init c = length-replicate {A = ℕ} 60000 0

pub loop-left-smaller : goal.loop-left-smaller
loop-left-smaller c = fewer c.loop-left.left _ c.loop-left.out c.fill-n.ensures.load c.loop-left.invariant (omega arith)
