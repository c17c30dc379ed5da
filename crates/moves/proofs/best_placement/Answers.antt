-- What `moves::best_placement` leaves to show. Assumes nothing.
use Rattle.std.proofs.Common.{refl, sym, ◌∙◌, add-one}
use Rattle.scans.specs.Scan.{scan}
use Rattle.moves.specs.Decide.{chosen}
use Rattle.moves.proofs.PlacementLoop.{skips, unplaced, takes, stays, first_for}
use Rattle.moves.proofs.best_placement.Goals as goal
use Rattle.moves.proofs.best_placement.Goals.{then-waits+then-pcpu-lt64+then-goes_before, then-waits+then-pcpu-lt64+else-goes_before, then-waits+else-pcpu-lt64, else-waits}

pub loop-i-init : goal.loop-i-init
unfolding chosen scan
loop-i-init c = refl

pub loop-i-preserved : goal.loop-i-preserved
loop-i-preserved c =
    let t = c.args.rows.now in
    let d = c.args.idle in
    let i = c.loop-i.i in
    let best = c.loop-i.best in
    let lead = c.loop-i.invariant in
    rw
    add-one
    (elim c.if-waits.branch [
      | then-waits+then-pcpu-lt64+then-goes_before w ↦
          let p = first_for t d i _ w.first_idle_pcpu-pcpu.ensures in
          rw (w.best-is, w.leader-next.ensures)
          (takes t d best _ (record { served = refl; weighs = refl; placed = p }) lead
          (sym c.waits.ensures ∙ w.if-waits.true) w.if-pcpu-lt64.true
          (rw w.leader-next.ensures at (sym w.goes_before.ensures ∙ w.if-goes_before.true)))
      | then-waits+then-pcpu-lt64+else-goes_before w ↦
          let p = first_for t d i _ w.first_idle_pcpu-pcpu.ensures in
          rw w.best-is
          (stays t d best _ (record { served = refl; weighs = refl; placed = p }) lead
          (rw w.leader-next.ensures at (sym w.goes_before.ensures ∙ w.if-goes_before.false)))
      | then-waits+else-pcpu-lt64 w ↦
          rw w.best-is (unplaced t d i _ best (first_for t d i _ w.first_idle_pcpu-pcpu.ensures) w.if-pcpu-lt64.false lead)
      | else-waits w ↦ rw w.best-is (skips t d i best (sym c.waits.ensures ∙ w.if-waits.false) lead)
    ])
