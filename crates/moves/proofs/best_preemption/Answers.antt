-- What `moves::best_preemption` leaves to show. Assumes nothing.
use Rattle.std.proofs.Common.{◌≡◌, refl, sym, ◌∙◌, ap, add-one, arith}
use Rattle.scans.specs.Scan.{scan}
use Rattle.moves.specs.Decide.{victim}
use Rattle.moves.specs.Table.{is_expired, expired_on, tabled}
use Rattle.moves.proofs.PreemptionLoop.{skips, unbeaten, takes, stays}
use Rattle.moves.proofs.best_preemption.Goals as goal
use Rattle.moves.proofs.best_preemption.Goals.{in-Expired+then-yields_before+then-some_affine_waiter_beats, in-Expired+else-yields_before, else-yields_before-via-then-yields_before+else-some_affine_waiter_beats, else-yields_before-via-else-yields_before, in_default}

pub loop-i-init : goal.loop-i-init
unfolding scan
loop-i-init c = refl

pub some_affine_waiter_beats-requires : goal.some_affine_waiter_beats-requires
unfolding tabled
some_affine_waiter_beats-requires c =
    rw c.leader-next.ensures (record { served = refl; weighs = refl; placed = sym (ap expired_on c.in-Expired.is) })

pub loop-i-preserved : goal.loop-i-preserved
unfolding tabled
loop-i-preserved c =
    let t = c.args.rows.now in
    let i = c.loop-i.i in
    let worst = c.loop-i.worst in
    let lead = c.loop-i.invariant in
    rw
    add-one
    (elim c.match-row.branch [
      | in-Expired+then-yields_before+then-some_affine_waiter_beats w ↦
          let e = w.leader-next.ensures in
          let p = sym (ap expired_on w.in-Expired.is) in
          rw (w.worst-is, e)
          (takes t _ worst _ (record { served = refl; weighs = refl; placed = p }) lead
          (ap is_expired w.in-Expired.is)
          (rw e at (sym w.some_affine_waiter_beats.ensures ∙ w.if-some_affine_waiter_beats.true))
          (rw e at (sym w.yields_before.ensures ∙ w.if-yields_before.true)))
      | in-Expired+else-yields_before w ↦
          let e = w.leader-next.ensures in
          let p = sym (ap expired_on w.in-Expired.is) in
          rw
          w.worst-is
          (elim w.else-yields_before.branch [
            | else-yields_before-via-then-yields_before+else-some_affine_waiter_beats w' ↦
                unbeaten t _ i worst (rw e at (sym w'.some_affine_waiter_beats.ensures ∙ w'.if-some_affine_waiter_beats.false)) lead
            | else-yields_before-via-else-yields_before w' ↦
                stays t _ worst _ (record { served = refl; weighs = refl; placed = p }) lead
                (rw e at (sym w.yields_before.ensures ∙ w'.if-yields_before.false))
          ])
      | in_default w ↦ rw w.worst-is (skips t _ i worst w.in_default.not-Expired lead)
    ])

pub returns : goal.returns
unfolding victim
returns c = let e : c.loop-i.i ≡ _ = omega arith in rw e at c.loop-i.invariant
