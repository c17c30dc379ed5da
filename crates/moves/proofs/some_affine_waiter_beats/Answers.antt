-- What `moves::some_affine_waiter_beats` leaves to show. Assumes nothing.
use Rattle.std.proofs.Common.{refl, sym, ◌∙◌, add-one, rules}
use Rattle.std.proofs.Math.Bool.{and-false}
use Rattle.scans.specs.Scan.{scan}
use Rattle.moves.specs.Decide.{beaten}
use Rattle.moves.specs.DecideLaws.{by-beaten}
use Rattle.moves.specs.Table.{tabled}
use Rattle.moves.proofs.BeatenLoop.{unbeaten}
use Rattle.moves.proofs.some_affine_waiter_beats.Goals as goal
use Rattle.moves.proofs.some_affine_waiter_beats.Goals.{else-waits-via-then-waits+then-mask_permits+else-more_deserving, else-waits-via-then-waits+else-mask_permits, else-waits-via-else-waits}

pub loop-row-init : goal.loop-row-init
unfolding beaten scan
loop-row-init c = refl

pub returns-then-more_deserving : goal.returns-then-more_deserving
unfolding tabled
returns-then-more_deserving c =
    let p = c.requires in
    sym
    (by-beaten
    (tabled c.args.rows.now 0)
    _
    c.args.runner.now.at
    c.loop-row.row-index
    (record {
      below = search rules;
      waits = sym c.waits.ensures ∙ c.if-waits.true;
      admits = rw (← p.placed) (sym c.mask_permits.ensures ∙ c.if-mask_permits.true);
      wins = rw (← p.served, ← p.weighs) (sym c.more_deserving.ensures ∙ c.if-more_deserving.true);
    }))

pub loop-row-preserved : goal.loop-row-preserved
unfolding tabled
loop-row-preserved c =
    let p = c.requires in
    rw
    add-one
    (unbeaten
    (tabled c.args.rows.now 0)
    c.loop-row.row-index
    c.args.runner.now.at
    c.loop-row.invariant
    (rw (← p.placed, ← p.served, ← p.weighs)
    (elim c.else-waits.branch [
      | else-waits-via-then-waits+then-mask_permits+else-more_deserving w ↦
          rw (sym w.more_deserving.ensures ∙ w.if-more_deserving.false) (rw (and-false, and-false))
      | else-waits-via-then-waits+else-mask_permits w ↦ rw (sym w.mask_permits.ensures ∙ w.if-mask_permits.false) (and-false _)
      | else-waits-via-else-waits w ↦ rw (sym c.waits.ensures ∙ w.if-waits.false)
    ])))
