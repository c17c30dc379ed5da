-- What `moves::decide_among` leaves to show. Assumes nothing.
use Rattle.std.proofs.Common.{ℕ, List, ◌≡◌, ◌∙◌, ap, rules, length}
use Rattle.scans.specs.Scan.{nobody}
use Rattle.moves.specs.Decide.{chosen}
use Rattle.moves.specs.Table.{tabled}
use Rattle.moves.specs.declared.Row.{Row}
use Rattle.moves.proofs.Leaders.{none-found, none-idle, leads-below, ran, stopped, rested}
use Rattle.moves.proofs.decide_among.Goals as goal
use Rattle.moves.proofs.decide_among.Goals.{then-idle-ne0+in_default, else-idle-ne0}

pub offset_bounds-rows-best : goal.offset_bounds-rows-best
offset_bounds-rows-best c =
    let below = leads-below c.args.rows.now c.args.idle _ c.in-Some.best c.in-Some.ensures in
    search rules

pub bounds-rows-best : goal.bounds-rows-best
bounds-rows-best c = leads-below c.args.rows.now c.args.idle _ c.in-Some.best c.in-Some.ensures

pub returns-in-Some : goal.returns-in-Some
unfolding tabled
returns-in-Some c = ran c.args.rows.now c.args.idle _ c.in-Some.best _ c.in-Some.ensures c.back_to_last.ensures

-- with no pCPU idle nobody is chosen
none_chosen : (t : List Row) (idle n : ℕ) → idle ≡ 0 → chosen (tabled t idle) n ≡ nobody
none_chosen t idle n e = ap (λ (d : ℕ). chosen (tabled t d) n) e ∙ none-idle t n

pub returns-in-Some-best_preemption : goal.returns-in-Some-best_preemption
returns-in-Some-best_preemption c =
    let t = c.args.rows.now in
    let n = length c.args.rows.now in
    let none : chosen (tabled t c.args.idle) n ≡ nobody =
    elim c.if-idle-ne0.branch [
      | then-idle-ne0+in_default w ↦ none-found _ _ _ _ w.in_default.not-Some w.best_placement.ensures
      | else-idle-ne0 w ↦ none_chosen t _ n w.if-idle-ne0.false
    ]
    in
    stopped t c.args.idle n none _ c.in-Some-best_preemption.ensures

pub returns-in-None : goal.returns-in-None
returns-in-None c =
    let t = c.args.rows.now in
    let n = length c.args.rows.now in
    let none : chosen (tabled t c.args.idle) n ≡ nobody =
    elim c.if-idle-ne0.branch [
      | then-idle-ne0+in_default w ↦ none-found _ _ _ _ w.in_default.not-Some w.best_placement.ensures
      | else-idle-ne0 w ↦ none_chosen t _ n w.if-idle-ne0.false
    ]
    in
    rested t c.args.idle n none c.in-None.ensures
