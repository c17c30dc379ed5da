-- What `moves::decide` leaves to show. Assumes nothing.
use Rattle.std.proofs.Common.{◌∙◌, ap, arith}
use Rattle.moves.specs.Decide.{decide}
use Rattle.moves.specs.Table.{tabled}
use Rattle.moves.proofs.First.{decide-first}
use Rattle.moves.proofs.decide.Goals as goal

pub returns : goal.returns
returns c =
    c.decide_among.ensures ∙ decide-first c.args.table.now c.min.result c.args.idle (omega arith)
    ∙ ap (decide (tabled c.args.table.now c.args.idle)) c.min.ensures
