-- `test_reads::move_numbers` meets its contract. Assumes nothing.
use Rattle.std.proofs.Common.{◌∷◌, ap, sym, arith}
use Rattle.test_reads.specs.Reads.{move_numbers}
use Rattle.test_reads.proofs.Parts.{three, last_four}
use Rattle.test_reads.proofs.move_numbers.Goals as goal
use Rattle.test_reads.proofs.move_numbers.Goals.{in-Ok, in-Err}

pub returns : goal.returns
unfolding move_numbers
returns c =
    let decision = ap (λ l. c.number_of.result ∷ l) (last_four c.decision_numbers.result (omega arith)) in
    rw (three decision c.violation_numbers.result (omega arith), c.violation_numbers.ensures, c.first_violation.ensures)
    (rw (c.number_of.ensures, c.decision_numbers.ensures, sym c.next.ensures.recommended)
    (elim c.match-next.branch [ in-Ok w ↦ rw (w.in-Ok.is, w.answer-is) | in-Err w ↦ rw (w.in-Err.is, w.answer-is) ]))
