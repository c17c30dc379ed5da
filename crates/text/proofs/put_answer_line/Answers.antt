-- `text::put_answer_line` meets its contract. Assumes nothing.
use Rattle.std.proofs.Common.{◌+◌, ◌≤◌, ◌<◌, length, arith}
use Rattle.text.specs.Lines.{answer_line, answer_room}
use Rattle.text.specs.Places.{placed-then, crowded, put-within}
use Rattle.text.specs.AnswerPlaces.{answer_put, answer_end}
use Rattle.text.proofs.put_answer_line.Goals as goal
use Rattle.text.proofs.put_answer_line.Goals.{then-out-lt-ANSWER_ROOM-via-then-out-lt-ANSWER_ROOM, then-out-lt-ANSWER_ROOM-via-else-out-lt-ANSWER_ROOM+then-out-at}

pub returns-then-out-lt-ANSWER_ROOM : goal.returns-then-out-lt-ANSWER_ROOM
unfolding answer_put answer_end
returns-then-out-lt-ANSWER_ROOM c =
    let a = c.args in
    let crowd : length a.out.now < a.at + answer_room = elim c.then-out-lt-ANSWER_ROOM.branch [
      | then-out-lt-ANSWER_ROOM-via-then-out-lt-ANSWER_ROOM w ↦ omega arith
      | then-out-lt-ANSWER_ROOM-via-else-out-lt-ANSWER_ROOM+then-out-at w ↦ omega arith
    ] in
    let none = crowded answer_room a.out.now (answer_line a.number a.answer a.moves) a.at crowd in
    record { written = none.0; past = none.1 }

pub returns : goal.returns
unfolding answer_line answer_put answer_end
returns c =
    let inside : c.args.at ≤ length c.args.out.now = omega arith in
    let numbered = placed-then inside c.put_number-a.ensures.placed c.put_field-b.ensures.placed in
    let told = placed-then inside (placed-then inside numbered c.put_field-c.ensures.placed) c.put_byte.ensures in
    let there = put-within answer_room (omega arith) told in
    record { written = there.0; past = there.1 }
