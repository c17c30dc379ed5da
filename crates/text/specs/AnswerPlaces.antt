-- What a record is told, put into a stretch of bytes where there is room for any such line. Assumes nothing.
use Rattle.std.specs.Prelude.{ℕ, ◌+◌, ◌≤◌, ◌≡◌, List, length}
use Rattle.std.proofs.Common.{arith}
use Rattle.text.specs.Lines.{answer_line, answer_room}
use Rattle.text.specs.Lengths.{answer-line-short}
use Rattle.text.specs.Places.{Placed, put_within, end_within, placed-within}

-- the line put at index `at`, and the index past it
unfoldable pub answer_put : List ℕ → ℕ → ℕ → ℕ → ℕ → List ℕ
answer_put out at number answer moves = put_within answer_room out at (answer_line number answer moves)

unfoldable pub answer_end : List ℕ → ℕ → ℕ → ℕ → ℕ → ℕ
answer_end out at number answer moves = end_within answer_room out at (answer_line number answer moves)

-- where there is room, it is put there and ends within it
pub answer-placed : (out : List ℕ) (at number answer moves : ℕ) {after : List ℕ} {end : ℕ} → at + answer_room ≤ length out
    → after ≡ answer_put out at number answer moves → end ≡ answer_end out at number answer moves
    → Placed out at (answer_line number answer moves) after end × (end ≤ at + answer_room)
unfolding answer_put answer_end
answer-placed out at number answer moves room o p =
    let there = placed-within answer_room room o p in
    (there, omega (arith, there.past, answer-line-short number answer moves))
