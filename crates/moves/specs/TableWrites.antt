-- What a move leaves of the table.
use Rattle.std.specs.Prelude.{ℕ, ◌%◌, cond, List, eqb, set}
use Rattle.moves.specs.declared.Standing.TheVariants.{Rests, Waits, Expired}
use Rattle.moves.specs.declared.Row.{Row}
use Rattle.moves.specs.Table.{row_at}

-- The row of one that went onto pCPU p: where the slice is 0 it may be preempted at once, and has the service that it came with once it
-- has left.
abbrev pub dispatched_row : ℕ → ℕ → Row → Row
dispatched_row slice p r =
    cond (eqb slice 0)
    (record r { standing = Expired (p % 64); last = p; leaving = r.service })
    (record r { standing = Rests; last = p })

-- of one that came off its pCPU: it waits, with the service that it had once it had left
abbrev pub left_row : Row → Row
left_row r = record r { standing = Waits; service = r.leaving }

-- slot i went onto pCPU p
unfoldable pub dispatched_in : ℕ → List Row → ℕ → ℕ → List Row
dispatched_in slice t i p = set t i (dispatched_row slice p (row_at t i))

-- slot i came off its pCPU
unfoldable pub left_in : List Row → ℕ → List Row
left_in t i = set t i (left_row (row_at t i))
