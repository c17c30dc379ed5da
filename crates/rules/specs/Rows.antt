-- The most moves of an advance, and how many of some moves are on a pCPU, as the requirements have them. Assumes nothing.
use Rattle.std.specs.Prelude.{refl, List, [], ◌∷◌}
use Rattle.rows.specs.Rows.{Row, row, AllDue}
use Rattle.system.specs.Shape.{fresh}
use Rattle.moves.specs.declared.Choice.TheVariants.{Run, Preempt}
use Rattle.rules.specs.Settle.{limit, moves_on}

abbrev pub table : List Row
table =
    -- vCPUs + 2 × pCPUs + 1: 2 domains of 3 vCPUs on 4 pCPUs, no host at all, and the largest host
    row (limit (fresh 2 3 4)) 15
    ∷ row (limit (fresh 0 0 0)) 1
    ∷ row (limit (fresh 16 8 64)) 257
    -- 0/0 comes off pCPU 1, 0/1 goes onto it, and 0/0 onto pCPU 2: two moves on pCPU 1, one on pCPU 2, none on pCPU 0
    ∷ row (moves_on 1 (Preempt 0 1 ∷ Run 1 1 ∷ Run 0 2 ∷ [])) 2
    ∷ row (moves_on 2 (Preempt 0 1 ∷ Run 1 1 ∷ Run 0 2 ∷ [])) 1
    ∷ row (moves_on 0 (Preempt 0 1 ∷ Run 1 1 ∷ Run 0 2 ∷ [])) 0
    ∷ []

pub rows-due : AllDue table
unfolding fresh moves_on
rows-due = refl
