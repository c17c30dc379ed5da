-- Decisions worked out by hand from the requirements. Assumes nothing.
use Rattle.std.specs.Prelude.{ℕ, ◌+◌, ◌%◌, Bool, ◌||◌, ◌&&◌, refl, List, [], ◌∷◌, eqb, ltb}
use Rattle.rows.specs.Rows.{Row, rows, AllDue}
use Rattle.masks.specs.Masks.{permits, first}
use Rattle.scans.specs.Scan.{scan}
use Rattle.moves.specs.declared.Choice.{Choice}
use Rattle.moves.specs.declared.Choice.TheVariants.{Run, Preempt, Rest}
use Rattle.moves.specs.Decide.{Standings, first_idle_pcpu_for, placement, placeable, beaten, loses, chosen, victim, decide, by_lowest}

-- 1 for a dispatch, 2 for a preemption, 0 for neither, then the slot and the pCPU
abbrev read : Choice → List ℕ
read (Run i p) = 1 ∷ i ∷ p ∷ []
read (Preempt i p) = 2 ∷ i ∷ p ∷ []
read Rest = 0 ∷ []

-- Four slots: those in `waiting` wait; those in `running` are expired, slot i on pCPU i; the pCPUs in `free` are idle. Sets are masks.
abbrev standing : ℕ → ℕ → ℕ → (ℕ → ℕ) → (ℕ → ℕ) → (ℕ → ℕ → Bool) → Standings
standing waiting running free mask last beats =
    record { waits = permits waiting; expired = permits running; on = λ i. i; mask = mask; last = last; beats = beats; idle = permits free }

-- where nobody was dispatched before
abbrev decided : ℕ → ℕ → ℕ → (ℕ → ℕ) → (ℕ → ℕ → Bool) → List ℕ
decided waiting running free mask beats = read (decide (standing waiting running free mask (λ i. 64) beats) 4)

abbrev admits_all : ℕ → ℕ
admits_all i = 15

-- who beats whom: those before it, those after it; 3 the others, which are alike
abbrev later_wins : ℕ → ℕ → Bool
later_wins i j = ltb j i

abbrev earlier_wins : ℕ → ℕ → Bool
earlier_wins i j = ltb i j

abbrev last_wins : ℕ → ℕ → Bool
last_wins i j = eqb i 3 && ltb j 3

-- and 0 beats 2, 1 beats 0, 2 beats 1, as can be where products are held
abbrev ring : ℕ → ℕ → Bool
ring i j = last_wins i j || eqb j ((i + 2) % 3)

-- 1 and 2 wait and are alike, nobody is expired; slot i was last on pCPU last i
abbrev decided_back : ℕ → (ℕ → ℕ) → (ℕ → ℕ) → List ℕ
decided_back free mask last = read (decide (standing 6 0 free mask last last_wins) 4)

abbrev pub table : List Row
table =
    -- 0, 1 and 2 wait and are alike, pCPUs 1 and 3 are idle: the earliest, onto the lowest-numbered
    rows (decided 7 0 10 admits_all last_wins) (1 ∷ 0 ∷ 1 ∷ [])
    -- 0 and 1 wait, 0 beats 1 and admits pCPU 0 alone, 1 admits pCPU 1, which is idle: 1, as the mask is tested before they are ranked
    ∷ rows (decided 3 0 2 (λ i. i + 1) earlier_wins) (1 ∷ 1 ∷ 1 ∷ [])
    -- 1 waits and beats 0, which is expired; pCPU 1 is idle: nobody is preempted where somebody can be dispatched
    ∷ rows (decided 2 1 2 admits_all later_wins) (1 ∷ 1 ∷ 1 ∷ [])
    -- no pCPU is idle: 0 is preempted, unless 1 admits pCPU 1 alone
    ∷ rows (decided 2 1 0 admits_all later_wins) (2 ∷ 0 ∷ 0 ∷ [])
    ∷ rows (decided 2 1 0 (λ i. 2) later_wins) (0 ∷ [])
    -- 3 waits and beats 1 and 2, which are expired; 2 beats 1: the least deserving is 1
    ∷ rows (decided 8 6 0 admits_all later_wins) (2 ∷ 1 ∷ 1 ∷ [])
    -- they are alike: the earliest
    ∷ rows (decided 8 6 0 admits_all last_wins) (2 ∷ 1 ∷ 1 ∷ [])
    -- a ring of those that wait: 0 is picked first; 1 beats it, and 2 beats 1
    ∷ rows (decided 7 0 10 admits_all ring) (1 ∷ 2 ∷ 1 ∷ [])
    -- a ring of those that are expired: 0 is picked first; it does not beat 1, and it beats 2
    ∷ rows (decided 8 7 0 admits_all ring) (2 ∷ 2 ∷ 2 ∷ [])
    -- 1 was last on pCPU 3, and pCPUs 0 and 3 are idle: back onto 3, though 0 is lower
    ∷ rows (decided_back 9 admits_all (λ i. 3)) (1 ∷ 1 ∷ 3 ∷ [])
    -- not where somebody holds 3, nor where the mask admits pCPUs 0 and 1 alone: the lowest-numbered that is idle and admitted
    ∷ rows (decided_back 5 admits_all (λ i. 3)) (1 ∷ 1 ∷ 0 ∷ [])
    ∷ rows (decided_back 9 (λ i. 3) (λ i. 3)) (1 ∷ 1 ∷ 0 ∷ [])
    -- it was last on none, or on one that the host does not have
    ∷ rows (decided_back 9 admits_all (λ i. 64)) (1 ∷ 1 ∷ 0 ∷ [])
    ∷ rows (decided_back 9 admits_all (λ i. 5)) (1 ∷ 1 ∷ 0 ∷ [])
    ∷ rows (decided_back 9 admits_all (λ i. 67)) (1 ∷ 1 ∷ 0 ∷ [])
    -- the earlier of two alike is picked, though the later alone could go back, and onto that pCPU
    ∷ rows (decided_back 8 admits_all (λ i. i + 1)) (1 ∷ 1 ∷ 3 ∷ [])
    -- by the rule that upstream decides by: onto 0
    ∷ rows (read (decide (by_lowest (standing 6 0 9 admits_all (λ i. 3) last_wins)) 4)) (1 ∷ 1 ∷ 0 ∷ [])
    ∷ []

pub rows-due : AllDue table
unfolding scan first first_idle_pcpu_for placement placeable beaten loses chosen victim decide
rows-due = refl
