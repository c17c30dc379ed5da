-- Settling over tables worked out by hand from the requirements, what a move leaves of a row, and the log. Assumes nothing.
use Rattle.std.specs.Prelude.{ℕ, ◌+◌, ◌^◌, refl, List, [], ◌∷◌, ◌++◌, map, replicate}
use Rattle.rows.specs.Rows.{Row, rows, AllDue}
use Rattle.masks.specs.Masks.{first}
use Rattle.service.specs.Service.{value, more_deserving}
use Rattle.scans.specs.Scan.{scan}
use Rattle.moves.specs.declared.Choice.{Choice}
use Rattle.moves.specs.declared.Choice.TheVariants.{Run, Preempt, Rest}
use Rattle.moves.specs.declared.Move.TheVariants.{Onto, Off}
use Rattle.moves.specs.declared.Standing.{Standing}
use Rattle.moves.specs.declared.Standing.TheVariants.{Rests, Waits, Expired}
use Rattle.moves.specs.declared.Row.{Row as Slot}
use Rattle.moves.specs.Decide.{first_idle_pcpu_for, placement, placeable, beaten, loses, chosen, victim, decide}
use Rattle.moves.specs.Table.{row_at, tabled}
use Rattle.moves.specs.TableWrites.{dispatched_in, left_in}
use Rattle.moves.specs.Settling.{with_pcpu, made, table_after, idle_after, settled, logged_first}

-- 1 for a dispatch, 2 for a preemption, then the slot and the pCPU
abbrev read : List Choice → List ℕ
read [] = []
read (Run i p ∷ cs) = 1 ∷ i ∷ p ∷ read cs
read (Preempt i p ∷ cs) = 2 ∷ i ∷ p ∷ read cs
read (Rest ∷ cs) = 0 ∷ read cs

-- a row of weight 1: its standing, mask, service, the pCPU that it was last on, and its service once it has left
abbrev row_of : Standing → ℕ → ℕ → ℕ → ℕ → Slot
row_of standing mask service last leaving =
    record {
      standing = standing;
      mask = mask;
      service = service ∷ 0 ∷ 0 ∷ 0 ∷ [];
      weight = 1;
      last = last;
      leaving = leaving ∷ 0 ∷ 0 ∷ 0 ∷ [];
    }

-- last on none
abbrev slot : Standing → ℕ → ℕ → Slot
slot standing mask service = row_of standing mask service 64 0

-- ---- settling over few slots

-- 0 and 1 wait, with 5 and 3
abbrev two : List Slot
two = slot Waits 15 5 ∷ slot Waits 15 3 ∷ []

-- 0 may be preempted on pCPU 0 and has had 9, or so much as is said once it has left; 1 waits, with 4
abbrev leaver : ℕ → List Slot
leaver service = row_of (Expired 0) 1 9 64 service ∷ slot Waits 1 4 ∷ []

-- 0 and 1 wait, with 3 and 4; 2 may be preempted on pCPU 1, admits pCPU 0 alone, has had 10, and nothing once it has left
abbrev chain : List Slot
chain = slot Waits 3 3 ∷ slot Waits 3 4 ∷ slot (Expired 1) 1 10 ∷ []

-- 6 may be preempted on pCPU 63 and has had 7; 7 waits, admits pCPUs 0 and 63, has had 6, and was last on 63
abbrev far : List Slot
far =
    replicate 6 (slot Rests 0 0) ++ row_of (Expired 63) (2 ^ 63) 7 63 7 ∷ row_of Waits (2 ^ 63 + 1) 6 63 0 ∷ []

abbrev pub table : List Row
table =
    -- one pCPU is idle: the more deserving goes, and stays
    rows (read (settled 1 2 9 two 1)) (1 ∷ 1 ∷ 0 ∷ [])
    -- two are
    ∷ rows (read (settled 1 2 9 two 9)) (1 ∷ 1 ∷ 0 ∷ 1 ∷ 0 ∷ 3 ∷ [])
    -- no more than are allowed
    ∷ rows (read (settled 1 2 1 two 9)) (1 ∷ 1 ∷ 0 ∷ [])
    ∷ rows (read (settled 1 2 0 two 9)) []
    -- whoever leaves is ranked by the service that it has then: it goes back where that is less than the waiter's, and waits where more
    ∷ rows (read (settled 1 2 9 (leaver 1) 0)) (2 ∷ 0 ∷ 0 ∷ 1 ∷ 0 ∷ 0 ∷ [])
    ∷ rows (read (settled 1 2 9 (leaver 9) 0)) (2 ∷ 0 ∷ 0 ∷ 1 ∷ 1 ∷ 0 ∷ [])
    -- 0 goes, 2 is preempted for 1, and waits for pCPU 0
    ∷ rows (read (settled 1 3 9 chain 1)) (1 ∷ 0 ∷ 0 ∷ 2 ∷ 2 ∷ 1 ∷ 1 ∷ 1 ∷ 1 ∷ [])
    -- on the last pCPU; the last slot is one of 8, and none of 7
    ∷ rows (read (settled 1 8 9 far 0)) (2 ∷ 6 ∷ 63 ∷ 1 ∷ 7 ∷ 63 ∷ [])
    ∷ rows (read (settled 1 7 9 far 0)) []
    -- back onto pCPU 63, though 0 is idle and admitted
    ∷ rows (read (settled 1 8 9 far (2 ^ 63 + 1))) (1 ∷ 7 ∷ 63 ∷ [])
    ∷ []

pub rows-due : AllDue table
unfolding scan first first_idle_pcpu_for placement placeable beaten loses chosen victim decide tabled dispatched_in left_in settled value more_deserving
rows-due = refl

-- of a slice of 0 whoever was dispatched may be preempted at once: 0 for 2, and then 1 for 0, which left with the 3 that it came with
abbrev pub at_once : List Row
at_once =
    rows (read (settled 0 3 9 chain 1))
    (1 ∷ 0 ∷ 0 ∷ 2 ∷ 2 ∷ 1 ∷ 1 ∷ 1 ∷ 1 ∷ 2 ∷ 0 ∷ 0 ∷ 1 ∷ 2 ∷ 0 ∷ 2 ∷ 1 ∷ 1 ∷ 1 ∷ 0 ∷ 1 ∷ [])
    ∷ []

pub at_once_due : AllDue at_once
unfolding scan first first_idle_pcpu_for placement placeable beaten loses chosen victim decide tabled dispatched_in left_in settled value more_deserving
at_once_due = refl

-- ---- what a move leaves

-- what a row has: 1 where it waits, p + 2 where it may be preempted on pCPU p, its weight, its mask, the pCPU that it was last on, the
-- limbs of its service, and those once it has left
abbrev number_of : Standing → ℕ
number_of Rests = 0
number_of Waits = 1
number_of (Expired p) = p + 2

abbrev numbers : List Slot → ℕ → List ℕ
numbers t i =
    let r = row_at t i in number_of r.standing ∷ r.weight ∷ r.mask ∷ r.last ∷ r.service ++ r.leaving

-- the last of three slots may be preempted on the last pCPU
abbrev filled : List Slot
filled =
    slot Waits 1 1 ∷ slot Rests 0 0
    ∷ record {
      standing = Expired 63;
      mask = 2 ^ 63 + 5;
      service = 1 ∷ 2 ∷ 3 ∷ 4 ∷ [];
      weight = 300;
      last = 8;
      leaving = 9 ∷ 10 ∷ 11 ∷ 12 ∷ [];
    }
    ∷ []

abbrev pub stores : List Row
stores =
    rows (numbers filled 2) (65 ∷ 300 ∷ (2 ^ 63 + 5) ∷ 8 ∷ 1 ∷ 2 ∷ 3 ∷ 4 ∷ 9 ∷ 10 ∷ 11 ∷ 12 ∷ [])
    -- dispatched onto 63, at a slice of 1 and of 0
    ∷ rows (numbers (dispatched_in 1 filled 2 63) 2) (0 ∷ 300 ∷ (2 ^ 63 + 5) ∷ 63 ∷ 1 ∷ 2 ∷ 3 ∷ 4 ∷ 9 ∷ 10 ∷ 11 ∷ 12 ∷ [])
    ∷ rows (numbers (dispatched_in 0 filled 2 63) 2) (65 ∷ 300 ∷ (2 ^ 63 + 5) ∷ 63 ∷ 1 ∷ 2 ∷ 3 ∷ 4 ∷ 1 ∷ 2 ∷ 3 ∷ 4 ∷ [])
    -- come off it
    ∷ rows (numbers (left_in filled 2) 2) (1 ∷ 300 ∷ (2 ^ 63 + 5) ∷ 8 ∷ 9 ∷ 10 ∷ 11 ∷ 12 ∷ 9 ∷ 10 ∷ 11 ∷ 12 ∷ [])
    -- the others stay
    ∷ rows (numbers (dispatched_in 0 filled 2 63) 0) (numbers filled 0)
    ∷ rows (numbers (left_in filled 2) 0) (numbers filled 0)
    -- a set that has the pCPU stays
    ∷ rows (with_pcpu 5 2 ∷ with_pcpu 5 1 ∷ with_pcpu 1 63 ∷ []) (5 ∷ 7 ∷ (2 ^ 63 + 1) ∷ [])
    -- of a decision to rest nothing is left but what was there; the set loses the pCPU of a dispatch, and gains that of a preemption
    ∷ rows (numbers (table_after 0 filled Rest) 2) (numbers filled 2)
    ∷ rows (numbers (table_after 0 filled (Run 2 63)) 2) (65 ∷ 300 ∷ (2 ^ 63 + 5) ∷ 63 ∷ 1 ∷ 2 ∷ 3 ∷ 4 ∷ 1 ∷ 2 ∷ 3 ∷ 4 ∷ [])
    ∷ rows (numbers (table_after 0 filled (Preempt 2 63)) 2)
    (1 ∷ 300 ∷ (2 ^ 63 + 5) ∷ 8 ∷ 9 ∷ 10 ∷ 11 ∷ 12 ∷ 9 ∷ 10 ∷ 11 ∷ 12 ∷ [])
    ∷ rows (map (idle_after 5) (Rest ∷ Run 2 2 ∷ Preempt 2 2 ∷ Preempt 2 1 ∷ [])) (5 ∷ 1 ∷ 5 ∷ 7 ∷ [])
    -- a preemption names a pCPU of the word
    ∷ rows (read (map made (Run 2 63 ∷ Preempt 2 63 ∷ Preempt 2 64 ∷ Rest ∷ []))) (1 ∷ 2 ∷ 63 ∷ 2 ∷ 2 ∷ 63 ∷ 2 ∷ 2 ∷ 0 ∷ 0 ∷ [])
    -- the log, as far as it is filled; an entry that none is logged as is read as one that is
    ∷ rows (read (logged_first (Onto 0 0 ∷ Off 0 0 ∷ Onto 63 127 ∷ Off 63 127 ∷ Off 255 65535 ∷ Onto 1 0 ∷ []) 5))
    (1 ∷ 0 ∷ 0 ∷ 2 ∷ 0 ∷ 0 ∷ 1 ∷ 127 ∷ 63 ∷ 2 ∷ 127 ∷ 63 ∷ 2 ∷ 127 ∷ 63 ∷ [])
    ∷ []

pub stores-due : AllDue stores
unfolding dispatched_in left_in
stores-due = refl
