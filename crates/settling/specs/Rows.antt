-- Standings, idle sets and what moves leave, in figures. Assumes nothing.
use Rattle.std.specs.Prelude.{ℕ, ◌+◌, true, false, refl, List, [], ◌∷◌}
use Rattle.rows.specs.Rows.{Row, row, AllDue}
use Rattle.masks.specs.Sets.{set_of}
use Rattle.system.specs.declared.RunState.{RunState}
use Rattle.system.specs.declared.RunState.TheVariants.{Offline, Runnable, Running, Blocked}
use Rattle.system.specs.declared.VirtualCpu.{VirtualCpu}
use Rattle.system.specs.declared.System.{System}
use Rattle.system.specs.Shape.{fresh}
use Rattle.system.specs.Reads.{vcpu_at, occupant_at, state_at, last_at}
use Rattle.system.specs.States.{onto}
use Rattle.system.specs.Writes.{put_vcpu, put_occupant}
use Rattle.changes.specs.Records.{dispatched, left}
use Rattle.moves.specs.declared.Standing.{Standing}
use Rattle.moves.specs.declared.Standing.TheVariants.{Rests, Waits, Expired}
use Rattle.moves.specs.declared.Choice.TheVariants.{Run, Preempt}
use Rattle.settling.specs.Standings.{standing_of}
use Rattle.settling.specs.IdleSet.{idle_set}
use Rattle.settling.specs.AfterMoves.{after_moves}

-- dispatched at clock 90
vcpu : RunState → VirtualCpu
vcpu st = record { state = st; runtime = 7; dispatched_at = 90; affinity = 255; last = 3 }

-- 0 for one that rests, 1 for one that waits, p + 2 for one that may be preempted on pCPU p
abbrev number : Standing → ℕ
number Rests = 0
number Waits = 1
number (Expired p) = p + 2

-- its standing at clock 100 under a slice of q
at_slice : ℕ → RunState → ℕ
unfolding vcpu
at_slice q st = number (standing_of true false q 100 (vcpu st))

-- on three pCPUs slot 1 goes onto pCPU 2, and then comes off it again
begun : System
begun = after_moves (fresh 1 2 3) 40 (Run 1 2 ∷ [])

ended : System
ended = after_moves (fresh 1 2 3) 40 (Run 1 2 ∷ Preempt 1 2 ∷ [])

abbrev pub table : List Row
unfolding at_slice vcpu begun ended
table =
    -- one that waits, one that waits and is barred, one in a slot that has no vCPU
    row (at_slice 10 Runnable) 1
    ∷ row (number (standing_of true true 10 100 (vcpu Runnable))) 0
    ∷ row (number (standing_of false false 10 100 (vcpu Runnable))) 0
    -- runners on pCPU 3: at the end of the slice, within it, under a slice of 0; barred or not, they are alike
    ∷ row (at_slice 10 (Running 3)) 5
    ∷ row (at_slice 11 (Running 3)) 0
    ∷ row (at_slice 0 (Running 3)) 5
    ∷ row (number (standing_of true true 10 100 (vcpu (Running 3)))) 5
    ∷ row (at_slice 0 Blocked) 0
    ∷ row (at_slice 0 Offline) 0
    -- all three pCPUs are idle; then 0 and 1 are; then all three again
    ∷ row (idle_set (fresh 1 2 3)) 7
    ∷ row (idle_set begun) 3
    ∷ row (idle_set ended) 7
    ∷ row (onto (state_at begun 1)) 2
    ∷ row (last_at ended 1) 2
    ∷ []

pub rows-due : AllDue table
unfolding fresh idle_set set_of after_moves vcpu_at occupant_at put_vcpu put_occupant dispatched left vcpu at_slice begun ended
rows-due = refl
