-- What the book has and tells after calls, beside what the requirements say of it. Assumes nothing.
use Rattle.std.specs.Prelude.{ℕ, ◌+◌, false, refl, List, [], ◌∷◌, ◌++◌}
use Rattle.rows.specs.Rows.{Row, row, rows, AllDue}
use Rattle.system.specs.declared.RunState.{RunState}
use Rattle.system.specs.declared.RunState.TheVariants.{Offline, Runnable, Running, Blocked}
use Rattle.moves.specs.declared.Choice.TheVariants.{Run, Preempt}
use Rattle.scans.specs.Scan.{Pick, nobody, at}
use Rattle.calls.specs.declared.Call.{Call}
use Rattle.calls.specs.Asked as call
use Rattle.host.specs.Computing.{computing}
use Rattle.demand3.specs.Dated.{Direction, onto, off, Dated}
use Rattle.demand3.specs.Book.{Line, Book, Shape, Entry, blank_book, holder, offline_lines, moved_all, enter}

-- two domains of two vCPUs on two pCPUs, whose full mask is 3
abbrev k : Shape
k = record { domains = 2; vcpus = 2; pcpus = 2 }

-- a book after calls without moves of an advance
unfoldable pub entries : Book → List Call → Book
entries b [] = b
entries b (c ∷ cs) = entries (enter k b c []).book cs

abbrev book : List Call → Book
book cs = entries (blank_book k) cs

-- what is entered next
abbrev next : List Call → Call → Entry
next cs c = enter k (book cs) c []

-- ---- as numbers

-- 0 Offline, 1 Runnable, 2 Running, with its pCPU, 3 Blocked; then the run time and the mask
abbrev state : RunState → List ℕ
state Offline = 0 ∷ 0 ∷ []
state Runnable = 1 ∷ 0 ∷ []
state (Running p) = 2 ∷ p ∷ []
state Blocked = 3 ∷ 0 ∷ []

abbrev line : Line → List ℕ
line l = state l.state ++ (l.time ∷ l.mask ∷ [])

-- 0 for nobody, else the slot and 1
abbrev held : Pick → ℕ
held nobody = 0
held (at i) = i + 1

-- 1 onto, 0 off, the slot, the pCPU, the clock
abbrev direction : Direction → ℕ
direction onto = 1
direction off = 0

unfoldable pub listed : List Dated → List ℕ
listed [] = []
listed (m ∷ ms) = direction m.direction ∷ m.slot ∷ m.pcpu ∷ m.clock ∷ listed ms

-- ---- lists

-- 0/0 runs on pCPU 1 from 5
abbrev runs : List Call
runs = call.admit 0 0 ∷ call.run 0 0 1 5 ∷ []

-- 0/0 runs on pCPU 1, and 0/1 waits and admits pCPU 0 alone
abbrev off-mask : List Call
off-mask = runs ++ (call.admit 0 1 ∷ call.set_affinity 0 1 1 ∷ [])

-- 0/0 is Blocked
abbrev sleeps : List Call
sleeps = runs ++ (call.block 0 0 9 ∷ [])

-- 0/0, 0/1 and 1/1 wait, and 0/1 admits pCPU 0 alone
abbrev waiting : List Call
waiting = call.admit 0 0 ∷ call.admit 0 1 ∷ call.set_affinity 0 1 1 ∷ call.admit 1 1 ∷ []

-- two moves of an advance at 30: 0/0 comes off pCPU 1, and 1/1 goes onto it
abbrev advanced : Entry
advanced = enter k (book (runs ++ (call.admit 1 1 ∷ []))) (Call.Advance 30) (Preempt 0 1 ∷ Run 9 1 ∷ [])

-- ---- the tables

-- one vCPU's line
abbrev pub written : List Row
written =
    -- at first Offline, nothing run, the mask full
    rows (line (book [] 0)) (0 ∷ 0 ∷ 0 ∷ 3 ∷ [])
    -- admit and wake make it Runnable
    ∷ rows (line (book (call.admit 0 0 ∷ []) 0)) (1 ∷ 0 ∷ 0 ∷ 3 ∷ [])
    ∷ rows (line (book (call.admit 0 0 ∷ call.block 0 0 9 ∷ call.wake 0 0 ∷ []) 0)) (1 ∷ 0 ∷ 0 ∷ 3 ∷ [])
    -- run makes it Running on that pCPU from that clock, and it holds that pCPU alone
    ∷ rows (line (book runs 0)) (2 ∷ 1 ∷ 0 ∷ 3 ∷ [])
    ∷ row (book runs 0).clock 5
    ∷ rows (held (holder k (book runs) 0) ∷ held (holder k (book runs) 1) ∷ []) (0 ∷ 1 ∷ [])
    ∷ rows (listed (next (call.admit 0 0 ∷ []) (call.run 0 0 1 5)).moves) (1 ∷ 0 ∷ 1 ∷ 5 ∷ [])
    -- coming off adds the ticks since that clock, none if the clock ran back
    ∷ rows (line (book (runs ++ (call.preempt 0 0 12 ∷ [])) 0)) (1 ∷ 0 ∷ 7 ∷ 3 ∷ [])
    ∷ rows (line (book (runs ++ (call.preempt 0 0 3 ∷ [])) 0)) (1 ∷ 0 ∷ 0 ∷ 3 ∷ [])
    ∷ rows (line (book (runs ++ (call.block 0 0 12 ∷ [])) 0)) (3 ∷ 0 ∷ 7 ∷ 3 ∷ [])
    ∷ rows (line (book (runs ++ (call.offline 0 0 20 ∷ [])) 0)) (0 ∷ 0 ∷ 15 ∷ 3 ∷ [])
    -- mask stores the clipped mask; offline fills it and keeps the run time
    ∷ rows (line (book (call.set_affinity 0 0 5 ∷ []) 0)) (0 ∷ 0 ∷ 0 ∷ 1 ∷ [])
    ∷ rows (line (book (call.admit 0 0 ∷ call.set_affinity 0 0 1 ∷ call.offline 0 0 9 ∷ []) 0)) (0 ∷ 0 ∷ 0 ∷ 3 ∷ [])
    ∷ rows (line (book (runs ++ (call.block 0 0 12 ∷ call.offline 0 0 99 ∷ [])) 0)) (0 ∷ 0 ∷ 7 ∷ 3 ∷ [])
    -- a refused call writes nothing, nor do weight and boost
    ∷ rows (line (book (runs ++ (call.admit 0 0 ∷ Call.SetWeight 0 0 7 ∷ Call.SetWakeBoost false ∷ [])) 0)) (2 ∷ 1 ∷ 0 ∷ 3 ∷ [])
    ∷ []

-- offline_all takes each vCPU of its domain offline, and nobody else; of a bad domain it changes nothing
abbrev pub taken : List Row
taken =
    rows (line ((next waiting (Call.OfflineAll 0 9)).book 0)) (0 ∷ 0 ∷ 0 ∷ 3 ∷ [])
    ∷ rows (line ((next waiting (Call.OfflineAll 0 9)).book 1)) (0 ∷ 0 ∷ 0 ∷ 3 ∷ [])
    ∷ rows (line ((next waiting (Call.OfflineAll 0 9)).book 9)) (1 ∷ 0 ∷ 0 ∷ 3 ∷ [])
    ∷ rows (line ((next waiting (Call.OfflineAll 2 9)).book 1)) (1 ∷ 0 ∷ 0 ∷ 1 ∷ [])
    ∷ rows (line ((next runs (Call.OfflineAll 0 9)).book 0)) (0 ∷ 0 ∷ 4 ∷ 3 ∷ [])
    ∷ rows (listed (next runs (Call.OfflineAll 0 9)).moves) (0 ∷ 0 ∷ 1 ∷ 9 ∷ [])
    ∷ []

-- an advance writes its moves in order, at its clock
abbrev pub handed : List Row
handed =
    rows (line (advanced.book 0)) (1 ∷ 0 ∷ 25 ∷ 3 ∷ [])
    ∷ rows (line (advanced.book 9)) (2 ∷ 1 ∷ 0 ∷ 3 ∷ [])
    ∷ row (advanced.book 9).clock 30
    ∷ rows (listed advanced.moves) (0 ∷ 0 ∷ 1 ∷ 30 ∷ 1 ∷ 9 ∷ 1 ∷ 30 ∷ [])
    ∷ row advanced.number 0
    ∷ []

-- what a call is told by the book after a list
abbrev tells : List Call → Call → ℕ → Row
tells cs c due = row (next cs c).number due

abbrev pub answered : List Row
answered =
    -- run tests the pCPU, the domain, the vCPU, the state, the mask and then who holds the pCPU
    tells [] (call.run 2 2 2 0) 3
    ∷ tells [] (call.run 2 2 0 0) 1
    ∷ tells [] (call.run 0 2 0 0) 2
    ∷ tells runs (call.run 0 1 1 9) 10
    ∷ tells runs (call.run 0 0 0 9) 11
    ∷ tells sleeps (call.run 0 0 0 9) 12
    ∷ tells off-mask (call.run 0 1 1 9) 6
    ∷ tells (runs ++ (call.admit 1 1 ∷ [])) (call.run 1 1 1 9) 5
    ∷ tells off-mask (call.run 0 1 0 9) 0
    -- the others test the domain, the vCPU and the state: Offline is told 10, Runnable 4, Running 11, Blocked 12
    ∷ tells [] (call.preempt 2 2 0) 1
    ∷ tells [] (call.block 1 2 0) 2
    ∷ tells [] (call.admit 1 1) 0
    ∷ tells waiting (call.admit 0 0) 4
    ∷ tells runs (call.admit 0 0) 11
    ∷ tells sleeps (call.admit 0 0) 12
    ∷ tells [] (call.preempt 0 0 0) 10
    ∷ tells waiting (call.preempt 0 0 0) 4
    ∷ tells sleeps (call.preempt 0 0 9) 12
    ∷ tells [] (call.block 0 0 0) 10
    ∷ tells sleeps (call.block 0 0 9) 12
    ∷ tells sleeps (call.wake 0 0) 0
    ∷ tells [] (call.wake 0 0) 10
    ∷ tells waiting (call.wake 0 0) 4
    ∷ tells runs (call.wake 0 0) 11
    ∷ tells [] (call.offline 0 0 0) 10
    -- a mask, clipped, must not exclude the pCPU that the vCPU is Running on; elsewhere it may be empty
    ∷ tells runs (call.set_affinity 0 0 5) 6
    ∷ tells runs (call.set_affinity 0 0 0) 6
    ∷ tells runs (call.set_affinity 0 0 6) 0
    ∷ tells (call.admit 0 0 ∷ []) (call.set_affinity 0 0 0) 0
    -- these are never refused
    ∷ tells runs (Call.OfflineAll 2 9) 0
    ∷ tells runs (Call.SetWeight 2 2 9) 0
    ∷ tells runs (Call.SetWakeBoost false) 0
    ∷ []

pub written-due : AllDue written
unfolding computing entries listed enter holder
written-due = refl

pub taken-due : AllDue taken
unfolding computing entries listed enter offline_lines holder
taken-due = refl

pub handed-due : AllDue handed
unfolding computing entries listed enter moved_all holder
handed-due = refl

pub answered-due : AllDue answered
unfolding computing entries enter offline_lines holder
answered-due = refl
