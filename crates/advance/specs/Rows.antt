-- Advances worked out by hand from the requirements: the moves of each, and what it leaves. Assumes nothing.
use Rattle.std.specs.Prelude.{ℕ, ◌/◌, ◌%◌, Bool, true, false, refl, List, [], ◌∷◌, ◌++◌}
use Rattle.rows.specs.Rows.{Row, rows, test, AllDue}
use Rattle.system.specs.declared.RunState.{RunState}
use Rattle.system.specs.declared.RunState.TheVariants.{Runnable, Running}
use Rattle.system.specs.declared.VirtualCpu.{VirtualCpu}
use Rattle.system.specs.declared.Occupant.{Occupant}
use Rattle.system.specs.declared.Occupant.TheVariants.{Idle, Vcpu}
use Rattle.system.specs.declared.System.{System}
use Rattle.system.specs.Reads.{occupant_at, runtime_at}
use Rattle.system.specs.Shape.{fresh}
use Rattle.system.specs.Writes.{put_vcpu, put_occupant}
use Rattle.moves.specs.declared.Choice.{Choice}
use Rattle.moves.specs.declared.Choice.TheVariants.{Run, Preempt, Rest}
use Rattle.policy.specs.declared.Account.{Account}
use Rattle.policy.specs.declared.Scheduler.{Scheduler}
use Rattle.policy.specs.Accounts.{no_offset, offset_of, was_schedulable, put_account, fresh_policy}
use Rattle.advance.specs.declared.Decision.{Decision}
use Rattle.advance.specs.declared.Decision.TheVariants as decision
use Rattle.advance.specs.Advance.{next, AdvanceResult, advance}
use Rattle.advance.specs.BackToLast.{without_lasts}
use Rattle.advance.specs.Outcomes.{counted}
use Rattle.advance.specs.Computing.{computing}

-- ---- what is read

-- a dispatch of d/v onto pCPU p, and a preemption of d/v there
abbrev onto : ℕ → ℕ → ℕ → List ℕ
onto d v p = 1 ∷ d ∷ v ∷ p ∷ []

abbrev off : ℕ → ℕ → ℕ → List ℕ
off d v p = 2 ∷ d ∷ v ∷ p ∷ []

abbrev moved : List Choice → List ℕ
moved [] = []
moved (Run i p ∷ cs) = onto (i / 8) (i % 8) p ++ moved cs
moved (Preempt i p ∷ cs) = off (i / 8) (i % 8) p ++ moved cs
moved (Rest ∷ cs) = 0 ∷ moved cs

abbrev decided : Decision → List ℕ
decided (decision.Run d v p) = onto d v p
decided (decision.Preempt d v p) = off d v p
decided decision.Idle = 0 ∷ []

-- who holds a pCPU, if anybody does
abbrev holder : Occupant → List ℕ
holder Idle = []
holder (Vcpu d v) = d ∷ v ∷ []

-- of an advance: the count; the moves; who holds pCPU 0; the run time of 0/0; who of 0/0 and 0/1 is in the snapshot; the offset of 0/1
abbrev read : AdvanceResult → List ℕ
read r =
    (counted r).count ∷ moved r.moves ++ holder (occupant_at r.system 0)
    ++ (runtime_at r.system 0 ∷ test (was_schedulable r.policy 0 0) ∷ test (was_schedulable r.policy 0 1)
    ∷ offset_of r.policy 0 1 ∷ [])

-- ---- one pCPU, two vCPUs, slice 10; 0/0 as it is said, 0/1 waits

abbrev vcpu : RunState → ℕ → VirtualCpu
vcpu st since = record { state = st; runtime = 0; dispatched_at = since; affinity = 1; last = 64 }

abbrev account : Bool → Account
account was = record { weight = 256; offset = no_offset; was_schedulable = was }

pub record Situation : Type 0 where
  pub system : System
  pub policy : Scheduler

-- both wait, and neither is in the snapshot
abbrev waiting : Situation
waiting =
    record { system = put_vcpu (put_vcpu (fresh 1 2 1) 0 (vcpu Runnable 0)) 1 (vcpu Runnable 0); policy = fresh_policy 1 2 10 }

-- 0/0 holds the pCPU from 100 on and is in the snapshot; 0/1 is in it if it is so said
abbrev running : Bool → Situation
running was =
    record {
      system = put_occupant (put_vcpu (put_vcpu (fresh 1 2 1) 0 (vcpu (Running 0) 100)) 1 (vcpu Runnable 0)) 0 (Vcpu 0 0);
      policy = put_account (put_account (fresh_policy 1 2 10) 0 0 (account true)) 0 1 (account was);
    }

abbrev advanced : Situation → ℕ → List ℕ
advanced h now = read (advance h.system h.policy now)

-- ---- two pCPUs, four vCPUs, slice 0

abbrev ran : ℕ → RunState → ℕ → VirtualCpu
ran time st mask = record { state = st; runtime = time; dispatched_at = 0; affinity = mask; last = 64 }

-- 0/0 waits for pCPU 1 and 0/1 for pCPU 0; they ran for 2 and 0
abbrev pinned : System
pinned = put_vcpu (put_vcpu (fresh 1 4 2) 0 (ran 2 Runnable 2)) 1 (ran 0 Runnable 1)

-- 0/2 holds pCPU 0 and 0/3 pCPU 1, from 0 on, and both admit either; they ran for 1 and 3
abbrev crossed : Situation
crossed =
    record {
      system =
          put_occupant (put_occupant (put_vcpu (put_vcpu pinned 2 (ran 1 (Running 0) 3)) 3 (ran 3 (Running 1) 3)) 0 (Vcpu 0 2)) 1 (Vcpu 0 3);
      policy = fresh_policy 1 4 0;
    }

-- ---- two pCPUs, both idle, and one vCPU that waits: it was last on pCPU 1

abbrev away : System
away = put_vcpu (fresh 1 1 2) 0 (record { state = Runnable; runtime = 0; dispatched_at = 0; affinity = 3; last = 1 })

abbrev pub table : List Row
table =
    -- of two alike the earlier goes on; both are in the snapshot then
    rows (advanced waiting 100) (1 ∷ onto 0 0 0 ++ (0 ∷ 0 ∷ 0 ∷ 1 ∷ 1 ∷ 0 ∷ []))
    -- it has held the pCPU for 9: it stays
    ∷ rows (advanced (running true) 109) (0 ∷ 0 ∷ 0 ∷ 0 ∷ 1 ∷ 1 ∷ 0 ∷ [])
    -- for 10, the slice: it comes off with a run time of 10, and 0/1, which has had nothing, goes on
    ∷ rows (advanced (running true) 110) (2 ∷ off 0 0 0 ++ onto 0 1 0 ++ (0 ∷ 1 ∷ 10 ∷ 1 ∷ 1 ∷ 0 ∷ []))
    -- for 50, but 0/1 joins the pool now: it is lifted to the floor, 50 over 256, and does not beat 0/0
    ∷ rows (advanced (running false) 150) (0 ∷ 0 ∷ 0 ∷ 0 ∷ 1 ∷ 1 ∷ 50 ∷ [])
    -- with slice 0 whoever went on may come off again: 0/3 yields to 0/0, 0/2 to 0/1, 0/0 to 0/2; that is more than 2 × pCPUs + 1 moves
    ∷ rows (moved (advance crossed.system crossed.policy 0).moves)
    (off 0 3 1 ++ onto 0 0 1 ++ off 0 2 0 ++ onto 0 1 0 ++ off 0 0 1 ++ onto 0 2 1)
    -- `next` says the domain and the vCPU: of 2 domains of 4 vCPUs on 3 pCPUs 1/3 alone waits, and its mask admits pCPU 0
    ∷ rows (decided (next (put_vcpu (fresh 2 4 3) 11 (vcpu Runnable 0)) (fresh_policy 2 4 10) 0).decision) (onto 1 3 0)
    -- back onto pCPU 1, by `next` and by an advance; upstream says pCPU 0
    ∷ rows (decided (next away (fresh_policy 1 1 10) 0).decision) (onto 0 0 1)
    ∷ rows (moved (advance away (fresh_policy 1 1 10) 0).moves) (onto 0 0 1)
    ∷ rows (decided (next (without_lasts away) (fresh_policy 1 1 10) 0).decision) (onto 0 0 0)
    ∷ []

pub rows-due : AllDue table
unfolding computing without_lasts
rows-due = refl
