-- Every request of a vCPU in every state, by figures worked out by hand: what is told, and what is left. Assumes nothing.
use Rattle.std.specs.Prelude.{ℕ, ◌+◌, ◌-◌, ◌*◌, ◌^◌, refl, List, [], ◌∷◌}
use Rattle.rows.specs.Rows.{Row, row, rows, test, AllDue}
use Rattle.system.specs.declared.RunState.{RunState}
use Rattle.system.specs.declared.RunState.TheVariants.{Offline, Runnable, Running, Blocked}
use Rattle.system.specs.declared.VirtualCpu.{VirtualCpu}
use Rattle.system.specs.declared.Occupant.{Occupant}
use Rattle.system.specs.declared.Occupant.TheVariants.{Idle, Vcpu}
use Rattle.system.specs.Answers.{told}
use Rattle.system.specs.States.{while_running}
use Rattle.calls.specs.declared.Request.{Request}
use Rattle.changes.specs.declared.After.{After}
use Rattle.changes.specs.Records.{dispatched, left}
use Rattle.changes.specs.Changes.{changed, reaches, stored}

-- 0 Offline, 1 Runnable, 2 Blocked, 10 + p Running on pCPU p
abbrev numbered : RunState → ℕ
numbered Offline = 0
numbered Runnable = 1
numbered (Running p) = 10 + p
numbered Blocked = 2

-- 0 idle, else 1 + 10 × domain + vCPU
abbrev held : Occupant → ℕ
held Idle = 0
held (Vcpu d v) = 1 + 10 * d + v

-- the answer; the vCPU's state, run time, clock while Running, mask, and last pCPU; who holds the pCPU
abbrev seen : After → List ℕ
seen a =
    told a.answer
    ∷ numbered a.vcpu.state
    ∷ a.vcpu.runtime
    ∷ while_running a.vcpu.state (λ p. a.vcpu.dispatched_at) 0
    ∷ a.vcpu.affinity
    ∷ a.vcpu.last
    ∷ held a.pcpu.occupant
    ∷ []

-- 2/3 in a state: it ran for 7 ticks, was dispatched at 100, admits pCPUs 0 and 2, and is said to have been last on pCPU 3
abbrev vcpu : ℕ → RunState → VirtualCpu
vcpu time st = record { state = st; runtime = time; dispatched_at = 100; affinity = 5; last = 3 }

-- a request of it, on a host of 4 pCPUs, where the pCPU in question is held so
abbrev after : Request → RunState → Occupant → List ℕ
after q st o = seen (stored (changed q 4 (vcpu 7 st)) (Vcpu 2 3) (vcpu 7 st) (record { occupant = o }))

-- a preemption at a clock, by the run time
abbrev preempted-at : ℕ → ℕ → List ℕ
preempted-at time now =
    let v = vcpu time (Running 2) in
    seen (stored (changed (Request.Preempt now) 4 v) (Vcpu 2 3) v (record { occupant = Vcpu 2 3 }))

-- a number is told, and it is as it was: off its pCPU, or Running on pCPU 2
abbrev kept : ℕ → ℕ → ℕ → List ℕ
kept number state holder = number ∷ state ∷ 7 ∷ 0 ∷ 5 ∷ 3 ∷ holder ∷ []

abbrev kept_on : ℕ → List ℕ
kept_on number = number ∷ 12 ∷ 7 ∷ 100 ∷ 5 ∷ 3 ∷ 24 ∷ []

abbrev mine : Occupant
mine = Vcpu 2 3

abbrev pub requests : List Row
requests =
    -- admit: of one Offline
    rows (after Request.Admit Offline Idle) (0 ∷ 1 ∷ 7 ∷ 0 ∷ 5 ∷ 3 ∷ 0 ∷ [])
    ∷ rows (after Request.Admit Runnable Idle) (kept 4 1 0)
    ∷ rows (after Request.Admit (Running 2) mine) (kept_on 11)
    ∷ rows (after Request.Admit Blocked Idle) (kept 12 2 0)
    -- run at 110: of one Runnable, onto an idle pCPU that the mask admits; the state before the mask, the mask before the holder
    ∷ rows (after (Request.Run 2 110) Runnable Idle) (0 ∷ 12 ∷ 7 ∷ 110 ∷ 5 ∷ 2 ∷ 24 ∷ [])
    ∷ rows (after (Request.Run 2 110) Runnable (Vcpu 0 1)) (kept 5 1 2)
    ∷ rows (after (Request.Run 1 110) Runnable Idle) (kept 6 1 0)
    ∷ rows (after (Request.Run 1 110) Runnable (Vcpu 0 1)) (kept 6 1 2)
    ∷ rows (after (Request.Run 1 110) Offline (Vcpu 0 1)) (kept 10 0 2)
    ∷ rows (after (Request.Run 1 110) (Running 2) (Vcpu 0 1)) (11 ∷ 12 ∷ 7 ∷ 100 ∷ 5 ∷ 3 ∷ 2 ∷ [])
    ∷ rows (after (Request.Run 1 110) Blocked (Vcpu 0 1)) (kept 12 2 2)
    ∷ rows (after (Request.Run 2 110) Offline Idle) (kept 10 0 0)
    ∷ rows (after (Request.Run 2 110) (Running 2) mine) (kept_on 11)
    ∷ rows (after (Request.Run 2 110) Blocked Idle) (kept 12 2 0)
    -- preempt at 110: of one Running; 10 ticks are added
    ∷ rows (after (Request.Preempt 110) (Running 2) mine) (0 ∷ 1 ∷ 17 ∷ 0 ∷ 5 ∷ 3 ∷ 0 ∷ [])
    ∷ rows (after (Request.Preempt 110) Offline Idle) (kept 10 0 0)
    ∷ rows (after (Request.Preempt 110) Runnable Idle) (kept 4 1 0)
    ∷ rows (after (Request.Preempt 110) Blocked Idle) (kept 12 2 0)
    -- a clock that ran back adds nothing; a run time is held at 2^64 − 1
    ∷ rows (preempted-at 7 90) (0 ∷ 1 ∷ 7 ∷ 0 ∷ 5 ∷ 3 ∷ 0 ∷ [])
    ∷ rows (preempted-at (2 ^ 64 - 11) 110) (0 ∷ 1 ∷ (2 ^ 64 - 1) ∷ 0 ∷ 5 ∷ 3 ∷ 0 ∷ [])
    ∷ rows (preempted-at (2 ^ 64 - 4) 110) (0 ∷ 1 ∷ (2 ^ 64 - 1) ∷ 0 ∷ 5 ∷ 3 ∷ 0 ∷ [])
    -- block at 110: of one Runnable or Running
    ∷ rows (after (Request.Block 110) Runnable Idle) (0 ∷ 2 ∷ 7 ∷ 0 ∷ 5 ∷ 3 ∷ 0 ∷ [])
    ∷ rows (after (Request.Block 110) (Running 2) mine) (0 ∷ 2 ∷ 17 ∷ 0 ∷ 5 ∷ 3 ∷ 0 ∷ [])
    ∷ rows (after (Request.Block 110) Offline Idle) (kept 10 0 0)
    ∷ rows (after (Request.Block 110) Blocked Idle) (kept 12 2 0)
    -- wake: of one Blocked
    ∷ rows (after Request.Wake Blocked Idle) (0 ∷ 1 ∷ 7 ∷ 0 ∷ 5 ∷ 3 ∷ 0 ∷ [])
    ∷ rows (after Request.Wake Offline Idle) (kept 10 0 0)
    ∷ rows (after Request.Wake Runnable Idle) (kept 4 1 0)
    ∷ rows (after Request.Wake (Running 2) mine) (kept_on 11)
    -- a mask: of one in any state, but not one that excludes the pCPU that it is Running on
    ∷ rows (after (Request.SetAffinity 4) Offline Idle) (0 ∷ 0 ∷ 7 ∷ 0 ∷ 4 ∷ 3 ∷ 0 ∷ [])
    ∷ rows (after (Request.SetAffinity 0) Runnable Idle) (0 ∷ 1 ∷ 7 ∷ 0 ∷ 0 ∷ 3 ∷ 0 ∷ [])
    ∷ rows (after (Request.SetAffinity 4) (Running 2) mine) (0 ∷ 12 ∷ 7 ∷ 100 ∷ 4 ∷ 3 ∷ 24 ∷ [])
    ∷ rows (after (Request.SetAffinity 11) (Running 2) mine) (kept_on 6)
    ∷ rows (after (Request.SetAffinity 0) Blocked Idle) (0 ∷ 2 ∷ 7 ∷ 0 ∷ 0 ∷ 3 ∷ 0 ∷ [])
    -- clipped to the 4 pCPUs: as it is stored, and as it is tested
    ∷ rows (after (Request.SetAffinity (2 ^ 64 - 1)) Runnable Idle) (0 ∷ 1 ∷ 7 ∷ 0 ∷ 15 ∷ 3 ∷ 0 ∷ [])
    ∷ rows (after (Request.SetAffinity (2 ^ 64 - 5)) (Running 2) mine) (kept_on 6)
    -- offline at 110: of one not Offline; the mask is filled, no pCPU is the last, the run time is kept
    ∷ rows (after (Request.Offline 110) Runnable Idle) (0 ∷ 0 ∷ 7 ∷ 0 ∷ 15 ∷ 64 ∷ 0 ∷ [])
    ∷ rows (after (Request.Offline 110) (Running 2) mine) (0 ∷ 0 ∷ 17 ∷ 0 ∷ 15 ∷ 64 ∷ 0 ∷ [])
    ∷ rows (after (Request.Offline 110) Blocked Idle) (0 ∷ 0 ∷ 7 ∷ 0 ∷ 15 ∷ 64 ∷ 0 ∷ [])
    ∷ rows (after (Request.Offline 110) Offline Idle) (kept 10 0 0)
    -- of 2 pCPUs a run asks for 0 or 1
    ∷ row (test (reaches (Request.Run 1 0) 2)) 1
    ∷ row (test (reaches (Request.Run 2 0) 2)) 0
    ∷ row (test (reaches (Request.Offline 0) 0)) 1
    ∷ []

pub requests-due : AllDue requests
unfolding dispatched left
requests-due = refl
