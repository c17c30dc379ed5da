-- Which test of a call comes first, what a host that is too large or damaged is told, and the situations of the
-- requirements that are not in `Situations`, by hand. Assumes nothing.
use Rattle.std.specs.Prelude.{ℕ, ◌+◌, true, refl, List, [], ◌∷◌, ◌++◌, map, length}
use Rattle.rows.specs.Rows.{Row, row, rows, AllDue}
use Rattle.system.specs.declared.Occupant.{Occupant}
use Rattle.system.specs.declared.Occupant.TheVariants.{Idle, Vcpu}
use Rattle.system.specs.Reads.{occupant_at}
use Rattle.system.specs.Shape.{fresh}
use Rattle.system.specs.Writes.{put_occupant}
use Rattle.policy.specs.Accounts.{offset_of, fresh_policy, built_policy}
use Rattle.policy.specs.Standing.{weight_at}
use Rattle.policy.specs.Accounting.{accounted}
use Rattle.advance.specs.Advance.{next}
use Rattle.host.specs.declared.Host.{Host}
use Rattle.calls.specs.declared.Call.{Call}
use Rattle.calls.specs.Asked as call
use Rattle.host.specs.Computing.{computing}
use Rattle.host.specs.Step.{step, host_after, fresh_host}
use Rattle.host.specs.Outcomes.{built_host}

abbrev told : Host → Call → ℕ
told h c = (step h c).number

abbrev count : Host → Call → ℕ
count h c = length (step h c).moves

-- ---- a host of 2 domains of 3 vCPUs on 2 pCPUs with each state: 0/0 Running on pCPU 0, 0/1 and 0/2 Runnable, 1/0 Blocked, 1/1 Offline.
-- 0/1 and 1/1 admit pCPU 1 alone

abbrev mixed : Host
mixed =
    host_after (fresh_host 2 3 2 2 3 10)
    (call.admit 0 0 ∷ call.run 0 0 0 0 ∷ call.admit 0 1 ∷ call.set_affinity 0 1 2 ∷ call.admit 0 2 ∷ call.admit 1 0 ∷ call.block 1 0 0
    ∷ call.set_affinity 1 1 2 ∷ [])

-- what a call is told of 9/9, of 9/0, of 1/9, and of 0/8, whose slot would be that of 1/0
abbrev ids : (ℕ → ℕ → Call) → List ℕ
ids call = told mixed (call 9 9) ∷ told mixed (call 9 0) ∷ told mixed (call 1 9) ∷ told mixed (call 0 8) ∷ []

-- what it is told of one Offline, Runnable, Running, Blocked
abbrev states : (ℕ → ℕ → Call) → List ℕ
states call = told mixed (call 1 1) ∷ told mixed (call 0 2) ∷ told mixed (call 0 0) ∷ told mixed (call 1 0) ∷ []

-- 1 before 2, both before what is told by the state: 10 Offline, 4 Runnable, 11 Running, 12 Blocked, or 6
abbrev pub tests : List Row
tests =
    rows (ids call.admit) (1 ∷ 1 ∷ 2 ∷ 2 ∷ [])
    ∷ rows (states call.admit) (0 ∷ 4 ∷ 11 ∷ 12 ∷ [])
    ∷ rows (ids (λ d v. call.preempt d v 0)) (1 ∷ 1 ∷ 2 ∷ 2 ∷ [])
    ∷ rows (states (λ d v. call.preempt d v 0)) (10 ∷ 4 ∷ 0 ∷ 12 ∷ [])
    ∷ rows (ids (λ d v. call.block d v 0)) (1 ∷ 1 ∷ 2 ∷ 2 ∷ [])
    ∷ rows (states (λ d v. call.block d v 0)) (10 ∷ 0 ∷ 0 ∷ 12 ∷ [])
    ∷ rows (ids call.wake) (1 ∷ 1 ∷ 2 ∷ 2 ∷ [])
    ∷ rows (states call.wake) (10 ∷ 4 ∷ 11 ∷ 0 ∷ [])
    ∷ rows (ids (λ d v. call.offline d v 0)) (1 ∷ 1 ∷ 2 ∷ 2 ∷ [])
    ∷ rows (states (λ d v. call.offline d v 0)) (10 ∷ 0 ∷ 0 ∷ 0 ∷ [])
    -- a mask without pCPU 0, and one with it
    ∷ rows (ids (λ d v. call.set_affinity d v 2)) (1 ∷ 1 ∷ 2 ∷ 2 ∷ [])
    ∷ rows (states (λ d v. call.set_affinity d v 2)) (0 ∷ 0 ∷ 6 ∷ 0 ∷ [])
    ∷ rows (states (λ d v. call.set_affinity d v 1)) (0 ∷ 0 ∷ 0 ∷ 0 ∷ [])
    -- run onto pCPU 2, which is not there; onto pCPU 0, which is busy; onto pCPU 1, which is idle
    ∷ rows (ids (λ d v. call.run d v 2 0)) (3 ∷ 3 ∷ 3 ∷ 3 ∷ [])
    ∷ rows (states (λ d v. call.run d v 2 0)) (3 ∷ 3 ∷ 3 ∷ 3 ∷ [])
    ∷ rows (ids (λ d v. call.run d v 0 0)) (1 ∷ 1 ∷ 2 ∷ 2 ∷ [])
    ∷ rows (states (λ d v. call.run d v 0 0)) (10 ∷ 5 ∷ 11 ∷ 12 ∷ [])
    ∷ rows (states (λ d v. call.run d v 1 0)) (10 ∷ 0 ∷ 11 ∷ 12 ∷ [])
    -- onto pCPU 0, which the mask of 0/1 does not admit
    ∷ row (told mixed (call.run 0 1 0 0)) 6
    -- ids out of range: weight and `offline_all` are told 0
    ∷ rows (ids (λ d v. Call.SetWeight d v 7)) (0 ∷ 0 ∷ 0 ∷ 0 ∷ [])
    ∷ row (told mixed (Call.OfflineAll 2 0)) 0
    ∷ []

pub tests-due : AllDue tests
unfolding computing
tests-due = refl

-- ---- too large, or damaged

-- pCPU 0 names 0/0, which is Offline; and 17 domains
abbrev damaged : Host
damaged = record { system = put_occupant (fresh 1 1 1) 0 (Vcpu 0 0); scheduler = fresh_policy 1 1 10 }

abbrev oversized : Host
oversized = record { system = fresh 17 1 1; scheduler = fresh_policy 1 1 10 }

-- every call of the mechanism with each id out of range, `offline_all`, an advance; weight and boost
abbrev every : List Call
every =
    call.admit 9 9 ∷ call.run 9 9 9 0 ∷ call.preempt 9 9 0 ∷ call.block 9 9 0 ∷ call.wake 9 9 ∷ call.offline 9 9 0 ∷ call.set_affinity 9 9 0
    ∷ Call.OfflineAll 9 0 ∷ Call.Advance 0 ∷ Call.SetWeight 9 9 0 ∷ Call.SetWakeBoost true ∷ []

abbrev eights : List ℕ
eights = 8 ∷ 8 ∷ 8 ∷ 8 ∷ 8 ∷ 8 ∷ 8 ∷ 8 ∷ 8 ∷ 0 ∷ 0 ∷ []

-- what `next` is told
abbrev recommended : Host → ℕ
recommended h = (next h.system h.scheduler 0).number

abbrev pub unfit : List Row
unfit =
    rows (map (told damaged) every) eights
    ∷ rows (map (told oversized) every) eights
    ∷ rows (recommended damaged ∷ recommended oversized ∷ count damaged (Call.Advance 0) ∷ []) (8 ∷ 8 ∷ 0 ∷ [])
    -- 16 domains, 8 vCPUs, 64 pCPUs build; one more of any is told 7
    ∷ rows ((built_policy 16 8 10).number ∷ (built_policy 17 8 10).number ∷ (built_policy 16 9 10).number ∷ []) (0 ∷ 7 ∷ 7 ∷ [])
    ∷ rows
    ((built_host 16 8 64 10).number ∷ (built_host 17 8 64 10).number ∷ (built_host 16 9 64 10).number ∷ (built_host 16 8 65 10).number ∷ [])
    (0 ∷ 7 ∷ 7 ∷ 7 ∷ [])
    ∷ []

pub unfit-due : AllDue unfit
unfolding computing next
unfit-due = refl

-- ---- weights, holders, an offset

-- 2 × 2, weight 5 for 1/1
abbrev weighed : Host
weighed = (step (fresh_host 2 2 1 2 2 10) (Call.SetWeight 1 1 5)).host

abbrev weights_after : Call → List ℕ
weights_after c = map (weight_at (step weighed c).host.scheduler) (0 ∷ 1 ∷ 2 ∷ 8 ∷ 9 ∷ 17 ∷ [])

-- who holds pCPU 0: a vCPU of domain 0 by its id and 1, 0 for nobody
abbrev holder_of : Occupant → ℕ
holder_of Idle = 0
holder_of (Vcpu d v) = v + 1

-- one pCPU, slice 10: who holds it after advances at 0, 10, 20, 30, 40, where these calls set the weights
abbrev holders : List Call → List ℕ
holders weights =
    let host : Host = host_after (fresh_host 1 2 1 1 2 10) (weights ++ (call.admit 0 0 ∷ call.admit 0 1 ∷ [])) in
    let after : List Call → ℕ = λ cs. holder_of (occupant_at (host_after host cs).system 0) in
    after (Call.Advance 0 ∷ []) ∷ after (Call.Advance 0 ∷ Call.Advance 10 ∷ [])
    ∷ after (Call.Advance 0 ∷ Call.Advance 10 ∷ Call.Advance 20 ∷ [])
    ∷ after (Call.Advance 0 ∷ Call.Advance 10 ∷ Call.Advance 20 ∷ Call.Advance 30 ∷ [])
    ∷ after (Call.Advance 0 ∷ Call.Advance 10 ∷ Call.Advance 20 ∷ Call.Advance 30 ∷ Call.Advance 40 ∷ []) ∷ []

-- 0/0 and 0/1 run from 0; 0/1 is blocked at 5 and wakes before the advance at 7
abbrev asleep_between : Host
asleep_between =
    host_after (fresh_host 1 2 2 1 2 10)
    (call.admit 0 0 ∷ call.admit 0 1 ∷ Call.Advance 0 ∷ call.block 0 1 5 ∷ call.wake 0 1 ∷ [])

abbrev pub others : List Row
others =
    -- a weight for 2/1, and for 0/9, whose slot would be that of 1/1; a weight of 0 becomes 1
    rows (weights_after (Call.SetWeight 2 1 7)) (256 ∷ 256 ∷ 256 ∷ 256 ∷ 5 ∷ 256 ∷ [])
    ∷ rows (weights_after (Call.SetWeight 0 9 7)) (256 ∷ 256 ∷ 256 ∷ 256 ∷ 5 ∷ 256 ∷ [])
    ∷ rows (weights_after (Call.SetWeight 1 1 0)) (256 ∷ 256 ∷ 256 ∷ 256 ∷ 1 ∷ 256 ∷ [])
    -- weights 2 and 1: first, second, first, first, second
    ∷ rows (holders (Call.SetWeight 0 0 2 ∷ Call.SetWeight 0 1 1 ∷ [])) (1 ∷ 2 ∷ 1 ∷ 1 ∷ 2 ∷ [])
    -- and 512 where the second has none of its own
    ∷ rows (holders (Call.SetWeight 0 0 512 ∷ [])) (1 ∷ 2 ∷ 1 ∷ 1 ∷ 2 ∷ [])
    -- half of the share of one that has none of its own, 128: first, second, second, second, first
    ∷ rows (holders (Call.SetWeight 0 0 128 ∷ [])) (1 ∷ 2 ∷ 2 ∷ 2 ∷ 1 ∷ [])
    -- a host of 0 pCPUs only ever decides Idle
    ∷ row (count (host_after (fresh_host 1 2 0 1 2 10) (call.admit 0 0 ∷ call.admit 0 1 ∷ [])) (Call.Advance 10)) 0
    -- a block and a wake between two advances are no wake edge: no offset, though the floor is 7 over 256
    ∷ row (offset_of (accounted asleep_between.system asleep_between.scheduler 7) 0 1) 0
    ∷ []

pub others-due : AllDue others
unfolding computing
others-due = refl
