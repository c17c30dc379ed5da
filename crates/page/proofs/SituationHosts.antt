-- The hosts of the situations of document 01, and what is read of them, by the page alone.
use Prim.Native.Nat.{ℕ, ◌-◌, ◌^◌}
use mathlib.Core.Bool.{false}
use mathlib.Core.List.{List, [], ◌∷◌}
use lib.ListN.{length}
use Rattle.rows.specs.Rows.{test}
use Rattle.policy.specs.declared.Account.{Account}
use Rattle.advance.specs.declared.Decision.{Decision}
use Rattle.advance.specs.declared.Decision.TheVariants as decision
use Rattle.host.specs.declared.Host.{Host}
use Rattle.calls.specs.declared.Call.{Call}
use Rattle.calls.specs.Asked as call
use Rattle.page.specs.Page as page
use Rattle.page.specs.Page.{times, lowest, vcpu, account, put, four, weight, service, deserving, next, accounted}
use Rattle.page.specs.Steps.{step, after, build}

-- to unfold it is to unfold the definitions by which the page computes
unfoldable pub computing : Type 0
unfolding times lowest next accounted step after build page.set_weight page.new_policy page.new_system page.floor page.renewed
    page.first_violation page.sound page.settle page.advance
computing = Unit {0}

-- a host after calls: d domains of v vCPUs on p pCPUs, slice 10
abbrev pub host : ℕ → ℕ → ℕ → List Call → Host
host d v p cs = after (build d v p 10).host cs

-- ---- what is read

abbrev pub told : Host → Call → ℕ
told h c = (step h c).number

abbrev pub left : Host → Call → Host
left h c = (step h c).host

abbrev pub runtime : Host → ℕ → ℕ → ℕ
runtime h d v = (vcpu h.system d v).runtime

abbrev pub mask : Host → ℕ → ℕ → ℕ
mask h d v = (vcpu h.system d v).affinity

abbrev pub offset : Host → ℕ → ℕ → ℕ
offset h d v = page.number (account h.scheduler d v).offset

-- 1 for a dispatch, 2 for a preemption, 0 for neither; the vCPU and the pCPU
abbrev pub numbered : Decision → List ℕ
numbered (decision.Run d v p) = 1 ∷ d ∷ v ∷ p ∷ []
numbered (decision.Preempt d v p) = 2 ∷ d ∷ v ∷ p ∷ []
numbered decision.Idle = 0 ∷ []

abbrev pub decided : Host → ℕ → List ℕ
decided h now = numbered (next h.system h.scheduler now)

abbrev pub count : Host → Call → ℕ
count h c = length (step h c).moves

-- whether 0/0 is more deserving than 0/1, and 0/1 than 0/0
abbrev pub against : Host → ℕ → List ℕ
against h now =
    test (deserving h.system h.scheduler now 0 0 0 1) ∷ test (deserving h.system h.scheduler now 0 1 0 0) ∷ []

-- their services and weights
abbrev pub standings : Host → ℕ → List ℕ
standings h now =
    service h.system h.scheduler now 0 0 ∷ weight h.scheduler 0 0
    ∷ service h.system h.scheduler now 0 1 ∷ weight h.scheduler 0 1 ∷ []

-- 0/0 is the floor and 0/1 wakes: service and weight of 0/0, weight, run time and offset of 0/1, then its offset after accounting
abbrev pub lift : Host → ℕ → List ℕ
lift h now =
    service h.system h.scheduler now 0 0 ∷ weight h.scheduler 0 0 ∷ weight h.scheduler 0 1 ∷ runtime h 0 1
    ∷ offset h 0 1 ∷ offset (record { system = h.system; scheduler = accounted h.system h.scheduler now }) 0 1 ∷ []

-- ---- the hosts

-- 0/0 runs on pCPU 0, 0/1 is Offline
abbrev pub one-runs : List Call
one-runs = call.admit 0 0 ∷ call.run 0 0 0 0 ∷ []

-- 0/0 runs on pCPU 0, 0/1 is Runnable and admits pCPU 1 alone
abbrev pub off-mask : List Call
off-mask = call.admit 0 0 ∷ call.run 0 0 0 0 ∷ call.admit 0 1 ∷ call.set_affinity 0 1 2 ∷ []

-- 2 pCPUs, of which 0/0 admits pCPU 0 alone
abbrev pub narrowed : Host
narrowed = host 1 1 2 (call.set_affinity 0 0 1 ∷ [])

-- 0/0 ran for 7 ticks and is dispatched at 100
abbrev pub dispatched-at_100 : Host
dispatched-at_100 = host 1 1 1 (call.admit 0 0 ∷ call.run 0 0 0 0 ∷ call.preempt 0 0 7 ∷ call.run 0 0 0 100 ∷ [])

-- 0/0 ran for 2^64 − 4 ticks and is dispatched at 0
abbrev pub near_the_top : Host
near_the_top = host 1 1 1 (call.admit 0 0 ∷ call.run 0 0 0 0 ∷ call.preempt 0 0 (2 ^ 64 - 4) ∷ call.run 0 0 0 0 ∷ [])

-- weights 2 and 1; 0/0 ran for 10 ticks, 0/1 for 5
abbrev pub even : Host
even =
    host 1 2 1
    (Call.SetWeight 0 0 2 ∷ Call.SetWeight 0 1 1 ∷ call.admit 0 0 ∷ call.admit 0 1 ∷ call.run 0 0 0 0 ∷ call.preempt 0 0 10
    ∷ call.run 0 1 0 10 ∷ call.preempt 0 1 15 ∷ [])

-- a host with other accounts of 0/0 and 0/1
abbrev pub with-accounts : Host → Account → Account → Host
with-accounts h a b = record { system = h.system; scheduler = put (put h.scheduler 0 0 a) 0 1 b }

-- weights 2^30, offsets 2^100 and 2^101
abbrev pub huge : Host
huge =
    with-accounts (host 1 2 1 []) (record { weight = 2 ^ 30; offset = four (2 ^ 100); was_schedulable = false })
    (record { weight = 2 ^ 30; offset = four (2 ^ 101); was_schedulable = false })

-- 0/0, weight 3, stays in the pool, running from 0; 0/1, weight 2, ran for 1 tick, was blocked and is awake again
abbrev pub waker : Host
waker =
    host 1 2 2
    (Call.SetWeight 0 0 3 ∷ Call.SetWeight 0 1 2 ∷ call.admit 0 1 ∷ call.run 0 1 1 0 ∷ call.block 0 1 1
    ∷ call.admit 0 0 ∷ Call.Advance 0 ∷ call.wake 0 1 ∷ [])

-- the same at weights 1, with 10 ticks run by 0/1, whose offset is 100
abbrev pub waker_again : Host
waker_again =
    let h =
    host 1 2 2
    (Call.SetWeight 0 0 1 ∷ Call.SetWeight 0 1 1 ∷ call.admit 0 1 ∷ call.run 0 1 1 0 ∷ call.block 0 1 10
    ∷ call.admit 0 0 ∷ Call.Advance 0 ∷ call.wake 0 1 ∷ []) in
    with-accounts h (account h.scheduler 0 0) (record { weight = 1; offset = four 100; was_schedulable = false })

-- two on one pCPU, 0/0 dispatched at 100
abbrev pub slice : Host
slice = host 1 2 1 (call.admit 0 0 ∷ call.admit 0 1 ∷ Call.Advance 100 ∷ [])

-- 0/2 holds pCPU 1, which is all that 0/0 admits; 0/1 ran for 5 ticks and admits every pCPU
abbrev pub pinned : Host
pinned =
    host 1 3 2
    (call.admit 0 0 ∷ call.set_affinity 0 0 2 ∷ call.admit 0 1 ∷ call.run 0 1 0 0 ∷ call.preempt 0 1 5
    ∷ call.admit 0 2 ∷ call.run 0 2 1 5 ∷ [])
