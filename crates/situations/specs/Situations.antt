-- The host situations of the requirements, as one table in their order: what the definitions give, and what is due.
-- Assumes nothing.
use Rattle.std.specs.Prelude.{ℕ, ◌-◌, ◌*◌, ◌^◌, false, refl, List, [], ◌∷◌, ltb}
use Rattle.rows.specs.Rows.{Row, row, rows, test, AllDue}
use Rattle.masks.specs.Masks.{permits}
use Rattle.service.specs.Service.{held, more_deserving}
use Rattle.system.specs.Reads.{vcpu_at}
use Rattle.policy.specs.Accounts.{offset_of, put_account}
use Rattle.policy.specs.Standing.{weight_at, service_at, deserves}
use Rattle.policy.specs.Accounting.{accounted}
use Rattle.advance.specs.declared.Decision.{Decision}
use Rattle.advance.specs.declared.Decision.TheVariants.{Run, Preempt, Idle}
use Rattle.advance.specs.Advance.{next}
use Rattle.host.specs.declared.Host.{Host}
use Rattle.calls.specs.declared.Call.{Call}
use Rattle.calls.specs.Asked as call
use Rattle.host.specs.Computing.{computing}
use Rattle.host.specs.Step.{step, host_after, fresh_host}

-- a host after calls: d domains of v vCPUs on p pCPUs, slice 10
abbrev host : ℕ → ℕ → ℕ → List Call → Host
host d v p cs = host_after (fresh_host d v p d v 10) cs

-- ---- what is read

abbrev told : Host → Call → ℕ
told h c = (step h c).number

abbrev after : Host → Call → Host
after h c = (step h c).host

-- of the vCPU at slot i
abbrev runtime : Host → ℕ → ℕ
runtime h i = (vcpu_at h.system i).runtime

abbrev mask : Host → ℕ → ℕ
mask h i = (vcpu_at h.system i).affinity

abbrev service : Host → ℕ → ℕ → ℕ
service h now i = service_at h.system h.scheduler now i

abbrev weight : Host → ℕ → ℕ
weight h i = weight_at h.scheduler i

-- 1 for a dispatch, 2 for a preemption, 0 for neither; the vCPU and the pCPU
abbrev numbered : Decision → List ℕ
numbered (Run d v p) = 1 ∷ d ∷ v ∷ p ∷ []
numbered (Preempt d v p) = 2 ∷ d ∷ v ∷ p ∷ []
numbered Idle = 0 ∷ []

abbrev decided : Host → ℕ → List ℕ
decided h now = numbered (next h.system h.scheduler now).decision

-- 0/0 is the floor and 0/1 wakes: service and weight of 0/0, weight, run time and offset of 0/1, then its offset after accounting
abbrev lift : Host → ℕ → List ℕ
lift h now =
    service h now 0 ∷ weight h 0 ∷ weight h 1 ∷ runtime h 1 ∷ offset_of h.scheduler 0 1
    ∷ offset_of (accounted h.system h.scheduler now) 0 1 ∷ []

-- ---- the hosts

-- 0/0 runs on pCPU 0, 0/1 is Offline
abbrev one-runs : List Call
one-runs = call.admit 0 0 ∷ call.run 0 0 0 0 ∷ []

-- 0/0 runs on pCPU 0, 0/1 is Runnable and admits pCPU 1 alone
abbrev off-mask : List Call
off-mask = call.admit 0 0 ∷ call.run 0 0 0 0 ∷ call.admit 0 1 ∷ call.set_affinity 0 1 2 ∷ []

-- 2 pCPUs, of which 0/0 admits pCPU 0 alone
abbrev narrowed : Host
narrowed = host 1 1 2 (call.set_affinity 0 0 1 ∷ [])

-- 0/0 ran for 7 ticks and is dispatched at 100
abbrev dispatched-at_100 : Host
dispatched-at_100 = host 1 1 1 (call.admit 0 0 ∷ call.run 0 0 0 0 ∷ call.preempt 0 0 7 ∷ call.run 0 0 0 100 ∷ [])

-- 0/0 ran for 2^64 − 4 ticks and is dispatched at 0
abbrev near_the_top : Host
near_the_top = host 1 1 1 (call.admit 0 0 ∷ call.run 0 0 0 0 ∷ call.preempt 0 0 (2 ^ 64 - 4) ∷ call.run 0 0 0 0 ∷ [])

-- 0/0, weight 3, stays in the pool, running from 0; 0/1, weight 2, ran for 1 tick, was blocked and is awake again
abbrev waker : Host
waker =
    host 1 2 2
    (Call.SetWeight 0 0 3 ∷ Call.SetWeight 0 1 2 ∷ call.admit 0 1 ∷ call.run 0 1 1 0 ∷ call.block 0 1 1
    ∷ call.admit 0 0 ∷ Call.Advance 0 ∷ call.wake 0 1 ∷ [])

-- the same at weights 1, with 10 ticks run by 0/1
abbrev waker_again : Host
waker_again =
    host 1 2 2
    (Call.SetWeight 0 0 1 ∷ Call.SetWeight 0 1 1 ∷ call.admit 0 1 ∷ call.run 0 1 1 0 ∷ call.block 0 1 10
    ∷ call.admit 0 0 ∷ Call.Advance 0 ∷ call.wake 0 1 ∷ [])

-- the host with the offset 100 for 0/1
abbrev lifted-before : Host → Host
lifted-before h =
    record {
      system = h.system;
      scheduler = put_account h.scheduler 0 1 (record { weight = 1; offset = held 100; was_schedulable = false });
    }

-- two on one pCPU, 0/0 dispatched at 100
abbrev slice : Host
slice = host 1 2 1 (call.admit 0 0 ∷ call.admit 0 1 ∷ Call.Advance 100 ∷ [])

-- 0/2 holds pCPU 1, which is all that 0/0 admits; 0/1 ran for 5 ticks and admits every pCPU
abbrev pinned : Host
pinned =
    host 1 3 2
    (call.admit 0 0 ∷ call.set_affinity 0 0 2 ∷ call.admit 0 1 ∷ call.run 0 1 0 0 ∷ call.preempt 0 1 5
    ∷ call.admit 0 2 ∷ call.run 0 2 1 5 ∷ [])

-- ---- the table

abbrev pub table : List Row
table =
    -- 2 domains, 2 pCPUs: run of domain 9 on pCPU 2
    row (told (host 2 1 2 []) (call.run 9 0 2 0)) 3
    -- run of an Offline vCPU on a busy pCPU
    ∷ row (told (host 1 2 1 one-runs) (call.run 0 1 0 0)) 10
    -- off-mask and busy together
    ∷ row (told (host 1 2 2 off-mask) (call.run 0 1 0 0)) 6
    -- the empty mask while Running, and while Runnable
    ∷ row (told (host 1 1 1 one-runs) (call.set_affinity 0 0 0)) 6
    ∷ row (told (host 1 1 1 (call.admit 0 0 ∷ [])) (call.set_affinity 0 0 0)) 0
    -- 2 pCPUs: the mask 2^64 − 1 is stored as 3, where 1 stood
    ∷ rows
    (mask narrowed 0 ∷ told narrowed (call.set_affinity 0 0 (2 ^ 64 - 1)) ∷ mask (after narrowed (call.set_affinity 0 0 (2 ^ 64 - 1))) 0 ∷ [])
    (1 ∷ 0 ∷ 3 ∷ [])
    -- pCPU 64 under the mask 2^64 − 1 is not admitted; 63 is
    ∷ rows (test (permits (2 ^ 64 - 1) 63) ∷ test (permits (2 ^ 64 - 1) 64) ∷ []) (1 ∷ 0 ∷ [])
    -- dispatched at 100, preempted at 90: the run time is unchanged
    ∷ rows
    (runtime dispatched-at_100 0 ∷ told dispatched-at_100 (call.preempt 0 0 90)
    ∷ runtime (after dispatched-at_100 (call.preempt 0 0 90)) 0 ∷ [])
    (7 ∷ 0 ∷ 7 ∷ [])
    -- run time 2^64 − 4, interval 10
    ∷ rows (runtime near_the_top 0 ∷ runtime (after near_the_top (call.preempt 0 0 10)) 0 ∷ []) ((2 ^ 64 - 4) ∷ (2 ^ 64 - 1) ∷ [])
    -- 10 over weight 2 and 5 over weight 1: neither is more deserving
    ∷ rows (test (more_deserving 10 2 5 1) ∷ test (more_deserving 5 1 10 2) ∷ []) (0 ∷ 0 ∷ [])
    -- 2^100 and 2^101, both at weight 2^30: a held tie, though the exact order is strict
    ∷ rows
    (test (more_deserving (2 ^ 100) (2 ^ 30) (2 ^ 101) (2 ^ 30)) ∷ test (more_deserving (2 ^ 101) (2 ^ 30) (2 ^ 100) (2 ^ 30))
    ∷ test (ltb (2 ^ 100 * 2 ^ 30) (2 ^ 101 * 2 ^ 30)) ∷ [])
    (0 ∷ 0 ∷ 1 ∷ [])
    -- floor 7 over 3, waker weight 2, run time 1: offset 3
    ∷ rows (lift waker 7) (7 ∷ 3 ∷ 2 ∷ 1 ∷ 0 ∷ 3 ∷ [])
    -- old offset 100, run time 10, floor 50 over 1, weight 1: offset 40
    ∷ rows (lift (lifted-before waker_again) 50) (50 ∷ 1 ∷ 1 ∷ 10 ∷ 100 ∷ 40 ∷ [])
    -- slice 10: elapsed 9 is kept, 10 may be preempted
    ∷ rows (decided slice 109) (0 ∷ [])
    ∷ rows (decided slice 110) (2 ∷ 0 ∷ 0 ∷ 0 ∷ [])
    -- 0/0 admits only busy pCPU 1, pCPU 0 is idle, 0/1 is less deserving with a full mask: Run 0/1 on pCPU 0
    ∷ row (test (deserves pinned.system pinned.scheduler 5 0 1)) 1
    ∷ rows (decided pinned 5) (1 ∷ 0 ∷ 1 ∷ 0 ∷ [])
    ∷ []

pub situations : AllDue table
unfolding computing next
situations = refl
