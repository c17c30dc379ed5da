-- What the requirements say of service, floor, accounting and the policy's own calls, in figures worked out by hand. Assumes nothing.
use Rattle.std.specs.Prelude.{ℕ, ◌-◌, ◌^◌, true, false, refl, List, [], ◌∷◌, ◌++◌, replicate, Option, None, Some}
use Rattle.rows.specs.Rows.{Row, row, rows, test, AllDue}
use Rattle.scans.specs.Scan.{scan}
use Rattle.service.specs.Service.{value, limbs, held, more_deserving}
use Rattle.system.specs.Records.{in_flight}
use Rattle.system.specs.Reads.{vcpu_at}
use Rattle.system.specs.Shape.{fresh}
use Rattle.system.specs.Writes.{put_vcpu}
use Rattle.policy.specs.declared.Account.{Account}
use Rattle.policy.specs.declared.Share.{Share}
use Rattle.policy.specs.declared.Scheduler.{Scheduler}
use Rattle.policy.specs.Accounts.{account_at, account_of, with_accounts, put_account, fresh_policy}
use Rattle.policy.specs.Accounts.{set_weight, set_wake_boost, built_policy}
use Rattle.policy.specs.Standing.{service_by, deserves}
use Rattle.policy.specs.Accounting.{floor, renewed, renew_first, accounted}
use Rattle.policy.specs.OneAccount.{leader, renewed_at}
use Rattle.policy.specs.RowHosts.{waits, runs, blocked, offline, pair, pooled, away, policy, unlifting, shaped}
use Rattle.policy.specs.RowHosts.{service, first, sets, looks, offset, snapshots}

-- who has had how much
abbrev services : List Row
services =
    -- run time 5, 10 in flight, offset 7
    row (service (runs 0 5) (pooled 256 7) 100) 22
    -- the clock before the dispatch: nothing in flight
    ∷ row (service (runs 0 5) (pooled 256 7) 80) 12
    -- not Running: nothing in flight
    ∷ row (service (waits 5) (pooled 256 7) 100) 12
    -- held at 2^128 − 1
    ∷ row (service (waits 5) (pooled 256 (2 ^ 128 - 1)) 100) (2 ^ 128 - 1)
    ∷ []

-- who sets the floor
abbrev floors : List Row
floors =
    -- the most deserving of two that stayed: 10 and 20 over 256
    rows (sets (pair (waits 20) (waits 10)) (policy (pooled 256 0) (pooled 256 0))) (1 ∷ [])
    ∷ rows (sets (pair (waits 10) (waits 20)) (policy (pooled 256 0) (pooled 256 0))) (0 ∷ [])
    -- by weight: 30 over 3 before 20 over 1
    ∷ rows (sets (pair (waits 20) (waits 30)) (policy (pooled 1 0) (pooled 3 0))) (1 ∷ [])
    -- 10 over 2 and 5 over 1: the earlier
    ∷ rows (sets (pair (waits 10) (waits 5)) (policy (pooled 2 0) (pooled 1 0))) (0 ∷ [])
    -- 2^101 and 2^100, both over 2^30: a held tie
    ∷ rows (sets (pair (waits 0) (waits 0)) (policy (pooled (2 ^ 30) (2 ^ 101)) (pooled (2 ^ 30) (2 ^ 100)))) (0 ∷ [])
    -- a stored weight of 0 is read as 1: 10 over 1 before 15 over 1
    ∷ rows (sets (pair (waits 10) (waits 15)) (policy (pooled 0 0) (pooled 1 0))) (0 ∷ [])
    -- a runner's part in flight counts: 0 and 10 in flight, against 5
    ∷ rows (sets (pair (runs 0 0) (waits 5)) (policy (pooled 256 0) (pooled 256 0))) (1 ∷ [])
    -- a runner can set it: 1 and 10 in flight, against 15
    ∷ rows (sets (pair (waits 15) (runs 0 1)) (policy (pooled 256 0) (pooled 256 0))) (1 ∷ [])
    -- the offset counts: 0 and 10, against 5
    ∷ rows (sets (pair (waits 0) (waits 5)) (policy (pooled 256 10) (pooled 256 0))) (1 ∷ [])
    -- one that joins does not set it, though it has had nothing
    ∷ rows (sets (pair (waits 0) (waits 10)) (policy (away 256 0) (pooled 256 0))) (1 ∷ [])
    ∷ rows (sets (pair (runs 0 0) (waits 20)) (policy (away 256 0) (pooled 256 0))) (1 ∷ [])
    -- nor does one that left
    ∷ rows (sets (pair (blocked 0) (waits 10)) (policy (pooled 256 0) (pooled 256 0))) (1 ∷ [])
    ∷ rows (sets (pair (offline 0) (waits 10)) (policy (pooled 256 0) (pooled 256 0))) (1 ∷ [])
    ∷ rows (sets (pair (blocked 0) (waits 0)) (policy (pooled 256 0) (away 256 0))) []
    -- nor what stands at a slot that is no vCPU's: 0/2 on a host of two vCPUs a domain
    ∷ rows
    (sets (put_vcpu (pair (waits 20) (waits 10)) 2 (waits 0))
    (put_account (shaped 1 3 (policy (pooled 256 0) (pooled 256 0))) 0 2 (pooled 256 0)))
    (1 ∷ [])
    -- nor one outside the policy's shape
    ∷ rows (sets (pair (waits 20) (waits 10)) (shaped 1 1 (policy (pooled 256 0) (pooled 256 0)))) (0 ∷ [])
    -- by domain, then vCPU: 1/0, at slot 8, with the least
    ∷ rows
    (sets (put_vcpu (put_vcpu (fresh 2 1 2) 0 (waits 20)) 8 (waits 10))
    (put_account (put_account (fresh_policy 2 1 10) 0 0 (pooled 256 0)) 1 0 (pooled 256 0)))
    (8 ∷ [])
    ∷ []

-- the offset that accounting leaves 0/1
abbrev offsets : List Row
offsets =
    -- at the floor, 8 over 3, weight 2, run time 1: 16 / 3 is 5, less 1
    row (offset (pair (waits 8) (waits 1)) (policy (pooled 3 0) (away 2 0))) 4
    -- replaced, not added to: floor 50 over 256, run time 10
    ∷ row (offset (pair (waits 50) (waits 10)) (policy (pooled 256 0) (away 256 100))) 40
    -- at least 0: floor 1, run time 10
    ∷ row (offset (pair (waits 1) (waits 10)) (policy (pooled 256 0) (away 256 100))) 0
    -- the product is held: 2^127 × 4, over 2, less 1
    ∷ row (offset (pair (waits 0) (waits 1)) (policy (pooled 2 (2 ^ 127)) (away 4 0))) (2 ^ 127 - 2)
    -- the floor's service is 3, 10 in flight and 5; of a runner that joins only the run time, 1, is taken off
    ∷ row (offset (pair (runs 0 3) (runs 1 1)) (policy (pooled 256 5) (away 256 0))) 17
    -- stored weights of 0 are read as 1: floor 50
    ∷ row (offset (pair (waits 50) (waits 0)) (policy (pooled 0 0) (away 2 0))) 100
    ∷ row (offset (pair (waits 50) (waits 0)) (policy (pooled 1 0) (away 0 0))) 50
    -- kept: boost is off
    ∷ row (offset (pair (waits 50) (waits 10)) (unlifting (pooled 256 0) (away 256 100))) 100
    -- kept: nobody stayed; the other joins, or left
    ∷ row (offset (pair (waits 50) (waits 10)) (policy (away 256 0) (away 256 100))) 100
    ∷ row (offset (pair (blocked 50) (waits 10)) (policy (pooled 256 0) (away 256 100))) 100
    -- kept: it stayed, as after a block and a wake between two advances
    ∷ row (offset (pair (waits 50) (waits 10)) (policy (pooled 256 0) (pooled 256 100))) 100
    -- kept: it is not in the pool
    ∷ row (offset (pair (waits 50) (blocked 10)) (policy (pooled 256 0) (away 256 100))) 100
    ∷ row (offset (pair (waits 50) (offline 10)) (policy (pooled 256 0) (pooled 256 100))) 100
    -- one that left the pool and is back at the next accounting has joined it: floor 50, run time 10
    ∷ row (offset (pair (waits 50) (waits 10)) (accounted (pair (waits 50) (blocked 10)) (policy (pooled 256 0) (pooled 256 100)) 100)) 40
    -- one that waits at two accountings has not
    ∷ row (offset (pair (waits 50) (waits 10)) (accounted (pair (blocked 50) (waits 10)) (policy (pooled 256 0) (away 256 100)) 100)) 100
    ∷ []

-- the snapshot is who is in the pool, whether or not anybody is lifted
abbrev renewals : List Row
renewals =
    -- one waits, or runs, and the other left
    rows (snapshots (pair (waits 0) (blocked 0)) (policy (away 256 0) (pooled 256 0))) (1 ∷ 0 ∷ [])
    ∷ rows (snapshots (pair (runs 0 0) (offline 0)) (policy (away 256 0) (pooled 256 0))) (1 ∷ 0 ∷ [])
    -- one stayed, and the other is lifted
    ∷ rows (snapshots (pair (waits 0) (waits 0)) (policy (pooled 256 0) (away 256 0))) (1 ∷ 1 ∷ [])
    -- with boost off
    ∷ rows (snapshots (pair (waits 0) (offline 0)) (unlifting (away 256 0) (pooled 256 0))) (1 ∷ 0 ∷ [])
    -- the weight, 5, stays: at the floor, 50, its offset is 250
    ∷ rows (looks (accounted (pair (waits 50) (waits 0)) (policy (pooled 1 0) (away 5 0)) 100) 0 1) (5 ∷ 250 ∷ 1 ∷ [])
    -- the account of a slot that is no vCPU's stays
    ∷ rows (looks (accounted (pair (waits 0) (waits 0)) (put_account (fresh_policy 1 3 10) 0 2 (pooled 5 7)) 100) 0 2) (5 ∷ 7 ∷ 1 ∷ [])
    -- and so does what is looked up outside the policy's shape
    ∷ rows (looks (accounted (pair (waits 9) (waits 0)) (shaped 1 1 (policy (pooled 1 0) (away 5 7))) 100) 0 1) (256 ∷ 0 ∷ 0 ∷ [])
    ∷ []

-- what is looked up outside the shape, or outside the sizes where the counts are damaged: weight 256, offset 0, snapshot false
abbrev outside : List Row
outside =
    -- no such vCPU, no such domain
    rows (looks (shaped 1 1 (policy (pooled 5 7) (pooled 5 7))) 0 1) (256 ∷ 0 ∷ 0 ∷ [])
    ∷ rows (looks (shaped 0 8 (policy (pooled 5 7) (pooled 5 7))) 0 1) (256 ∷ 0 ∷ 0 ∷ [])
    -- 0/8 would stand where 1/0 does
    ∷ rows (looks (put_account (fresh_policy 2 9 10) 1 0 (pooled 5 7)) 0 8) (256 ∷ 0 ∷ 0 ∷ [])
    ∷ rows (looks (set_weight (fresh_policy 2 9 10) 0 8 5) 1 0) (256 ∷ 0 ∷ 0 ∷ [])
    -- 16/0 would stand past the last account
    ∷ rows (looks (fresh_policy 17 8 10) 16 0) (256 ∷ 0 ∷ 0 ∷ [])
    -- a shape that covers it again shows the account that is kept
    ∷ rows (looks (shaped 1 2 (shaped 1 1 (policy (pooled 5 7) (pooled 5 7)))) 0 1) (5 ∷ 7 ∷ 1 ∷ [])
    ∷ []

-- a policy of that shape, whose accounts all have weight 5
abbrev all_light : ℕ → ℕ → Scheduler
all_light e u = with_accounts (fresh_policy e u 10) (replicate 128 (pooled 5 7))

-- the weight that is kept at slot i
abbrev weight_kept : Scheduler → ℕ → ℕ
weight_kept π i = (account_at π i).weight

-- what `set_weight` and `set_wake_boost` leave
abbrev settings : List Row
settings =
    -- a weight set, with offset 7 and in the snapshot; the other vCPU's stays
    rows (looks (set_weight (policy (pooled 3 9) (pooled 5 7)) 0 1 6) 0 1) (6 ∷ 7 ∷ 1 ∷ [])
    ∷ rows (looks (set_weight (policy (pooled 3 9) (pooled 5 7)) 0 1 6) 0 0) (3 ∷ 9 ∷ 1 ∷ [])
    -- 0 is stored as 1, and a stored 0 is read as 1
    ∷ row (account_of (set_weight (policy (pooled 3 9) (pooled 5 7)) 0 1 0) 0 1).weight 1
    -- the same of the account that is kept, in a shape of 2 domains of 3 vCPUs and outside it, and in one past the sizes
    ∷ rows (weight_kept (set_weight (all_light 2 3) 1 2 6) 10 ∷ weight_kept (set_weight (all_light 2 3) 1 2 0) 10 ∷ []) (6 ∷ 1 ∷ [])
    ∷ rows (weight_kept (set_weight (all_light 2 3) 2 2 6) 18 ∷ weight_kept (set_weight (all_light 2 3) 1 3 6) 11 ∷ []) (5 ∷ 5 ∷ [])
    ∷ row (weight_kept (set_weight (all_light 20 9) 16 0 6) 0) 5
    ∷ row (weight_kept (set_weight (all_light 20 9) 0 8 6) 8) 5
    ∷ row (account_of (set_weight (all_light 20 9) 16 0 6) 16 0).weight 256
    ∷ rows (looks (policy (pooled 3 9) (pooled 0 7)) 0 1) (1 ∷ 7 ∷ 1 ∷ [])
    -- boost set clears the offsets alone, on or off
    ∷ rows (looks (set_wake_boost (policy (pooled 3 9) (pooled 5 7)) false) 0 1) (5 ∷ 0 ∷ 1 ∷ [])
    ∷ rows (looks (set_wake_boost (policy (pooled 3 9) (pooled 5 7)) true) 0 0) (3 ∷ 0 ∷ 1 ∷ [])
    ∷ row (test (set_wake_boost (policy (pooled 3 9) (pooled 5 7)) false).wake_boost) 0
    ∷ row (test (set_wake_boost (unlifting (pooled 3 9) (pooled 5 7)) true).wake_boost) 1
    ∷ row (set_wake_boost (policy (pooled 3 9) (pooled 5 7)) false).quantum 10
    ∷ []

-- who ranks first where no weight was set for 0/1: it counts as 256, in the shape or outside it
abbrev unset : List Row
unset =
    -- 0/0 is set to 256: alike
    rows (first (pair (waits 5) (waits 5)) (set_weight (fresh_policy 1 2 10) 0 0 256)) (0 ∷ 0 ∷ [])
    ∷ rows (first (pair (waits 5) (waits 5)) (set_weight (fresh_policy 1 1 10) 0 0 256)) (0 ∷ 0 ∷ [])
    -- to 255, or 257: the heavier
    ∷ rows (first (pair (waits 5) (waits 5)) (set_weight (fresh_policy 1 2 10) 0 0 255)) (0 ∷ 1 ∷ [])
    ∷ rows (first (pair (waits 5) (waits 5)) (set_weight (fresh_policy 1 1 10) 0 0 255)) (0 ∷ 1 ∷ [])
    ∷ rows (first (pair (waits 5) (waits 5)) (set_weight (fresh_policy 1 2 10) 0 0 257)) (1 ∷ 0 ∷ [])
    ∷ rows (first (pair (waits 5) (waits 5)) (set_weight (fresh_policy 1 1 10) 0 0 257)) (1 ∷ 0 ∷ [])
    -- to 0, which is 1: 1 over 1 after 255 over 256
    ∷ rows (first (pair (waits 1) (waits 255)) (set_weight (fresh_policy 1 2 10) 0 0 0)) (0 ∷ 1 ∷ [])
    -- and a stored 0 counts as 1
    ∷ rows (first (pair (waits 1) (waits 255)) (put_account (fresh_policy 1 1 10) 0 0 (pooled 0 0))) (0 ∷ 1 ∷ [])
    ∷ []

abbrev built : List Row
built =
    -- boost on, the slice as given, weight 256, offset 0, nobody in the snapshot
    row (test (built_policy 16 8 10).policy.wake_boost) 1
    ∷ row (built_policy 16 8 10).policy.quantum 10
    ∷ rows (looks (built_policy 16 8 10).policy 15 7) (256 ∷ 0 ∷ 0 ∷ [])
    -- 16 domains of 8 are built, and none; 17, or 9 vCPUs, are too large
    ∷ row (built_policy 16 8 10).number 0
    ∷ row (built_policy 0 0 10).number 0
    ∷ row (built_policy 17 8 10).number 7
    ∷ row (built_policy 16 9 10).number 7
    ∷ []

-- one of that service and weight leads
abbrev led : ℕ → ℕ → Option Share
led service weight = Some (record { service = held service; weight = weight })

-- who leads, by service and weight
abbrev leads : Option Share → List ℕ
leads None = []
leads (Some l) = value l.service ∷ l.weight ∷ []

-- an account's weight, offset and snapshot
abbrev kept : Account → List ℕ
kept a = a.weight ∷ value a.offset ∷ test a.was_schedulable ∷ []

-- the floor and the renewal by the records of one vCPU
abbrev elements : List Row
elements =
    -- one that stayed, 5 and 10 in flight, leads where nobody did; not one that joined, nor one that left
    rows (leads (leader None (runs 0 5) (pooled 256 0) 100)) (15 ∷ 256 ∷ [])
    ∷ rows (leads (leader None (waits 5) (away 256 0) 100)) []
    ∷ rows (leads (leader None (blocked 5) (pooled 256 0) 100)) []
    -- 18 over 2 takes the lead from 10 over 1, 20 over 2 does not
    ∷ rows (leads (leader (led 10 1) (waits 18) (pooled 2 0) 100)) (18 ∷ 2 ∷ [])
    ∷ rows (leads (leader (led 10 1) (waits 20) (pooled 2 0) 100)) (10 ∷ 1 ∷ [])
    -- one that joined, weight 2, run time 5, is placed at 10 over 1: 20 less 5
    ∷ rows (kept (renewed_at (waits 5) (away 2 7) (led 10 1))) (2 ∷ 15 ∷ 1 ∷ [])
    -- not with boost off, where nobody leads, or one that stayed or left
    ∷ rows (kept (account_of (accounted (pair (waits 10) (waits 5)) (unlifting (pooled 1 0) (away 2 7)) 100) 0 1)) (2 ∷ 7 ∷ 1 ∷ [])
    ∷ rows (kept (renewed_at (waits 5) (away 2 7) None)) (2 ∷ 7 ∷ 1 ∷ [])
    ∷ rows (kept (renewed_at (waits 5) (pooled 2 7) (led 10 1))) (2 ∷ 7 ∷ 1 ∷ [])
    ∷ rows (kept (renewed_at (blocked 5) (pooled 2 7) (led 10 1))) (2 ∷ 7 ∷ 0 ∷ [])
    ∷ []

abbrev pub table : List Row
table = services ++ (floors ++ (offsets ++ (renewals ++ (outside ++ (settings ++ (unset ++ (built ++ elements)))))))

pub table-due : AllDue table
unfolding scan value limbs held more_deserving in_flight vcpu_at fresh put_vcpu account_at account_of put_account fresh_policy set_weight
    set_wake_boost service_by deserves floor renewed renew_first accounted
table-due = refl
