-- The host situations of document 01, computed from the page alone, beside what is due. Assumes nothing.
use Prim.Native.Nat.{ℕ, ◌+◌}
use mathlib.Core.Path.{refl}
use mathlib.Core.List.{List, [], ◌∷◌}
use Rattle.rows.specs.Rows.{Row, row, rows, test, AllDue}
use Rattle.system.specs.declared.Occupant.{Occupant}
use Rattle.system.specs.declared.Occupant.TheVariants.{Idle, Vcpu}
use Rattle.host.specs.declared.Host.{Host}
use Rattle.calls.specs.declared.Call.{Call}
use Rattle.calls.specs.Asked as call
use Rattle.page.specs.Page.{holder, admits}
use Rattle.page.specs.Steps.{after, build}
use Rattle.page.proofs.SituationHosts.{host, told, left, runtime, mask, decided, count, against}
use Rattle.page.proofs.SituationHosts.{standings, lift, one-runs, off-mask, narrowed, dispatched-at_100}
use Rattle.page.proofs.SituationHosts.{near_the_top, even, huge, waker, waker_again, slice, pinned, computing}

-- ---- the table, in the order of the document. 2.2 has a vCPU found Offline told 10.

abbrev pub table : List Row
table =
    -- 2 domains, 2 pCPUs: run of domain 9 on pCPU 2
    row (told (host 2 1 2 []) (call.run 9 0 2 0)) 3
    -- run of an Offline vCPU on a busy pCPU
    ∷ row (told (host 1 2 1 one-runs) (call.run 0 1 0 0)) 10
    -- off-mask and busy together
    ∷ row (told (host 1 2 2 off-mask) (call.run 0 1 0 0)) 6
    -- the empty mask while Running, and while Runnable
    ∷ row (told (host 1 1 1 one-runs) (call.set_affinity 0 0 0)) 6
    ∷ row (told (host 1 1 1 (call.admit 0 0 ∷ [])) (call.set_affinity 0 0 0)) 0
    -- 2 pCPUs: the mask 2^64 − 1 is stored as 3, where 1 stood
    ∷ rows (mask narrowed 0 0 ∷ mask (left narrowed (call.set_affinity 0 0 18446744073709551615)) 0 0 ∷ []) (1 ∷ 3 ∷ [])
    -- pCPU 64 under the mask 2^64 − 1 is not admitted; 63 is
    ∷ rows (test (admits 18446744073709551615 63) ∷ test (admits 18446744073709551615 64) ∷ []) (1 ∷ 0 ∷ [])
    -- dispatched at 100, preempted at 90: the run time is unchanged
    ∷ rows (runtime dispatched-at_100 0 0 ∷ runtime (left dispatched-at_100 (call.preempt 0 0 90)) 0 0 ∷ []) (7 ∷ 7 ∷ [])
    -- run time 2^64 − 4, interval 10
    ∷ rows (runtime near_the_top 0 0 ∷ runtime (left near_the_top (call.preempt 0 0 10)) 0 0 ∷ [])
    (18446744073709551612 ∷ 18446744073709551615 ∷ [])
    -- 10 over weight 2 and 5 over weight 1: neither is more deserving
    ∷ rows (standings even 15) (10 ∷ 2 ∷ 5 ∷ 1 ∷ [])
    ∷ rows (against even 15) (0 ∷ 0 ∷ [])
    -- 2^100 and 2^101, both at weight 2^30: a held tie, though the exact order is strict
    ∷ rows (standings huge 0)
    (1267650600228229401496703205376 ∷ 1073741824 ∷ 2535301200456458802993406410752 ∷ 1073741824 ∷ [])
    ∷ rows (against huge 0) (0 ∷ 0 ∷ [])
    -- floor 7 over 3, waker weight 2, run time 1: offset 3
    ∷ rows (lift waker 7) (7 ∷ 3 ∷ 2 ∷ 1 ∷ 0 ∷ 3 ∷ [])
    -- old offset 100, run time 10, floor 50 over 1, weight 1: offset 40
    ∷ rows (lift waker_again 50) (50 ∷ 1 ∷ 1 ∷ 10 ∷ 100 ∷ 40 ∷ [])
    -- slice 10: elapsed 9 is kept, 10 may be preempted
    ∷ rows (decided slice 109) (0 ∷ [])
    ∷ rows (decided slice 110) (2 ∷ 0 ∷ 0 ∷ 0 ∷ [])
    -- 0/0 admits only busy pCPU 1, pCPU 0 is idle, 0/1 is less deserving with a full mask: Run 0/1 on pCPU 0
    ∷ rows (against pinned 5) (1 ∷ 0 ∷ [])
    ∷ rows (decided pinned 5) (1 ∷ 0 ∷ 1 ∷ 0 ∷ [])
    ∷ []

pub situations : AllDue table
unfolding computing
situations = refl

-- ---- those that are not in one table there

-- who holds pCPU 0: a vCPU of domain 0 by its id and 1, 0 for nobody
abbrev holder_of : Occupant → ℕ
holder_of Idle = 0
holder_of (Vcpu d v) = v + 1

-- two on one pCPU, weights 2 and 1
abbrev two-one : Host
two-one = host 1 2 1 (Call.SetWeight 0 0 2 ∷ Call.SetWeight 0 1 1 ∷ call.admit 0 0 ∷ call.admit 0 1 ∷ [])

-- who holds it after these advances
abbrev held : List Call → ℕ
held advances = holder_of (holder (after two-one advances).system 0)

-- the script's example: after its build, both are admitted, and these calls follow
abbrev example : List Call → Host
example cs = after (host 1 2 1 (call.admit 0 0 ∷ call.admit 0 1 ∷ [])) cs

abbrev pub others : List Row
others =
    -- advances at 0, 10, 20, 30, 40: first, second, first, first, second
    row (held (Call.Advance 0 ∷ [])) 1
    ∷ row (held (Call.Advance 0 ∷ Call.Advance 10 ∷ [])) 2
    ∷ row (held (Call.Advance 0 ∷ Call.Advance 10 ∷ Call.Advance 20 ∷ [])) 1
    ∷ row (held (Call.Advance 0 ∷ Call.Advance 10 ∷ Call.Advance 20 ∷ Call.Advance 30 ∷ [])) 1
    ∷ row (held (Call.Advance 0 ∷ Call.Advance 10 ∷ Call.Advance 20 ∷ Call.Advance 30 ∷ Call.Advance 40 ∷ [])) 2
    -- 16 domains build, 17 do not; 64 pCPUs build, 65 do not
    ∷ rows ((build 16 8 64 10).number ∷ (build 17 8 64 10).number ∷ (build 16 9 64 10).number ∷ (build 16 8 65 10).number ∷ [])
    (0 ∷ 7 ∷ 7 ∷ 7 ∷ [])
    -- a host of 0 pCPUs decides Idle
    ∷ rows (decided (host 1 2 0 (call.admit 0 0 ∷ call.admit 0 1 ∷ [])) 10) (0 ∷ [])
    -- the script's example: moves at 100, 105 and 110; then a run onto the busy pCPU is told 5
    ∷ row (count (example []) (Call.Advance 100)) 1
    ∷ row (count (example (Call.Advance 100 ∷ [])) (Call.Advance 105)) 0
    ∷ row (count (example (Call.Advance 100 ∷ Call.Advance 105 ∷ [])) (Call.Advance 110)) 2
    ∷ row (told (example (Call.Advance 100 ∷ Call.Advance 105 ∷ Call.Advance 110 ∷ [])) (call.run 0 0 0 110)) 5
    ∷ []

pub others-due : AllDue others
unfolding computing
others-due = refl
