-- Three pool lists, with their moves and figures: one with a refused call and a departure, one that attains the bound
-- on the lag, one with a member outside the policy's shape. Assumes nothing.
use Prim.Native.Nat.{ℕ, ◌+◌, ◌-◌, ◌*◌, ◌^◌, ◌≤◌}
use mathlib.Core.Path.{◌≡◌, refl, sym, ◌∙◌}
use mathlib.Core.List.{List, [], ◌∷◌, ◌++◌, map}
use native.Mathlib.Omega.{arith}
use borrow.Author.Rules.{rules}
use Rattle.system.specs.declared.System.{System}
use Rattle.moves.specs.declared.Choice.TheVariants.{Run, Preempt}
use Rattle.policy.specs.Standing.{weight_at}
use Rattle.policy.specs.Defaults.{RanksAt}
use Rattle.calls.specs.declared.Call.{Call}
use Rattle.calls.specs.Asked as call
use Rattle.host.specs.Computing.{computing}
use Rattle.host.specs.Step.{Step, step}
use Rattle.demand3.specs.Book.{Book, Shape, holder, enter, moved_all}
use Rattle.demand3.specs.ServiceMachine.{service_machine}
use Rattle.demand3.specs.Lists.{after_all, book_after, PoolList, latest, book_service}
use Rattle.demand3.specs.Lists as lists
use Rattle.demand3.specs.Agreement.{PresentIn}
use Rattle.demand3.specs.Weights.{weight_through}
use Rattle.demand3.specs.Unset as unset
use Rattle.demand3.specs.Fresh.{Fresh, first_host, host_at, book_at}
use Rattle.demand3.specs.Demand3.{Demand-3}
use Rattle.demand3.proofs.Laws.{demand_3, unset-ranks}
use Rattle.situations.proofs.Examples.{steps, one-pcpu, one-sizes, built}

-- ---- three vCPUs on one pCPU, weights 512, which is set, and 256, a policy of another shape, an advance every 10 ticks; a dispatch
-- is refused, and 0/2 departs

abbrev pub pool-shape : Shape
pool-shape = record { domains = 1; vcpus = 3; pcpus = 1 }

abbrev pub pool-host : Fresh
pool-host =
    record {
      shape = pool-shape;
      domains = 2;
      vcpus = 4;
      slice = 10;
      sized = record { domains = omega arith; vcpus = omega arith; pcpus = omega arith };
    }

abbrev pub pool-start : List Call
pool-start = Call.SetWeight 0 0 512 ∷ call.admit 0 0 ∷ call.admit 0 1 ∷ call.admit 0 2 ∷ Call.Advance 0 ∷ Call.Advance 10 ∷ []

abbrev pub pool : List Call
pool = pool-start ++ (call.run 0 0 0 7 ∷ call.block 0 2 15 ∷ Call.Advance 20 ∷ Call.Advance 30 ∷ Call.Advance 40 ∷ [])

-- the book after it
abbrev pub pool-book : Book
pool-book = book_at pool-host pool

-- 0/0 runs from 0 to 10 and from 20 to 40, 0/1 from 10 to 20 and from 40: 30 and 10 ticks
pub pool-does : (map (λ (r : Step). r.number) (steps (first_host pool-host) pool) ≡ 0 ∷ 0 ∷ 0 ∷ 0 ∷ 0 ∷ 0 ∷ 5 ∷ 0 ∷ 0 ∷ 0 ∷ 0 ∷ [])
    × (map (λ (r : Step). r.moves) (steps (first_host pool-host) pool)
    ≡ [] ∷ [] ∷ [] ∷ [] ∷ (Run 0 0 ∷ []) ∷ (Preempt 0 0 ∷ Run 1 0 ∷ []) ∷ [] ∷ [] ∷ (Preempt 1 0 ∷ Run 0 0 ∷ []) ∷ [] ∷ (Preempt 0 0 ∷ Run 1 0 ∷ []) ∷ [])
    × ((step (host_at pool-host pool-start) (call.run 0 0 0 7)).number ≡ 5)
    × (book_service pool-book 40 0 ≡ 30) × (book_service pool-book 40 1 ≡ 10)
unfolding computing after_all steps book_after enter moved_all holder
pool-does = (refl, refl, refl, refl, refl)

pub pool_list : PoolList service_machine 10 (first_host pool-host) pool
unfolding after_all
pool_list =
    lists.prepares (lists.weigh 0 0 512) (lists.prepares (lists.admit 0 0) (lists.prepares (lists.admit 0 1) (lists.prepares (lists.admit 0 2)
    (lists.starts (lists.advances {t = 0} {n = 10} (omega arith) (omega arith)
    (lists.refused {h = host_at pool-host pool-start} {c = call.run 0 0 0 7} (λ e. omega (arith, sym pool-does.2 ∙ e))
    (lists.departs (lists.block 0 2 15) (lists.advances {t = 10} {n = 20} (omega arith) (omega arith)
    (lists.advances {t = 20} {n = 30} (omega arith) (omega arith)
    (lists.advances {t = 30} {n = 40} (omega arith) (omega arith) lists.done))))))))))

pub pool-holds : Demand-3 pool-host pool
pool-holds = demand_3 pool-host pool (search rules)

-- the lag at 50: 0/1, which runs, is ahead of 0/0, which waits, by no more than the bound
pub pool-lag : book_service pool-book 50 1 * 512 ≤ book_service pool-book 50 0 * 256 + (10 + 10 - 1) * 512
unfolding computing after_all steps book_after enter moved_all holder latest weight_through
pool-lag =
    ((pool-holds pool [] refl).pool 10 pool_list).lag (omega arith) 40 50 refl (omega arith) 1 0 (record { domain = omega arith; vcpu = omega arith })
    (record { domain = omega arith; vcpu = omega arith }) refl refl

-- 0/0 and 0/1 stand at slots of a host of two vCPUs
here : PresentIn one-pcpu 0
here = record { domain = omega arith; vcpu = omega arith }

there : PresentIn one-pcpu 1
there = record { domain = omega arith; vcpu = omega arith }

-- ---- the bound attained: two vCPUs of weight 256 on one pCPU, slice 10, advances at 0 and 9. At 9 the one that runs has not run its
-- slice, so that it runs on; ten ticks later it is ahead by 10 + 10 − 1

abbrev pub even : List Call
even = call.admit 0 0 ∷ call.admit 0 1 ∷ Call.Advance 0 ∷ Call.Advance 9 ∷ []

abbrev pub even-book : Book
even-book = book_at built even

pub even_list : PoolList service_machine 10 (first_host built) even
even_list =
    lists.prepares (lists.admit 0 0) (lists.prepares (lists.admit 0 1)
    (lists.starts (lists.advances {t = 0} {n = 9} (omega arith) (omega arith) lists.done)))

pub even-holds : Demand-3 built even
even-holds = demand_3 built even (search rules)

-- 19 ticks for 0/0 and none for 0/1
pub even-does : (book_service even-book 19 0 ≡ 19) × (book_service even-book 19 1 ≡ 0)
unfolding computing after_all book_after enter moved_all holder
even-does = (refl, refl)

pub even-lag : book_service even-book 19 0 * 256 ≤ book_service even-book 19 1 * 256 + (10 + 10 - 1) * 256
unfolding computing after_all book_after enter moved_all holder latest weight_through
even-lag = ((even-holds even [] refl).pool 10 even_list).lag (omega arith) 9 19 refl (omega arith) 0 1 here there refl refl

pub bound_attained : book_service even-book 19 0 * 256 ≡ book_service even-book 19 1 * 256 + (10 + 10 - 1) * 256
unfolding computing after_all book_after enter moved_all holder
bound_attained = refl

-- ---- a member outside the policy's shape: the policy has 0/0 alone, so that 0/1 has the weight 256 and no other can be set. The mask of
-- 0/1 is set to one that admits every pCPU, and a dispatch of it while it is Offline is refused

abbrev pub outside : Fresh
outside = record { shape = one-pcpu; domains = 1; vcpus = 1; slice = 10; sized = one-sizes }

abbrev pub lone : List Call
lone =
    call.set_affinity 0 1 (2 ^ 64 - 1) ∷ call.run 0 1 0 99 ∷ Call.SetWeight 0 0 512 ∷ Call.SetWeight 0 1 2 ∷ call.admit 0 0 ∷ call.admit 0 1
    ∷ Call.Advance 0 ∷ Call.Advance 10 ∷ Call.Advance 20 ∷ Call.Advance 30 ∷ Call.Advance 40 ∷ []

abbrev pub lone-book : Book
lone-book = book_at outside lone

-- the holder is 0/0, 0/1, 0/0, 0/0, 0/1, as with weights 2 and 1
pub lone-does : (weight_at (host_at outside lone).scheduler 0 ≡ 512) × (weight_at (host_at outside lone).scheduler 1 ≡ 256)
    × (map (λ (r : Step). r.moves) (steps (first_host outside) lone)
    ≡ [] ∷ [] ∷ [] ∷ [] ∷ [] ∷ [] ∷ (Run 0 0 ∷ []) ∷ (Preempt 0 0 ∷ Run 1 0 ∷ []) ∷ (Preempt 1 0 ∷ Run 0 0 ∷ []) ∷ [] ∷ (Preempt 0 0 ∷ Run 1 0 ∷ []) ∷ [])
    × (book_service lone-book 40 0 ≡ 30) × (book_service lone-book 40 1 ≡ 10)
unfolding computing after_all steps book_after enter moved_all holder
lone-does = (refl, refl, refl, refl, refl)

pub lone_list : PoolList service_machine 10 (first_host outside) lone
unfolding computing after_all
lone_list =
    lists.prepares (lists.mask 0 1 (2 ^ 64 - 1) refl)
    (lists.refused {h = host_at outside (call.set_affinity 0 1 (2 ^ 64 - 1) ∷ [])} {c = call.run 0 1 0 99} (λ e. omega arith)
    (lists.prepares (lists.weigh 0 0 512) (lists.prepares (lists.weigh 0 1 2)
    (lists.prepares (lists.admit 0 0) (lists.prepares (lists.admit 0 1)
    (lists.starts (lists.advances {t = 0} {n = 10} (omega arith) (omega arith)
    (lists.advances {t = 10} {n = 20} (omega arith) (omega arith) (lists.advances {t = 20} {n = 30} (omega arith) (omega arith)
    (lists.advances {t = 30} {n = 40} (omega arith) (omega arith) lists.done))))))))))

pub lone-holds : Demand-3 outside lone
lone-holds = demand_3 outside lone (search rules)

-- the lag at 50, of 0/1, which runs, against 0/0, which waits
pub lone-lag : book_service lone-book 50 1 * 512 ≤ book_service lone-book 50 0 * 256 + (10 + 10 - 1) * 512
unfolding computing after_all book_after enter moved_all holder latest weight_through
lone-lag = ((lone-holds lone [] refl).pool 10 lone_list).lag (omega arith) 40 50 refl (omega arith) 1 0 there here refl refl

-- ---- whoever no weight was set for ranks as one set to 256: 0/1 of the first list, which is in the policy's shape, and 0/1 of the last

pub pool-unset : (s : System) (now : ℕ) → RanksAt 256 s (host_at pool-host pool).scheduler now 1
unfolding weight_through
pool-unset = unset-ranks pool-host pool 1 (unset.none (λ w. refl))

pub lone-unset : (s : System) (now : ℕ) → RanksAt 256 s (host_at outside lone).scheduler now 1
lone-unset = unset-ranks outside lone 1 (unset.outside refl)
