-- Each clause of demand 3 at the figures of one list, worked out by hand: a clause that said less would not give
-- them. Assumes nothing.
use Rattle.std.specs.Prelude.{Some}
use Prim.Native.Nat.{◌+◌, ◌-◌, ◌*◌, ◌≤◌, ◌<◌}
use mathlib.Core.Bool.{true}
use mathlib.Core.Path.{◌≡◌, refl, sym}
use mathlib.Core.List.{List, [], ◌∷◌, ◌++◌}
use native.Mathlib.Omega.{arith}
use borrow.Author.Rules.{rules}
use lib.ListN.{length}
use Rattle.masks.specs.Masks.{permits}
use Rattle.system.specs.declared.RunState.TheVariants.{Runnable}
use Rattle.system.specs.declared.System.{System}
use Rattle.system.specs.declared.Answer.TheVariants.{PcpuBusy}
use Rattle.system.specs.Answers.{told}
use Rattle.system.specs.Reads.{vcpu_at, runtime_of, on_cpu_since, affinity_permits}
use Rattle.moves.specs.declared.Choice.{Choice}
use Rattle.scans.specs.Scan.{nobody}
use Rattle.policy.specs.declared.Scheduler.{Scheduler}
use Rattle.policy.specs.Accounts.{offset_of, weight_of}
use Rattle.policy.specs.Standing.{service_at}
use Rattle.rules.specs.Settle.{moves_on}
use Rattle.calls.specs.declared.Call.{Call}
use Rattle.calls.specs.Asked as call
use Rattle.host.specs.Computing.{computing}
use Rattle.host.specs.Step.{step}
use Rattle.usage.specs.Usage.{sum, usage}
use Rattle.demand3.specs.Book.{Book, Shape, holder, enter, moved_all}
use Rattle.demand3.specs.ServiceMachine.{service_machine}
use Rattle.demand3.specs.Agreement.{PresentIn}
use Rattle.demand3.specs.Lists.{after_all, book_after, PoolList, latest, book_service}
use Rattle.demand3.specs.Lists as lists
use Rattle.demand3.specs.Weights.{weight_through}
use Rattle.demand3.specs.Fresh.{Sized, Fresh, first_host, host_at, book_at}
use Rattle.demand3.specs.AfterAdvance.{AfterAdvance}
use Rattle.demand3.specs.Demand3.{Point, Demand-3}
use Rattle.demand3.proofs.Laws.{demand_3}

-- two vCPUs on one pCPU, slice 10: 0/0 at weight 512 runs from 0 to 10 and waits, 0/1 runs from 10
abbrev k : Shape
k = record { domains = 1; vcpus = 2; pcpus = 1 }

pub sizes : Sized k
sizes = record { domains = omega arith; vcpus = omega arith; pcpus = omega arith }

abbrev f : Fresh
f = record { shape = k; domains = 1; vcpus = 2; slice = 10; sized = sizes }

abbrev start : List Call
start = Call.SetWeight 0 0 512 ∷ call.admit 0 0 ∷ call.admit 0 1 ∷ Call.Advance 0 ∷ []

abbrev cs : List Call
cs = start ++ (Call.Advance 10 ∷ call.run 0 0 0 10 ∷ [])

abbrev rest : List Call
rest = call.run 0 0 0 10 ∷ []

abbrev ran : List Call
ran = start ++ (Call.Advance 10 ∷ [])

abbrev b : Book
b = book_at f ran

abbrev s : System
s = (host_at f ran).system

abbrev π : Scheduler
π = (host_at f ran).scheduler

abbrev moves : List Choice
moves = (step (host_at f start) (Call.Advance 10)).moves

holds : Demand-3 f cs
holds = demand_3 f cs (search rules)

-- after the second advance
here : Point f cs ran
here = holds ran rest refl

first : PresentIn k 0
first = record { domain = omega arith; vcpu = omega arith }

second : PresentIn k 1
second = record { domain = omega arith; vcpu = omega arith }

busy : (step (host_at f ran) (call.run 0 0 0 10)).number ≡ told PcpuBusy
unfolding computing after_all book_after enter moved_all holder
busy = (here.call (call.run 0 0 0 10)).told

pool : PoolList service_machine 10 (first_host f) cs
unfolding after_all
pool =
    lists.prepares (lists.weigh 0 0 512) (lists.prepares (lists.admit 0 0) (lists.prepares (lists.admit 0 1)
    (lists.starts (lists.advances {t = 0} {n = 10} (omega arith) (omega arith)
    (lists.refused {h = host_at f ran} {c = call.run 0 0 0 10} (λ e. omega (arith, busy)) lists.done)))))

-- as it returns
returned : AfterAdvance k moves b
returned = (holds start _ refl).advance (omega arith) 10

-- the system and its reads
pub system-figures : ((vcpu_at s 0).runtime ≡ 10) × (runtime_of s 0 0 ≡ Some 10) × (on_cpu_since s 0 1 ≡ Some 10)
    × (affinity_permits s 0 1 0 ≡ true) × ((b 1).mask < 2)
unfolding computing after_all book_after enter moved_all holder
system-figures =
    let r = here.here.reads in (
      sym (here.here.agrees.lines 0 first).time,
      (r.line 0 0 (omega arith) (omega arith)).runtime,
      (r.line 0 1 (omega arith) (omega arith)).since,
      here.here.admits 0 1 0 (omega arith) (omega arith),
      here.here.masks 1 second,
    )

-- the policy, and the moves of the second advance
pub policy-figures : (weight_of π 0 0 ≡ 512) × (weight_of π 0 1 ≡ 256) × (π.quantum ≡ 10) × (length moves ≤ 2) × (moves_on 0 moves ≤ 2)
unfolding weight_through
policy-figures = (
  here.set.weights 0 0,
  here.set.weights 0 1,
  here.set.slice,
  returned.moves,
  returned.moves-on 0 (omega arith),
)

-- as the second advance returns
pub placed-figures : (b 0).state ≡ Runnable → holder k b 0 ≡ nobody → permits (b 0).mask 0 ≡ true → ⊥
placed-figures = returned.placed 0 0 first (omega arith)

-- the lag of 0/0, which waits, behind 0/1 at 20, and the services that it compares: 10 over weight 512 and 10 over weight 256
pub lag-figures : (book_service b 20 1 * 512 ≤ book_service b 20 0 * 256 + (10 + 10 - 1) * 512) × (offset_of π 0 0 ≡ 0)
    × (service_at s π 20 0 ≡ 10) × (service_at s π 20 1 ≡ 10)
unfolding computing after_all book_after enter moved_all holder latest weight_through
lag-figures = (
  (here.pool 10 pool).lag (omega arith) 10 20 refl (omega arith) 1 0 second first refl refl,
  (here.pool 10 pool).offsets 0,
  (here.pool 10 pool).services 20 (omega arith) 0 first,
  (here.pool 10 pool).services 20 (omega arith) 1 second,
)

-- what each domain used up to 25: 10 by 0/0 and 15 by 0/1, and nothing by a domain that is not there
pub usage-figures : (usage s 0 25 ≡ 25) × (usage s 1 25 ≡ 0)
unfolding computing after_all book_after enter moved_all holder sum
usage-figures =
    let r = here.here.reads in (
      r.used 0 25 (omega arith),
      r.unused 1 25 (omega arith),
    )
