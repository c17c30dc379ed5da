-- Demand 3: one statement about every list of calls of a fresh host, whatever the clocks do. It is proved as
-- `demand_3`.
use Rattle.std.specs.Prelude.{ℕ, ◌≤◌, ◌≡◌, List, [], ◌∷◌, ◌++◌}
use Rattle.calls.specs.declared.Call.{Call}
use Rattle.host.specs.Step.{step}
use Rattle.demand3.specs.ServiceMachine.{service_machine}
use Rattle.demand3.specs.Lists.{AllTyped, PoolList}
use Rattle.demand3.specs.Fresh.{Fresh, first_host, host_at, book_at}
use Rattle.demand3.specs.AtPoint.{AtPoint}
use Rattle.demand3.specs.AsSet.{AsSet}
use Rattle.demand3.specs.AtCall.{AtCall}
use Rattle.demand3.specs.AfterAdvance.{AfterAdvance}
use Rattle.demand3.specs.InPool.{InPool}

-- What holds where the calls `before` of the list cs were made. What an advance comes to is said for a slice of 1 or
-- more: with slice 0 a vCPU has expired as it is dispatched, and the same advance may take it off again.
pub record Point (f : Fresh) (cs before : List Call) : Type 0 where
  -- the system and its policy
  pub here : AtPoint f.shape (book_at f before) (host_at f before).system
  pub set : AsSet f before (host_at f before).scheduler
  -- the next call, whichever it is
  pub call : (c : Call) → AtCall service_machine f.shape (book_at f before) (host_at f before) c
  -- and if it is an advance
  pub advance : 1 ≤ f.slice → (now : ℕ)
      → let after = before ++ (Call.Advance now ∷ []) in
      AfterAdvance f.shape (step (host_at f before) (Call.Advance now)).moves (book_at f after)
  -- if the list is a pool list
  pub pool : (g : ℕ) → PoolList service_machine g (first_host f) cs → InPool f before g

-- at every point of the list: after every part of it from its start
abbrev pub Demand-3 : Fresh → List Call → Type 0
Demand-3 f cs = (before rest : List Call) → cs ≡ before ++ rest → Point f cs before

abbrev pub EveryFreshHost : Type 0
EveryFreshHost = (f : Fresh) (cs : List Call) → AllTyped cs → Demand-3 f cs
