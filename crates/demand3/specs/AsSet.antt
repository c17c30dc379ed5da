-- What holds of the policy of a fresh host at every point of a list: it is as the calls have set it.
use Rattle.std.specs.Prelude.{ℕ, ◌≡◌, List}
use Rattle.policy.specs.declared.Scheduler.{Scheduler}
use Rattle.policy.specs.Accounts.{weight_of}
use Rattle.calls.specs.declared.Call.{Call}
use Rattle.demand3.specs.Weights.{weight_after}
use Rattle.demand3.specs.Fresh.{Fresh}

pub record AsSet (f : Fresh) (before : List Call) (π : Scheduler) : Type 0 where
  -- the weight looked up is the one that the list's weight calls leave, for ids of any size
  pub weights : (d v : ℕ) → weight_of π d v ≡ weight_after f.domains f.vcpus before d v
  -- the slice is the one that was asked for
  pub slice : π.quantum ≡ f.slice
