-- At every point of every list of calls of a fresh host its policy is as the calls have set it. Assumes nothing.
use Prim.Native.Nat.{ℕ}
use mathlib.Core.Path.{◌≡◌, refl, ◌∙◌}
use mathlib.Core.List.{List, [], ◌∷◌}
use Rattle.host.specs.declared.Host.{Host}
use Rattle.calls.specs.declared.Call.{Call}
use Rattle.policy.specs.Accounts.{weight_of, fresh_policy}
use Rattle.demand3.specs.ServiceMachine.{service_machine}
use Rattle.demand3.specs.Book.{Book, Shape, blank_book}
use Rattle.demand3.specs.Weights.{weight_after}
use Rattle.demand3.specs.Lists.{after_all}
use Rattle.demand3.specs.Fresh.{Fresh, first_host, host_at}
use Rattle.demand3.specs.AsSet.{AsSet}
use Rattle.demand3.proofs.EveryCall.{Kept, step-goes}
use Rattle.demand3.proofs.ServiceMachine.{service_lawful, step-slice}
use Rattle.demand3.proofs.WeightCalls.{weighs-all, after-weighs}
use Rattle.demand3.proofs.FreshHost.{fresh_kept, fresh-weighs}

after-slice : {k : Shape} (cs : List Call) (h : Host) (b : Book) → Kept service_machine k b h
    → (after_all service_machine h cs).scheduler.quantum ≡ h.scheduler.quantum
unfolding after_all
after-slice [] h b K = refl
after-slice (c ∷ cs) h b K = after-slice cs _ _ (step-goes service_lawful c K).kept ∙ step-slice h c K.in_step.sound

module _ (f : Fresh) (before : List Call) where
  pub weights-at : (d v : ℕ) → weight_of (host_at f before).scheduler d v ≡ weight_after f.domains f.vcpus before d v
  weights-at = weighs-all (after-weighs before (first_host f) (fresh_kept f) (fresh-weighs f))

  pub slice_at : (host_at f before).scheduler.quantum ≡ f.slice
  unfolding fresh_policy
  slice_at = after-slice before (first_host f) (blank_book f.shape) (fresh_kept f)

  pub as_set : AsSet f before (host_at f before).scheduler
  as_set = record { weights = weights-at; slice = slice_at }
