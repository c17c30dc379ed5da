-- Demand 3 holds: one theorem over every list of calls of every fresh host. Assumes nothing.
use Prim.Native.Nat.{ℕ, ◌≤◌}
use mathlib.Core.Path.{refl, sym, subst}
use mathlib.Core.List.{List, [], ◌∷◌, ◌++◌}
use native.Mathlib.Omega.{arith}
use Rattle.host.specs.declared.Host.{Host}
use Rattle.calls.specs.declared.Call.{Call}
use Rattle.host.specs.Step.{step}
use Rattle.advance.proofs.Laws.{accounted-slice}
use Rattle.demand3.specs.ServiceMachine.{service_machine}
use Rattle.demand3.specs.Book.{blank_book}
use Rattle.demand3.specs.Lists.{book_after}
use Rattle.demand3.specs.Fresh.{Fresh, first_host, host_at, book_at}
use Rattle.demand3.specs.AfterAdvance.{AfterAdvance}
use Rattle.demand3.specs.Demand3.{EveryFreshHost}
use Rattle.demand3.proofs.EveryCall.{Kept, step-goes, after_kept, book-append}
use Rattle.demand3.proofs.ServiceMachine.{advance-traced, advance-rests-here, service_lawful}
use Rattle.demand3.proofs.FreshHost.{fresh_in_step, fresh_kept, fresh-clipped}
use Rattle.demand3.proofs.AtPoint.{machine_at-point, machine_at-call}
use Rattle.demand3.proofs.AsSet.{slice_at, as_set}
use Rattle.demand3.proofs.AfterAdvance.{after-advance}
use Rattle.demand3.proofs.InPool.{is_in_pool}

advanced : (f : Fresh) (before : List Call) → 1 ≤ f.slice → (now : ℕ)
    → AfterAdvance f.shape (step (host_at f before) (Call.Advance now)).moves (book_at f (before ++ (Call.Advance now ∷ [])))
unfolding book_after
advanced f before q now =
    subst (AfterAdvance f.shape (step h (Call.Advance now)).moves)
    (sym (book-append service_machine f.shape before (Call.Advance now ∷ []) (first_host f) (blank_book f.shape)))
    (after-advance (advance-traced h now K.in_step.sound).trace
    (omega (arith, accounted-slice h.system h.scheduler now, slice_at f before)) (λ i. refl)
    (advance-rests-here h now K.in_step.tables K.in_step.sound (omega (arith, slice_at f before))) K.in_step
    (step-goes service_lawful (Call.Advance now) K).kept.in_step)
  where
    h : Host
    h = host_at f before

    K : Kept service_machine f.shape (book_at f before) h
    K = after_kept service_lawful before (first_host f) (blank_book f.shape) (fresh_kept f)

pub demand_3 : EveryFreshHost
demand_3 f cs typed before rest x =
    record {
      here = machine_at-point service_lawful f.shape (blank_book f.shape) (first_host f) (fresh_in_step f) (fresh-clipped f) before;
      set = as_set f before;
      call = machine_at-call service_lawful f.shape (blank_book f.shape) (first_host f) (fresh_in_step f) before;
      advance = advanced f before;
      pool = is_in_pool f cs before rest x typed;
    }
