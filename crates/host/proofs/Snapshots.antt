-- Between two advances the snapshot stays: no call but an advance changes it, nor the policy's shape. Assumes nothing.
use Prim.Native.Nat.{ℕ, ◌/◌, ◌%◌}
use mathlib.Core.Bool.{Bool}
use mathlib.Core.Path.{◌≡◌, refl, ◌∙◌}
use mathlib.Core.List.{List, [], ◌∷◌}
use Rattle.policy.specs.declared.Scheduler.{Scheduler}
use Rattle.policy.specs.Accounts.{covers, was_schedulable, set_weight, set_wake_boost}
use Rattle.policy.proofs.Laws as policy
use Rattle.host.specs.declared.Host.{Host}
use Rattle.calls.specs.declared.Call.{Call}
use Rattle.host.specs.Step.{step, host_after}
use Rattle.host.specs.WakeEdges.{NoAdvance}

-- σ has the shape and the snapshot of π, and a table as long as the code's
pub record SameSnapshot (π σ : Scheduler) : Type 0 where
  pub tabled : policy.Tabled σ
  pub shape : (d v : ℕ) → covers σ d v ≡ covers π d v
  pub snapshot : (i : ℕ) → was_schedulable σ (i / 8) (i % 8) ≡ was_schedulable π (i / 8) (i % 8)

same : {π : Scheduler} → policy.Tabled π → SameSnapshot π π
same L = record { tabled = L; shape = λ d v. refl; snapshot = λ i. refl }

weighed : (π : Scheduler) → policy.Tabled π → (d v w : ℕ) → SameSnapshot π (set_weight π d v w)
weighed π L d v w =
    let r = policy.set-weighed π L d v w in
    record {
      tabled = policy.set-weight-tabled π L d v w;
      shape = λ e u. rw (r.same.domains, r.same.vcpus);
      snapshot = λ i. r.snapshot (i / 8) (i % 8);
    }

boosted : (π : Scheduler) → policy.Tabled π → (on : Bool) → SameSnapshot π (set_wake_boost π on)
boosted π L on =
    let r = policy.cleared π on in
    record {
      tabled = policy.cleared-tabled π L on;
      shape = λ d v. rw (r.domains, r.vcpus);
      snapshot = λ i. r.snapshot (i / 8) (i % 8);
    }

-- no call but an advance changes it
step_same : (h : Host) (c : Call) → ((now : ℕ) → c ≡ Call.Advance now → ⊥) → policy.Tabled h.scheduler
    → SameSnapshot h.scheduler (step h c).host.scheduler
unfolding step
step_same h (Call.Ask d v q) n L = same L
step_same h (Call.OfflineAll d now) n L = same L
step_same h (Call.SetWeight d v w) n L = weighed h.scheduler L d v w
step_same h (Call.SetWakeBoost on) n L = boosted h.scheduler L on
step_same h (Call.Advance now) n L = absurd (n now refl)

pub calls_same : (h : Host) (cs : List Call) → NoAdvance cs → policy.Tabled h.scheduler → SameSnapshot h.scheduler (host_after h cs).scheduler
unfolding host_after
calls_same h [] n L = same L
calls_same h (c ∷ cs) n L =
    let x = step_same h c n.0 L in
    let y = calls_same (step h c).host cs n.1 x.tabled in
    record {
      tabled = y.tabled;
      shape = λ d v. y.shape d v ∙ x.shape d v;
      snapshot = λ i. y.snapshot i ∙ x.snapshot i;
    }
