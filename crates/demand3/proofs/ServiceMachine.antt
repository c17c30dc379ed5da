-- The host of the service policy is a lawful machine: what its advances come to, that a refused call leaves it as it
-- was, and that no call changes its slice. Assumes nothing.
use Prim.Native.Nat.{ℕ}
use mathlib.Core.Bool.{Bool}
use mathlib.Core.Path.{◌≡◌, refl, ◌∙◌, ap}
use mathlib.Core.List.{List, [], ◌∷◌}
use native.Mathlib.Omega.{arith}
use Rattle.system.specs.declared.System.{System}
use Rattle.system.specs.Answers.{SystemOutcome}
use Rattle.system.specs.Writes.{Tables}
use Rattle.verdict.specs.Sound.{Sound, sound_iff}
use Rattle.sched.specs.Answered.{Answered, requested-answered, offline-all-answered}
use Rattle.moves.specs.declared.Choice.{Choice}
use Rattle.moves.specs.declared.Choice.TheVariants.{Rest}
use Rattle.policy.specs.declared.Scheduler.{Scheduler}
use Rattle.policy.specs.Accounts.{set_weight, set_wake_boost}
use Rattle.policy.specs.Accounting.{accounted}
use Rattle.policy.proofs.Laws.{put_same}
use Rattle.advance.specs.Advance as policy
use Rattle.advance.specs.ServiceRule.{rule_of}
use Rattle.advance.proofs.Laws.{accounted-slice}
use Rattle.rules.specs.Rules.{Rule}
use Rattle.rules.specs.Choices.{choice}
use Rattle.rules.specs.Settle.{limit}
use Rattle.rules.proofs.Laws.{Trace, rest, run, preempt, settle-trace, advance-rests}
use Rattle.host.specs.declared.Host.{Host}
use Rattle.calls.specs.declared.Call.{Call}
use Rattle.host.specs.Step.{Step, step, by_system, by_advance, host_after, Sliced}
use Rattle.demand3.specs.ServiceMachine.{service_machine, SameHosts}
use Rattle.demand3.specs.Lawful.{Enacts, rests, runs, preempts, Lawful}
use Rattle.demand3.specs.Lists.{after_all}

-- ---- an advance

-- of a sound system: its moves form a trace
pub record Advanced (h : Host) (now : ℕ) (r : Step) : Type 0 where
  pub told : r.number ≡ 0
  pub policy : r.host.scheduler ≡ accounted h.system h.scheduler now
  pub trace : Trace (rule_of (accounted h.system h.scheduler now)) now h.system r.moves r.host.system

pub advance-traced : (h : Host) (now : ℕ) → Sound h.system → Advanced h now (step h (Call.Advance now))
unfolding step policy.advance
advance-traced h now S = rw ((sound_iff h.system).1 S) settled
  where
    ρ : Scheduler
    ρ = accounted h.system h.scheduler now

    settled : Advanced h now (by_advance (policy.sound_advance h.system h.scheduler now))
    settled =
        record {
          told = refl;
          policy = refl;
          trace = settle-trace (rule_of ρ) now (limit h.system) h.system;
        }

-- with a slice of 1 or more the trace ends at rest
pub advance-rests-here : (h : Host) (now : ℕ) → Tables h.system → Sound h.system → Sliced h
    → choice (step h (Call.Advance now)).host.system (rule_of (accounted h.system h.scheduler now)) now ≡ Rest
unfolding step policy.advance
advance-rests-here h now T S q =
    let π = accounted h.system h.scheduler now in
    rw ((sound_iff h.system).1 S)
    (advance-rests (rule_of π) now h.system (omega (arith, q, accounted-slice h.system h.scheduler now)) T S)

-- the moves of a trace are such as the mechanism allows
pub trace-enacts : {ρ : Rule} {now : ℕ} {s t : System} {cs : List Choice} → Trace ρ now s cs t → Enacts now s cs t
trace-enacts rest = rests
trace-enacts (run e c r) = runs c (trace-enacts r)
trace-enacts (preempt e c r) = preempts c.present c.on (trace-enacts r)

-- ---- a refused call leaves the host as it was

by-refused : (h : Host) {r : SystemOutcome} → Answered h.system r → (r.number ≡ 0 → ⊥) → (by_system h r).host ≡ h
by-refused h a n = ap (λ (s : System). record { system = s; scheduler = h.scheduler }) (a.refused n)

refused-same : (h : Host) (c : Call) → Sound h.system → ((step h c).number ≡ 0 → ⊥) → (step h c).host ≡ h
unfolding step
refused-same h (Call.Ask d v q) S n = by-refused h (requested-answered h.system d v q) n
refused-same h (Call.OfflineAll d now) S n = by-refused h (offline-all-answered h.system d now) n
refused-same h (Call.SetWeight d v w) S n = absurd (n refl)
refused-same h (Call.SetWakeBoost on) S n = absurd (n refl)
refused-same h (Call.Advance now) S n = absurd (n (advance-traced h now S).told)

pub service_lawful : Lawful service_machine
unfolding step
service_lawful =
    record {
      ask = λ h d v q. record { number = refl; system = refl };
      offline-all = λ h d now. record { number = refl; system = refl };
      weight = λ h d v w. record { number = refl; system = refl };
      boost = λ h on. record { number = refl; system = refl };
      advance = λ h now T S. let A = advance-traced h now S in record { number = A.told; enacts = trace-enacts A.trace };
      refused = λ h c T S n. refused-same h c S n;
    }

-- a list leaves of it what it leaves of a host
pub host-after-same : SameHosts
unfolding after_all host_after
host-after-same h [] = refl
host-after-same h (c ∷ cs) = host-after-same (step h c).host cs

-- ---- no call changes the slice

weighed-slice : (π : Scheduler) (d v w : ℕ) → (set_weight π d v w).quantum ≡ π.quantum
unfolding set_weight
weighed-slice π d v w = (put_same π d v _).quantum

boosted-slice : (π : Scheduler) (on : Bool) → (set_wake_boost π on).quantum ≡ π.quantum
unfolding set_wake_boost
boosted-slice π on = refl

pub step-slice : (h : Host) (c : Call) → Sound h.system
    → (step h c).host.scheduler.quantum ≡ h.scheduler.quantum
unfolding step
step-slice h (Call.Ask d v q) S = refl
step-slice h (Call.OfflineAll d now) S = refl
step-slice h (Call.SetWeight d v w) S = weighed-slice h.scheduler d v w
step-slice h (Call.SetWakeBoost on) S = boosted-slice h.scheduler on
step-slice h (Call.Advance now) S =
    ap (λ (π : Scheduler). π.quantum) (advance-traced h now S).policy ∙ accounted-slice h.system h.scheduler now
