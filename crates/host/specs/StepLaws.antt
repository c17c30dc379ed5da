-- Laws of a step, of every host, damaged or not: what it can be told, that a refusal changes nothing, and which half of the host a
-- call leaves as it was. Assumes nothing.
use Rattle.std.specs.Prelude.{Bool, true, false, ◌≡◌, refl, []}
use Rattle.std.proofs.Common.{ap₂}
use Rattle.system.specs.declared.System.{System}
use Rattle.system.specs.declared.Answer.{Answer}
use Rattle.system.specs.declared.Answer.TheVariants.{Done, Unsound}
use Rattle.system.specs.Answers.{told, SystemOutcome}
use Rattle.verdict.specs.Violations.{invariants_hold}
use Rattle.sched.specs.Answered.{Answered, requested-answered, offline-all-answered}
use Rattle.policy.specs.declared.Scheduler.{Scheduler}
use Rattle.advance.specs.Advance.{AdvanceResult}
use Rattle.advance.specs.Answered.{AdvanceAnswered, advance-answered}
use Rattle.host.specs.declared.Host.{Host}
use Rattle.calls.specs.declared.Call.{Call}
use Rattle.host.specs.Step.{Step, by_system, by_policy, by_advance, step}

-- a listed answer is told, and a number other than 0 leaves the host as it was, with no moves
pub record StepAnswered (h : Host) (r : Step) : Type 0 where
  pub answer : Answer
  pub listed : r.number ≡ told answer
  pub refused : (r.number ≡ told Done → ⊥) → (r.host ≡ h) × (r.moves ≡ [])

by-system : (h : Host) {r : SystemOutcome} → Answered h.system r → StepAnswered h (by_system h r)
by-system h a =
    record {
      answer = a.answer;
      listed = a.listed;
      refused = λ n. (ap₂ (λ (s : System) (π : Scheduler). record { system = s; scheduler = π }) (a.refused n) refl, refl);
    }

by-policy : (h : Host) (π : Scheduler) → StepAnswered h (by_policy h π)
by-policy h π = record { answer = Done; listed = refl; refused = λ n. absurd (n refl) }

by-advance : (h : Host) {r : AdvanceResult} → AdvanceAnswered h.system h.scheduler r → StepAnswered h (by_advance r)
by-advance h {r} a = go (invariants_hold h.system) refl
  where
    same : (r.number ≡ told Done → ⊥) → ((by_advance r).host ≡ h) × (r.moves ≡ [])
    same n =
        let x = a.refused n in
        (ap₂ (λ (s : System) (π : Scheduler). record { system = s; scheduler = π }) x.0 x.1, x.2)

    go : (b : Bool) → invariants_hold h.system ≡ b → StepAnswered h (by_advance r)
    go true e = record { answer = Done; listed = a.tells.sound e; refused = same }
    go false e = record { answer = Unsound; listed = a.tells.unsound e; refused = same }

pub step-answered : (h : Host) (c : Call) → StepAnswered h (step h c)
unfolding step
step-answered h (Call.Ask d v q) = by-system h (requested-answered _ d v q)
step-answered h (Call.OfflineAll d now) = by-system h (offline-all-answered _ d now)
step-answered h (Call.SetWeight d v w) = by-policy h _
step-answered h (Call.SetWakeBoost on) = by-policy h _
step-answered h (Call.Advance now) = by-advance h (advance-answered h.system h.scheduler now)

-- a call of the mechanism leaves the policy as it was, one of the policy leaves the system as it was, and neither moves anybody; an advance
-- may write both
abbrev pub LeavesPolicy : Host → Step → Type 0
LeavesPolicy h r = (r.host.scheduler ≡ h.scheduler) × (r.moves ≡ [])

abbrev pub LeavesSystem : Host → Step → Type 0
LeavesSystem h r = (r.host.system ≡ h.system) × (r.moves ≡ [])

abbrev pub Apart : Call → Host → Step → Type 0
Apart (Call.Ask d v q) h r = LeavesPolicy h r
Apart (Call.OfflineAll d now) h r = LeavesPolicy h r
Apart (Call.SetWeight d v w) h r = LeavesSystem h r
Apart (Call.SetWakeBoost on) h r = LeavesSystem h r
Apart (Call.Advance now) h r = Unit {0}

pub step-apart : (h : Host) (c : Call) → Apart c h (step h c)
unfolding step
step-apart h (Call.Ask d v q) = (refl, refl)
step-apart h (Call.OfflineAll d now) = (refl, refl)
step-apart h (Call.SetWeight d v w) = (refl, refl)
step-apart h (Call.SetWakeBoost on) = (refl, refl)
step-apart h (Call.Advance now) = tt
