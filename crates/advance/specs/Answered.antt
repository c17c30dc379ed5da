-- `next` and `advance` of every system, damaged or not: 8 is told of an unsound one and of no other, and changes nothing. Assumes nothing.
use Rattle.std.specs.Prelude.{ℕ, Bool, true, false, cond, ◌≡◌, refl, []}
use Rattle.std.proofs.Common.{true≢false, sym, ◌∙◌}
use Rattle.std.proofs.lemmas.Bool.{false≢true}
use Rattle.system.specs.declared.System.{System}
use Rattle.system.specs.declared.Answer.TheVariants.{Done, Unsound}
use Rattle.system.specs.Answers.{told}
use Rattle.verdict.specs.Violations.{invariants_hold}
use Rattle.policy.specs.declared.Scheduler.{Scheduler}
use Rattle.rules.specs.Choices.{choice}
use Rattle.advance.specs.declared.Decision.TheVariants as decision
use Rattle.advance.specs.Advance.{NextOutcome, recommended, next, AdvanceResult, sound_advance, advance}
use Rattle.advance.specs.ServiceRule.{rule_of}

-- what a number says of the system: 0 that it is sound, 8 that it is not; no other is told
pub record Tells (s : System) (n : ℕ) : Type 0 where
  pub sound : invariants_hold s ≡ true → n ≡ told Done
  pub unsound : invariants_hold s ≡ false → n ≡ told Unsound

-- `next`: beside 8 stands Idle
pub record NextAnswered (s : System) (r : NextOutcome) : Type 0 where
  pub tells : Tells s r.number
  pub refused : (r.number ≡ told Done → ⊥) → r.decision ≡ decision.Idle

pub next-answered : (s : System) (π : Scheduler) (now : ℕ) → NextAnswered s (next s π now)
unfolding next
next-answered s π now = go (invariants_hold s) refl
  where
    go : (b : Bool) → invariants_hold s ≡ b → NextAnswered s (recommended b (choice s (rule_of π) now))
    go true e =
        record {
          tells = record { sound = λ f. refl; unsound = λ f. absurd (true≢false (sym e ∙ f)) };
          refused = λ n. absurd (n refl);
        }
    go false e =
        record { tells = record { sound = λ f. absurd (false≢true (sym e ∙ f)); unsound = λ f. refl }; refused = λ n. refl }

-- an advance: a number other than 0 leaves the system and the policy as they were, with no moves
pub record AdvanceAnswered (s : System) (π : Scheduler) (r : AdvanceResult) : Type 0 where
  pub tells : Tells s r.number
  pub refused : (r.number ≡ told Done → ⊥) → (r.system ≡ s) × (r.policy ≡ π) × (r.moves ≡ [])

pub advance-answered : (s : System) (π : Scheduler) (now : ℕ) → AdvanceAnswered s π (advance s π now)
unfolding advance
advance-answered s π now = go (invariants_hold s) refl
  where
    go : (b : Bool) → invariants_hold s ≡ b
        → AdvanceAnswered s π (cond b (sound_advance s π now) (record { number = told Unsound; system = s; policy = π; moves = [] }))
    go true e =
        record {
          tells = record { sound = λ f. refl; unsound = λ f. absurd (true≢false (sym e ∙ f)) };
          refused = λ n. absurd (n refl);
        }
    go false e =
        record {
          tells = record { sound = λ f. absurd (false≢true (sym e ∙ f)); unsound = λ f. refl };
          refused = λ n. (refl, refl, refl);
        }
