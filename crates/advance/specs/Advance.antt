-- `next` and `advance`.
use Rattle.std.specs.Prelude.{ℕ, ◌/◌, ◌%◌, Bool, cond, List, []}
use Rattle.system.specs.declared.System.{System}
use Rattle.system.specs.declared.Answer.TheVariants.{Done, Unsound}
use Rattle.system.specs.Answers.{told}
use Rattle.verdict.specs.Violations.{invariants_hold}
use Rattle.moves.specs.declared.Choice.{Choice}
use Rattle.moves.specs.declared.Choice.TheVariants.{Run, Preempt, Rest}
use Rattle.policy.specs.declared.Scheduler.{Scheduler}
use Rattle.rules.specs.Settle.{settle, limit}
use Rattle.advance.specs.declared.Decision.{Decision}
use Rattle.advance.specs.declared.Decision.TheVariants as decision
use Rattle.policy.specs.Accounting.{accounted}
use Rattle.rules.specs.Choices.{choice}
use Rattle.advance.specs.ServiceRule.{rule_of}

-- a choice by the vCPU's ids
abbrev pub named : Choice → Decision
named (Run i p) = decision.Run (i / 8) (i % 8) p
named (Preempt i p) = decision.Preempt (i / 8) (i % 8) p
named Rest = decision.Idle

-- what `next` is told, and what it recommends
pub record NextOutcome : Type 0 where
  pub number : ℕ
  pub decision : Decision

-- c, of a sound system; of any other 8 and Idle
abbrev pub recommended : Bool → Choice → NextOutcome
recommended sound c =
    cond sound (record { number = told Done; decision = named c }) (record { number = told Unsound; decision = decision.Idle })

unfoldable pub next : System → Scheduler → ℕ → NextOutcome
next s π now = recommended (invariants_hold s) (choice s (rule_of π) now)

-- what an advance is told, and what it leaves; the count that it answers is the number of moves
pub record AdvanceResult : Type 0 where
  pub number : ℕ
  pub system : System
  pub policy : Scheduler
  pub moves : List Choice

-- an advance of a sound system
abbrev pub sound_advance : System → Scheduler → ℕ → AdvanceResult
sound_advance s π now =
    let ρ = accounted s π now in
    let r = settle (rule_of ρ) now (limit s) s in
    record { number = told Done; system = r.system; policy = ρ; moves = r.moves }

unfoldable pub advance : System → Scheduler → ℕ → AdvanceResult
advance s π now =
    cond (invariants_hold s) (sound_advance s π now) (record { number = told Unsound; system = s; policy = π; moves = [] })
