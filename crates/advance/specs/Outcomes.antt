-- What `next` and `advance` hand back, by the numbers of the answers.
use Rattle.std.specs.Prelude.{ℕ, ◌/◌, ◌%◌, length, Result, Ok, Err}
use Rattle.system.specs.declared.System.{System}
use Rattle.system.specs.declared.Answer.{Answer}
use Rattle.system.specs.declared.Answer.TheVariants.{Done}
use Rattle.system.specs.Answers.{told}
use Rattle.moves.specs.declared.Choice.{Choice}
use Rattle.moves.specs.declared.Choice.TheVariants.{Run, Preempt, Rest}
use Rattle.policy.specs.declared.Scheduler.{Scheduler}
use Rattle.advance.specs.declared.Decision.{Decision}
use Rattle.advance.specs.declared.Decision.TheVariants as decision
use Rattle.advance.specs.declared.Outcome.{Outcome}
use Rattle.advance.specs.Advance.{NextOutcome, AdvanceResult}

-- a choice by the vCPU's ids, as the code has it
abbrev pub named_as : Choice → Decision
named_as (Run i p) = decision.Run (i / 8 % 16) (i % 8) p
named_as (Preempt i p) = decision.Preempt (i / 8 % 16) (i % 8) p
named_as Rest = decision.Idle

-- beside a refusal nothing is recommended
abbrev pub next_outcome : Result Decision Answer → NextOutcome
next_outcome (Ok d) = record { number = told Done; decision = d }
next_outcome (Err a) = record { number = told a; decision = decision.Idle }

-- the moves counted
pub record AdvanceOutcome : Type 0 where
  pub number : ℕ
  pub system : System
  pub policy : Scheduler
  pub count : ℕ

abbrev pub advance_outcome : Outcome → System → Scheduler → AdvanceOutcome
advance_outcome r s π = record { number = told r.answer; system = s; policy = π; count = r.count }

abbrev pub counted : AdvanceResult → AdvanceOutcome
counted a = record { number = a.number; system = a.system; policy = a.policy; count = length a.moves }
