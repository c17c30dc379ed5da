-- What a call of a host hands back, by the numbers of the answers, with its moves counted.
use Rattle.std.specs.Prelude.{ℕ, cond, length, Result, Ok, Err}
use Rattle.system.specs.declared.Answer.{Answer}
use Rattle.system.specs.declared.Answer.TheVariants.{Done, TooLarge}
use Rattle.system.specs.Answers.{told}
use Rattle.system.specs.Shape.{within_sizes}
use Rattle.advance.specs.declared.Outcome.{Outcome}
use Rattle.host.specs.declared.Host.{Host}
use Rattle.host.specs.Step.{Step, fresh_host}

pub record HostOutcome : Type 0 where
  pub number : ℕ
  pub host : Host
  pub count : ℕ

abbrev pub host_outcome : Outcome → Host → HostOutcome
host_outcome r h = record { number = told r.answer; host = h; count = r.count }

-- a step with its moves counted
abbrev pub step_counted : Step → HostOutcome
step_counted r = record { number = r.number; host = r.host; count = length r.moves }

-- a host with a policy of the same shape; one above the sizes is told 7, beside the host of nothing
abbrev pub built_host : ℕ → ℕ → ℕ → ℕ → HostOutcome
built_host d v p q =
    cond (within_sizes d v p) (record { number = told Done; host = fresh_host d v p d v q; count = 0 })
    (record { number = told TooLarge; host = fresh_host 0 0 0 0 0 0; count = 0 })

-- what building hands back: beside a refusal stands the host of nothing
abbrev pub built_outcome : Result Host Answer → HostOutcome
built_outcome (Ok h) = record { number = told Done; host = h; count = 0 }
built_outcome (Err a) = record { number = told a; host = fresh_host 0 0 0 0 0 0; count = 0 }
