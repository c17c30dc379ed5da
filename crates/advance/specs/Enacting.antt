-- What an advance of a sound system does: it renews the accounts, then makes the moves that `next` answers, each by the mechanism's own
-- call, until `next` answers Idle or the limit is reached. It is proved as `advance-does`.
use Rattle.std.specs.Prelude.{ℕ, ◌/◌, ◌%◌, ◌≤◌, ◌≡◌, ◌⊎◌, List, [], ◌∷◌, ◌++◌, length}
use Rattle.system.specs.declared.System.{System}
use Rattle.system.specs.declared.Answer.TheVariants.{Done}
use Rattle.system.specs.Answers.{told, SystemOutcome}
use Rattle.system.specs.Reads.{pooled}
use Rattle.system.specs.Writes.{Tables}
use Rattle.verdict.specs.Sound.{Sound}
use Rattle.sched.specs.Steps as sched
use Rattle.sched.specs.CanRun.{CanRun}
use Rattle.sched.specs.Invariants.{Keeps}
use Rattle.moves.specs.declared.Choice.{Choice}
use Rattle.moves.specs.declared.Choice.TheVariants.{Run, Preempt, Rest}
use Rattle.policy.specs.declared.Scheduler.{Scheduler}
use Rattle.policy.specs.Accounting.{accounted}
use Rattle.rules.specs.Settle.{limit}
use Rattle.advance.specs.Advance.{named, NextOutcome, next, AdvanceResult, advance}

-- the mechanism's call that makes a move
abbrev pub called : System → ℕ → Choice → SystemOutcome
called s now (Run i p) = sched.run s (i / 8) (i % 8) p now
called s now (Preempt i p) = sched.preempt s (i / 8) (i % 8) now
called s now Rest = sched.done s

-- the system after these calls, one after another
unfoldable pub after_calls : System → ℕ → List Choice → System
after_calls s now [] = s
after_calls s now (c ∷ cs) = after_calls (called s now c).system now cs

-- what `next` is told, and answers, where it recommends c
abbrev pub recommending : Choice → NextOutcome
recommending c = record { number = told Done; decision = named c }

-- c is a move, `next` answers it on s under π, and its call is told 0
pub record Made (s : System) (π : Scheduler) (now : ℕ) (c : Choice) : Type 0 where
  pub moves : c ≡ Rest → ⊥
  pub answered : next s π now ≡ recommending c
  pub accepted : (called s now c).number ≡ told Done

pub record Does (s : System) (π : Scheduler) (now : ℕ) (r : AdvanceResult) : Type 0 where
  -- it is told 0, and the policy that it leaves has the renewed accounts
  pub number : r.number ≡ told Done
  pub policy : r.policy ≡ accounted s π now
  -- each move is made where those before it lead, under the renewed accounts
  pub made : (before rest : List Choice) (c : Choice) → r.moves ≡ before ++ (c ∷ rest) → Made (after_calls s now before) r.policy now c
  -- the system is what the last of them leaves
  pub system : r.system ≡ after_calls s now r.moves
  -- which is sound and of the same shape, with no run time fallen; nobody joins the pool or departs from it
  pub keeps : Keeps s r.system
  pub pool : (i : ℕ) → pooled r.system i ≡ pooled s i
  -- `next` answers Idle at the end, or as many moves are made as may be; never more
  pub ends : (next r.system r.policy now ≡ recommending Rest) ⊎ (length r.moves ≡ limit s)
  pub most : length r.moves ≤ limit s
  -- with a slice of at least 1 `next` answers Idle at the end, and nobody waits beside an idle pCPU that its mask admits
  pub rests : 1 ≤ π.quantum → next r.system r.policy now ≡ recommending Rest
  pub placed : 1 ≤ π.quantum → (i p : ℕ) → CanRun r.system i p → ⊥

-- for every sound system, whose tables are as long as the code's, every policy and every clock
abbrev pub EveryAdvance : Type 0
EveryAdvance = (s : System) (π : Scheduler) (now : ℕ) → Tables s → Sound s → Does s π now (advance s π now)
