-- What `advance` hands back is the definition's. Assumes nothing.
use Rattle.std.proofs.Common.{ℕ, true, false, length, ◌≡◌}
use Rattle.system.specs.declared.Answer.{Answer}
use Rattle.system.specs.declared.Answer.TheVariants.{Done, Unsound}
use Rattle.system.specs.declared.System.{System}
use Rattle.system.specs.Answers.{told}
use Rattle.verdict.specs.Violations.{invariants_hold}
use Rattle.policy.specs.declared.Scheduler.{Scheduler}
use Rattle.policy.specs.Accounting.{accounted}
use Rattle.rules.specs.Settle.{settle, limit}
use Rattle.advance.specs.Advance.{advance}
use Rattle.advance.specs.Outcomes.{AdvanceOutcome, counted}
use Rattle.advance.specs.ServiceRule.{rule_of}

-- what is handed back, by the number that is told
abbrev handed : Answer → System → Scheduler → ℕ → AdvanceOutcome
handed a t π m = record { number = told a; system = t; policy = π; count = m }

module _ (s : System) (p : Scheduler) (now : ℕ) where
  -- of a sound system, settled under the accounted policy
  pub settled : {t : System} {π : Scheduler} {m : ℕ} → invariants_hold s ≡ true → π ≡ accounted s p now
      → t ≡ (settle (rule_of π) now (limit s) s).system
      → m ≡ length (settle (rule_of π) now (limit s) s).moves → handed Done t π m ≡ counted (advance s p now)
  unfolding advance
  settled h e x y = rw (h, ← e, x, y)

  -- of any other, as it was
  pub untouched : invariants_hold s ≡ false → handed Unsound s p 0 ≡ counted (advance s p now)
  unfolding advance
  untouched h = rw h
