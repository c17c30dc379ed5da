-- The rule of the service policy.
use Rattle.std.specs.Prelude.{ℕ, false, ◌≡◌, refl}
use Rattle.system.specs.declared.System.{System}
use Rattle.policy.specs.declared.Scheduler.{Scheduler}
use Rattle.policy.specs.Standing.{weight_at, service_by, deserves}
use Rattle.rules.specs.Rules.{Rule, beats}

-- service over weight; nobody is barred
abbrev pub rule_of : Scheduler → Rule
rule_of π = record { slice = π.quantum; barred = λ s now i. false; service = service_by π; weight = weight_at π }

pub beats-deserves : (s : System) (π : Scheduler) (now i j : ℕ) → beats (rule_of π) s now i j ≡ deserves s π now i j
unfolding deserves
beats-deserves s π now i j = refl
