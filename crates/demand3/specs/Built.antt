-- Demand 3 of what building a host hands back. It is proved as `built-holds`.
use Rattle.std.specs.Prelude.{ℕ, ◌<◌, ◌≡◌, ◌⊎◌, List}
use Rattle.system.specs.declared.Answer.TheVariants.{Done, TooLarge}
use Rattle.system.specs.Answers.{told}
use Rattle.calls.specs.declared.Call.{Call}
use Rattle.host.specs.Outcomes.{HostOutcome, built_host}
use Rattle.demand3.specs.Book.{Shape}
use Rattle.demand3.specs.Lists.{AllTyped}
use Rattle.demand3.specs.Fresh.{Sized, Fresh, first_host}
use Rattle.demand3.specs.Demand3.{Demand-3}

-- a host whose policy has the shape of its system
abbrev pub asked : (k : Shape) → ℕ → Sized k → Fresh
asked k q z = record { shape = k; domains = k.domains; vcpus = k.vcpus; slice = q; sized = z }

-- what is handed back for a shape and a slice
pub record Built (k : Shape) (q : ℕ) (r : HostOutcome) : Type 0 where
  -- within the sizes it is done, with that host, of which demand 3 holds
  pub done : Sized k → r.number ≡ told Done
  pub host : (z : Sized k) → r.host ≡ first_host (asked k q z)
  pub holds : (z : Sized k) (cs : List Call) → AllTyped cs → Demand-3 (asked k q z) cs
  -- above any of them it is refused
  pub refused : (16 < k.domains) ⊎ ((8 < k.vcpus) ⊎ (64 < k.pcpus)) → r.number ≡ told TooLarge

abbrev pub EveryBuiltHost : Type 0
EveryBuiltHost = (k : Shape) (q : ℕ) → Built k q (built_host k.domains k.vcpus k.pcpus q)
