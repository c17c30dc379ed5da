-- A host, its calls, and what one call does.
use Rattle.std.specs.Prelude.{ℕ, ◌≤◌, List, [], ◌∷◌}
use Rattle.system.specs.declared.Answer.TheVariants.{Done}
use Rattle.system.specs.Answers.{told, SystemOutcome}
use Rattle.system.specs.Shape.{fresh}
use Rattle.sched.specs.Steps as sched
use Rattle.moves.specs.declared.Choice.{Choice}
use Rattle.policy.specs.declared.Scheduler.{Scheduler}
use Rattle.policy.specs.Accounts.{fresh_policy, set_weight, set_wake_boost}
use Rattle.advance.specs.Advance as policy
use Rattle.host.specs.declared.Host.{Host}
use Rattle.calls.specs.declared.Call.{Call}

-- what a call is told, the host that it leaves, and the moves that it enacted, in order (none but by an advance)
pub record Step : Type 0 where
  pub number : ℕ
  pub host : Host
  pub moves : List Choice

-- a call of the mechanism, and one of the policy
abbrev pub by_system : Host → SystemOutcome → Step
by_system h r = record { number = r.number; host = record { system = r.system; scheduler = h.scheduler }; moves = [] }

abbrev pub by_policy : Host → Scheduler → Step
by_policy h π = record { number = told Done; host = record { system = h.system; scheduler = π }; moves = [] }

abbrev pub by_advance : policy.AdvanceResult → Step
by_advance r = record { number = r.number; host = record { system = r.system; scheduler = r.policy }; moves = r.moves }

unfoldable pub step : Host → Call → Step
step h (Call.Ask d v q) = by_system h (sched.requested h.system d v q)
step h (Call.OfflineAll d now) = by_system h (sched.offline_all h.system d now)
step h (Call.SetWeight d v w) = by_policy h (set_weight h.scheduler d v w)
step h (Call.SetWakeBoost on) = by_policy h (set_wake_boost h.scheduler on)
step h (Call.Advance now) = by_advance (policy.advance h.system h.scheduler now)

-- the host after a list of calls
unfoldable pub host_after : Host → List Call → Host
host_after h [] = h
host_after h (c ∷ cs) = host_after (step h c).host cs

-- a host as built: d domains of v vCPUs on p pCPUs; a policy of e domains of u vCPUs with slice q
abbrev pub fresh_host : ℕ → ℕ → ℕ → ℕ → ℕ → ℕ → Host
fresh_host d v p e u q = record { system = fresh d v p; scheduler = fresh_policy e u q }

-- its slice is 1 or more
abbrev pub Sliced : Host → Type 0
Sliced h = 1 ≤ h.scheduler.quantum
