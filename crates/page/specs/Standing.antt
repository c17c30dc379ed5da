-- Service, and who is more deserving.
use Rattle.std.specs.Prelude.{ℕ, ◌+◌, ◌-◌, ◌*◌, Bool, ltb}
use Rattle.system.specs.declared.RunState.{RunState}
use Rattle.system.specs.declared.RunState.TheVariants.{Offline, Runnable, Running, Blocked}
use Rattle.system.specs.declared.System.{System}
use Rattle.policy.specs.declared.Scheduler.{Scheduler}
use Rattle.page.specs.Host.{vcpu}
use Rattle.page.specs.Policy.{account, weight, number, hold}

-- ---- Standing
abbrev pub in_flight : RunState → ℕ → ℕ
in_flight (Running p) ticks = ticks
in_flight Offline ticks = 0
in_flight Runnable ticks = 0
in_flight Blocked ticks = 0

abbrev pub service : System → Scheduler → ℕ → ℕ → ℕ → ℕ
service s π now d v =
    let x = vcpu s d v in
    hold (x.runtime + in_flight x.state (now - x.dispatched_at) + number (account π d v).offset)

-- d/v is more deserving than e/u
abbrev pub deserving : System → Scheduler → ℕ → ℕ → ℕ → ℕ → ℕ → Bool
deserving s π now d v e u =
    ltb (hold (service s π now d v * weight π e u)) (hold (service s π now e u * weight π d v))
