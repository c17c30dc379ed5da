-- What an advance does first: the floor, offsets for those that join, the snapshot.
use Rattle.std.specs.Prelude.{ℕ, ◌-◌, ◌*◌, ◌/◌, Bool, true, false, cond, not, ◌&&◌, List}
use Rattle.system.specs.declared.RunState.{RunState}
use Rattle.system.specs.declared.RunState.TheVariants.{Offline, Runnable, Running, Blocked}
use Rattle.system.specs.declared.System.{System}
use Rattle.policy.specs.declared.Account.{Account}
use Rattle.policy.specs.declared.Scheduler.{Scheduler}
use Rattle.page.specs.Host.{vcpu, each, Found, nobody, one, best}
use Rattle.page.specs.Policy.{account, weight, four, hold, put}
use Rattle.page.specs.Standing.{service, deserving}

-- ---- Accounting
abbrev pub pooled : RunState → Bool
pooled Runnable = true
pooled (Running p) = true
pooled Offline = false
pooled Blocked = false

abbrev pub in_pool : System → ℕ → ℕ → Bool
in_pool s d v = pooled (vcpu s d v).state

abbrev pub was_in_pool : Scheduler → ℕ → ℕ → Bool
was_in_pool π d v = (account π d v).was_schedulable

-- the most deserving that is schedulable now and was at the last snapshot
unfoldable pub floor : System → Scheduler → ℕ → Found
floor s π now = best s (λ d v. in_pool s d v && was_in_pool π d v) (deserving s π now)

abbrev pub lifted : System → Scheduler → ℕ → ℕ → ℕ → Found → List ℕ
lifted s π now d v nobody = (account π d v).offset
lifted s π now d v (one e u) =
    four (hold (hold (service s π now e u * weight π d v) / weight π e u - (vcpu s d v).runtime))

-- one schedulable now and not then is lifted, with boost on; the snapshot is renewed
unfoldable pub renewed : System → Scheduler → ℕ → ℕ → ℕ → Account
renewed s π now d v =
    record {
      weight = (account π d v).weight;
      offset =
          cond (π.wake_boost && (in_pool s d v && not (was_in_pool π d v))) (lifted s π now d v (floor s π now)) (account π d v).offset;
      was_schedulable = in_pool s d v;
    }

unfoldable pub accounted : System → Scheduler → ℕ → Scheduler
accounted s π now = each s (λ d v ρ. put ρ d v (renewed s π now d v)) π
