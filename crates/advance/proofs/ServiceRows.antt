-- What is stored of a slot under the service policy is its row by the policy's rule. Assumes nothing.
use Rattle.std.proofs.Common.{ℕ, suc, ◌/◌, ◌%◌, ◌<◌, List, set, ◌≡◌}
use Rattle.service.specs.Service.{value, held}
use Rattle.service.specs.Laws.{value-held}
use Rattle.system.specs.declared.RunState.TheVariants.{Runnable}
use Rattle.system.specs.declared.VirtualCpu.{VirtualCpu}
use Rattle.system.specs.declared.System.{System}
use Rattle.system.specs.Reads.{vcpu_at}
use Rattle.system.specs.Slots.{slots, present}
use Rattle.changes.specs.Records.{left}
use Rattle.moves.specs.declared.Row.{Row}
use Rattle.policy.specs.declared.Scheduler.{Scheduler}
use Rattle.policy.specs.Accounts.{account_of}
use Rattle.policy.specs.Standing.{service_of, service_by}
use Rattle.settling.specs.TableOf.{TableOf}
use Rattle.settling.proofs.Laws.{slot-stored}
use Rattle.advance.specs.ServiceRule.{rule_of}
use Rattle.advance.specs.Tabulated.{service_row}

service-held : (π : Scheduler) (v : VirtualCpu) (now i : ℕ)
    → value (held (service_of v (account_of π (i / 8) (i % 8)) now)) ≡ service_by π v now i
unfolding service_by
service-held π v now i = value-held _

-- the row of slot i stored is one row more
pub row-stored : (s : System) (π : Scheduler) (now i : ℕ) {t : List Row} → i < slots s → TableOf s (rule_of π) now t i
    → TableOf s (rule_of π) now
    (set t i (service_row (vcpu_at s i) (account_of π (i / 8) (i % 8)) (present s i) π.quantum now)) (suc i)
row-stored s π now i l T =
    slot-stored s (rule_of π) now i _ _ _ l (service-held π (vcpu_at s i) now i) (service-held π (left (vcpu_at s i) Runnable now) now i) T
