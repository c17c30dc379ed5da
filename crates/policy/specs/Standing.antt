-- A vCPU's standing: its service and its weight, and who has had less for it.
use Rattle.std.specs.Prelude.{ℕ, ◌+◌, ◌-◌, ◌/◌, ◌%◌, ◌^◌, min, Bool}
use Rattle.service.specs.Service.{value, more_deserving}
use Rattle.system.specs.declared.VirtualCpu.{VirtualCpu}
use Rattle.system.specs.declared.System.{System}
use Rattle.system.specs.Records.{runtime_until}
use Rattle.system.specs.Reads.{vcpu_at}
use Rattle.policy.specs.declared.Account.{Account}
use Rattle.policy.specs.declared.Scheduler.{Scheduler}
use Rattle.policy.specs.Accounts.{account_of, weight_of}

abbrev pub weight_at : Scheduler → ℕ → ℕ
weight_at π i = weight_of π (i / 8) (i % 8)

-- run time, the part in flight and the offset
abbrev pub service_of : VirtualCpu → Account → ℕ → ℕ
service_of v a now = runtime_until v now + value a.offset

-- by the record of the vCPU at slot i, held at 2^128 − 1
unfoldable pub service_by : Scheduler → VirtualCpu → ℕ → ℕ → ℕ
service_by π v now i = min (service_of v (account_of π (i / 8) (i % 8)) now) (2 ^ 128 - 1)

abbrev pub service_at : System → Scheduler → ℕ → ℕ → ℕ
service_at s π now i = service_by π (vcpu_at s i) now i

-- i has had less service for its weight than j
unfoldable pub deserves : System → Scheduler → ℕ → ℕ → ℕ → Bool
deserves s π now i j = more_deserving (service_at s π now i) (weight_at π i) (service_at s π now j) (weight_at π j)
