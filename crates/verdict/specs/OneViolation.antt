-- What is said of one vCPU and of one pCPU, each read with the record that the other table has for it.
use Rattle.std.specs.Prelude.{ℕ, ◌%◌, Bool, false, Option, None, ltb}
use Rattle.system.specs.declared.RunState.{RunState}
use Rattle.system.specs.declared.Occupant.{Occupant}
use Rattle.system.specs.declared.Occupant.TheVariants.{Idle, Vcpu}
use Rattle.system.specs.declared.System.{System}
use Rattle.system.specs.States.{while_running}
use Rattle.system.specs.Reads.{vcpu_at}
use Rattle.system.specs.Slots.{vcpus, slot_read}
use Rattle.verdict.specs.declared.Violation.{Violation}
use Rattle.verdict.specs.Violations.{running_violation, occupant_violation}

-- where to look up the pCPU of a vCPU: always in the table, and its own pCPU if that exists
abbrev pub pcpu_index : RunState → ℕ
pcpu_index st = while_running st (λ p. p % 64) 0

abbrev pub vcpu_violation_at : ℕ → Occupant → ℕ → ℕ → ℕ → RunState → Option Violation
vcpu_violation_at n o d v mask st = while_running st (running_violation n o d v mask) None

-- where to look up the holder of a pCPU: always in the table, and its own slot if the holder exists
abbrev pub holder_slot : Occupant → ℕ
holder_slot Idle = 0
holder_slot (Vcpu d v) = slot_read d v

abbrev pub holder_violation_at : ℕ → ℕ → RunState → ℕ → Occupant → Option Violation
holder_violation_at n k st p Idle = None
holder_violation_at n k st p (Vcpu d v) = occupant_violation n k st p d v

-- the state is Running, and vCPU v is one of k
abbrev pub runs_within : ℕ → ℕ → RunState → Bool
runs_within k v st = while_running st (λ p. ltb v k) false

-- the vCPU of slot i exists and is Running
unfoldable pub running_at : System → ℕ → Bool
running_at s i = runs_within (vcpus s) (i % 8) (vcpu_at s i).state
