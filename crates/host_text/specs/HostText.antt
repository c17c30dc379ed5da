-- A host as text: a line for each vCPU, by domain, then vCPU, and one for each pCPU that somebody holds.
use Rattle.std.specs.Prelude.{ℕ, zero, suc, ◌*◌, ◌/◌, ◌%◌, cond, List, [], ◌∷◌, ◌++◌, ltb}
use Rattle.system.specs.declared.RunState.{RunState}
use Rattle.system.specs.declared.RunState.TheVariants.{Offline, Runnable, Running, Blocked}
use Rattle.system.specs.declared.VirtualCpu.{VirtualCpu}
use Rattle.system.specs.declared.Occupant.{Occupant}
use Rattle.system.specs.declared.Occupant.TheVariants.{Idle, Vcpu}
use Rattle.system.specs.declared.System.{System}
use Rattle.system.specs.Reads.{vcpu_at, occupant_at}
use Rattle.system.specs.Slots.{domains, vcpus, pcpus}
use Rattle.system.specs.States.{while_running}
use Rattle.policy.specs.declared.Scheduler.{Scheduler}
use Rattle.policy.specs.Accounts.{weight_of}
use Rattle.text.specs.Lines.{numbers_line, pcpu_line}

abbrev pub state_number : RunState → ℕ
state_number Offline = 0
state_number Runnable = 1
state_number (Running p) = 2
state_number Blocked = 3

-- the pCPU of a vCPU, 64 unless it is Running
abbrev pub pcpu_number : RunState → ℕ
pcpu_number st = while_running st (λ p. p) 64

-- since when it runs, 0 unless it is Running
abbrev pub clock_number : ℕ → RunState → ℕ
clock_number t st = while_running st (λ p. t) 0

-- domain, vCPU, state, pCPU, clock, run time, mask, weight, the pCPU that it was last on
abbrev pub vcpu_numbers : ℕ → ℕ → VirtualCpu → ℕ → List ℕ
vcpu_numbers d u v w =
    d
    ∷ u
    ∷ state_number v.state
    ∷ pcpu_number v.state
    ∷ clock_number v.dispatched_at v.state
    ∷ v.runtime
    ∷ v.affinity
    ∷ w
    ∷ v.last
    ∷ []

-- the line of slot i, if it is that of one of a domain's k vCPUs
abbrev pub slot_row : ℕ → ℕ → VirtualCpu → ℕ → List ℕ
slot_row k i v w = cond (ltb (i % 8) k) (numbers_line (vcpu_numbers (i / 8) (i % 8) v w)) []

abbrev pub vcpu_row : System → Scheduler → ℕ → List ℕ
vcpu_row s π i = slot_row (vcpus s) i (vcpu_at s i) (weight_of π (i / 8) (i % 8))

unfoldable pub vcpu_rows : System → Scheduler → ℕ → List ℕ
vcpu_rows s π zero = []
vcpu_rows s π (suc i) = vcpu_rows s π i ++ vcpu_row s π i

abbrev pub pcpu_row : ℕ → Occupant → List ℕ
pcpu_row p Idle = []
pcpu_row p (Vcpu d v) = pcpu_line p d v

unfoldable pub pcpu_rows : System → ℕ → List ℕ
pcpu_rows s zero = []
pcpu_rows s (suc p) = pcpu_rows s p ++ pcpu_row p (occupant_at s p)

unfoldable pub host_text : System → Scheduler → List ℕ
host_text s π = vcpu_rows s π (domains s * 8) ++ pcpu_rows s (pcpus s)
