-- The text of one host, worked out by hand. Assumes nothing.
use Rattle.std.specs.Prelude.{ℕ, refl, List, [], ◌∷◌}
use Rattle.rows.specs.Rows.{Row, row, rows, AllDue}
use Rattle.system.specs.declared.RunState.{RunState}
use Rattle.system.specs.declared.RunState.TheVariants.{Runnable, Running, Blocked}
use Rattle.system.specs.declared.VirtualCpu.{VirtualCpu}
use Rattle.system.specs.declared.Occupant.TheVariants.{Vcpu}
use Rattle.system.specs.declared.System.{System}
use Rattle.system.specs.Shape.{fresh}
use Rattle.system.specs.Reads.{vcpu_at, occupant_at}
use Rattle.system.specs.Writes.{put_vcpu, put_occupant}
use Rattle.policy.specs.declared.Scheduler.{Scheduler}
use Rattle.policy.specs.Accounts.{account_at, account_of, put_account, fresh_policy, set_weight}
use Rattle.text.specs.Ascii.{ascii}
use Rattle.text.specs.Lines.{digits, decimal, field, fields, numbers_line, pcpu_line}
use Rattle.host_text.specs.HostText.{vcpu_rows, pcpu_rows, host_text}
use Rattle.host_text.specs.Rooms.{vcpus_room, pcpus_room, host_room}

abbrev vcpu : RunState → ℕ → ℕ → ℕ → ℕ → VirtualCpu
vcpu state runtime since mask last =
    record { state = state; runtime = runtime; dispatched_at = since; affinity = mask; last = last }

-- 0/0 is Offline; 0/1 waits, with mask 2; 1/0 runs on pCPU 1 since 100; 1/1 ran from 3 to 8 and is blocked
abbrev four : System
four =
    put_occupant
    (put_vcpu (put_vcpu (put_vcpu (fresh 2 2 2) 1 (vcpu Runnable 0 0 2 64)) 8 (vcpu (Running 1) 0 100 3 1)) 9 (vcpu Blocked 5 3 3 0))
    1
    (Vcpu 1 0)

-- 0/1 has weight 7
abbrev weights : Scheduler
weights = set_weight (fresh_policy 2 2 10) 0 1 7

abbrev pub table : List Row
table =
    rows (host_text four weights)
    (ascii " 0 0 0 64 0 0 3 256 64\n 0 1 1 64 0 0 2 7 64\n 1 0 2 1 100 0 3 256 1\n 1 1 3 64 0 5 3 256 0\n p 1 1 0\n")
    ∷ rows (host_text (fresh 0 0 0) (fresh_policy 0 0 10)) []
    -- the rooms
    ∷ row vcpus_room 24320
    ∷ row pcpus_room 4224
    ∷ row host_room 28544
    ∷ []

pub table-due : AllDue table
unfolding fresh vcpu_at occupant_at put_vcpu put_occupant account_at account_of put_account fresh_policy set_weight ascii digits decimal field fields
    numbers_line pcpu_line vcpu_rows pcpu_rows host_text
table-due = refl
