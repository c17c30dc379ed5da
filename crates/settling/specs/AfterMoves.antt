-- What moves leave of a system, written into it one after another with no test: the record of the slot that moves, and who holds the
-- pCPU. Of moves that may be made it is what the mechanism's calls leave.
use Rattle.std.specs.Prelude.{ℕ, ◌/◌, ◌%◌, List, [], ◌∷◌}
use Rattle.system.specs.declared.RunState.TheVariants.{Runnable}
use Rattle.system.specs.declared.VirtualCpu.{VirtualCpu}
use Rattle.system.specs.declared.Occupant.{Occupant}
use Rattle.system.specs.declared.Occupant.TheVariants.{Idle, Vcpu}
use Rattle.system.specs.declared.System.{System}
use Rattle.system.specs.Reads.{vcpu_at}
use Rattle.system.specs.Writes.{put_vcpu, put_occupant}
use Rattle.changes.specs.Records.{dispatched, left}
use Rattle.moves.specs.declared.Choice.{Choice}
use Rattle.moves.specs.declared.Choice.TheVariants.{Run, Preempt, Rest}
use Rattle.rules.specs.Settle.{slot_in, onto_in}

-- the record of whoever moves, after it
abbrev pub record_after : Choice → VirtualCpu → ℕ → VirtualCpu
record_after (Run i p) v now = dispatched v p now
record_after (Preempt i p) v now = left v Runnable now
record_after Rest v now = v

-- who holds the pCPU after it; of a slot from 128 up the domain is taken modulo 16
abbrev pub occupant_after : Choice → Occupant
occupant_after (Run i p) = Vcpu (i / 8 % 16) (i % 8)
occupant_after (Preempt i p) = Idle
occupant_after Rest = Idle

abbrev pub moved : System → ℕ → Choice → System
moved s now c = put_occupant (put_vcpu s (slot_in c) (record_after c (vcpu_at s (slot_in c)) now)) (onto_in c) (occupant_after c)

unfoldable pub after_moves : System → ℕ → List Choice → System
after_moves s now [] = s
after_moves s now (c ∷ cs) = after_moves (moved s now c) now cs
