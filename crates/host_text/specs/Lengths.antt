-- How long a host's text can be. Assumes nothing.
use Rattle.std.specs.Prelude.{ℕ, zero, suc, ◌*◌, ◌/◌, ◌%◌, ◌≤◌, Bool, true, false, cond, [], ltb, length}
use Rattle.std.proofs.Common.{arith, length-append}
use Rattle.system.specs.declared.VirtualCpu.{VirtualCpu}
use Rattle.system.specs.declared.Occupant.{Occupant}
use Rattle.system.specs.declared.Occupant.TheVariants.{Idle, Vcpu}
use Rattle.system.specs.declared.System.{System}
use Rattle.system.specs.Reads.{vcpu_at, occupant_at}
use Rattle.system.specs.Slots.{domains, vcpus, pcpus}
use Rattle.policy.specs.declared.Scheduler.{Scheduler}
use Rattle.policy.specs.Accounts.{weight_of}
use Rattle.text.specs.Lines.{numbers_line}
use Rattle.text.specs.Lengths.{numbers-line-short, pcpu-line-short}
use Rattle.host_text.specs.HostText.{vcpu_numbers, slot_row, vcpu_row, vcpu_rows, pcpu_row, pcpu_rows, host_text}
use Rattle.host_text.specs.Rooms.{vcpu_room, pcpu_room, host_room}

slot-row-short : (k i : ℕ) (v : VirtualCpu) (w : ℕ) → length (slot_row k i v w) ≤ vcpu_room
slot-row-short k i v w = go (ltb (i % 8) k)
  where
    go : (b : Bool) → length (cond b (numbers_line (vcpu_numbers (i / 8) (i % 8) v w)) []) ≤ vcpu_room
    go true = numbers-line-short (vcpu_numbers (i / 8) (i % 8) v w)
    go false = omega arith

pcpu-row-short : (p : ℕ) (o : Occupant) → length (pcpu_row p o) ≤ pcpu_room
pcpu-row-short p Idle = omega arith
pcpu-row-short p (Vcpu d v) = pcpu-line-short p d v

pub vcpu-rows-short : (s : System) (π : Scheduler) (n : ℕ) → length (vcpu_rows s π n) ≤ n * vcpu_room
unfolding vcpu_rows
vcpu-rows-short s π zero = omega arith
vcpu-rows-short s π (suc i) =
    let row = slot-row-short (vcpus s) i (vcpu_at s i) (weight_of π (i / 8) (i % 8)) in
    omega (arith, length-append (vcpu_rows s π i) (vcpu_row s π i), row, vcpu-rows-short s π i)

pub pcpu-rows-short : (s : System) (n : ℕ) → length (pcpu_rows s n) ≤ n * pcpu_room
unfolding pcpu_rows
pcpu-rows-short s zero = omega arith
pcpu-rows-short s (suc p) =
    let row = pcpu-row-short p (occupant_at s p) in
    omega (arith, length-append (pcpu_rows s p) (pcpu_row p (occupant_at s p)), row, pcpu-rows-short s p)

pub host-text-short : (s : System) (π : Scheduler) → length (host_text s π) ≤ host_room
unfolding host_text
host-text-short s π =
    let both = length-append (vcpu_rows s π (domains s * 8)) (pcpu_rows s (pcpus s)) in
    omega (arith, both, vcpu-rows-short s π (domains s * 8), pcpu-rows-short s (pcpus s))
