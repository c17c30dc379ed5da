-- `test_reads::vcpu_numbers` meets its contract. Assumes nothing.
use Rattle.std.proofs.Common.{arith}
use Rattle.test_reads.specs.Reads.{vcpu_numbers}
use Rattle.test_reads.proofs.Parts.{two, last_two}
use Rattle.test_reads.proofs.vcpu_numbers.Goals as goal

pub returns : goal.returns
unfolding vcpu_numbers
returns c =
    let mask = last_two c.maybe_numbers-3.result (omega arith) in
    let since = two mask c.maybe_numbers-2.result (omega arith) in
    let ran = two since c.maybe_numbers.result (omega arith) in
    rw (ran, c.maybe_numbers.ensures, c.maybe_numbers-2.ensures, c.maybe_numbers-3.ensures)
    (rw (c.maybe_state_number-state.ensures, c.state_of.ensures, c.is_running-running.ensures)
    (rw (c.runtime.ensures, c.on_cpu_since.ensures, c.affinity_of.ensures)))
