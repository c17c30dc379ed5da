-- `test_reads::host_numbers` meets its contract. Assumes nothing.
use Rattle.std.proofs.Common.{arith}
use Rattle.test_reads.specs.Reads.{host_numbers}
use Rattle.test_reads.proofs.Parts.{last_three}
use Rattle.test_reads.proofs.host_numbers.Goals as goal

pub returns : goal.returns
unfolding host_numbers
returns c =
    let holder = last_three c.holder_numbers.result (omega arith) in
    rw (holder, c.holder_numbers.ensures, c.occupant.ensures)
    (rw (c.domain_count.ensures, c.pcpu_count.ensures, c.busy_pcpus.ensures, c.quantum.ensures, c.invariants_hold.ensures))
