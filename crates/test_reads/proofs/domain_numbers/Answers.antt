-- `test_reads::domain_numbers` meets its contract. Assumes nothing.
use Rattle.std.proofs.Common.{arith}
use Rattle.test_reads.specs.Reads.{domain_numbers}
use Rattle.test_reads.proofs.Parts.{last_four}
use Rattle.test_reads.proofs.domain_numbers.Goals as goal

pub returns : goal.returns
unfolding domain_numbers
returns c =
    let used = last_four c.usage.result (omega arith) in
    rw (used, c.usage.ensures.held)
    (rw (c.affinity_permits.ensures, c.weight_of.ensures, c.vcpu_count.ensures, c.full_affinity.ensures))
