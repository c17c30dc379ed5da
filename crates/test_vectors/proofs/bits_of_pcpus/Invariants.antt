-- `test_vectors::bits_of_pcpus`: at each turn `want` is the bit of the pCPU. Assumes nothing.
use Rattle.std.proofs.Common.{◌≡◌}
use Rattle.masks.specs.Masks.{pcpu_bit}
use Rattle.test_vectors.proofs.bits_of_pcpus.Given as goal

abbrev pub invariant-loop-pcpu : goal.invariant-loop-pcpu
invariant-loop-pcpu l = l.want ≡ pcpu_bit l.pcpu
