-- `test_vectors::bits_of_pcpus`: each turn expects the bit of its pCPU. Assumes nothing.
use Rattle.std.proofs.Common.{◌∙◌, sym, add-one, eq-eqb}
use Rattle.test_vectors.proofs.Bits.{doubles}
use Rattle.test_vectors.proofs.bits_of_pcpus.Goals as goal

pub expect-requires : goal.expect-requires
expect-requires c = eq-eqb _ _ (c.pcpu_bit.ensures ∙ sym c.loop-pcpu.invariant)

pub loop-pcpu-preserved : goal.loop-pcpu-preserved
loop-pcpu-preserved c = rw (c.loop-pcpu.invariant, add-one) (doubles c.loop-pcpu.pcpu)
