-- The definitions by which a step of a host computes, said once: to unfold `computing` is to unfold each of them.
use Rattle.advance.specs.Computing as below
use Rattle.host.specs.Step.{step, host_after}

unfoldable pub computing : Type 0
unfolding below.computing step host_after
computing = Unit {0}
