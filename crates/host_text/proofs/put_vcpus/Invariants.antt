-- `host_text::put_vcpus`: the lines of the first slots are put. Assumes nothing.
use Rattle.text.specs.Places.{Placed}
use Rattle.host_text.specs.HostText.{vcpu_rows}
use Rattle.host_text.proofs.put_vcpus.Given as goal

abbrev pub invariant-loop-i : goal.invariant-loop-i
invariant-loop-i l = Placed l.fn.out l.at (vcpu_rows l.s l.p l.i) l.out l.past
