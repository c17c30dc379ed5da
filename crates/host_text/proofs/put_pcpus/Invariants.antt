-- `host_text::put_pcpus`: the lines of the first pCPUs are put. Assumes nothing.
use Rattle.text.specs.Places.{Placed}
use Rattle.host_text.specs.HostText.{pcpu_rows}
use Rattle.host_text.proofs.put_pcpus.Given as goal

abbrev pub invariant-loop-p : goal.invariant-loop-p
invariant-loop-p l = Placed l.fn.out l.at (pcpu_rows l.s l.p) l.out l.past
