-- `host_text::put_pcpu` meets its contract. Assumes nothing.
use Rattle.text.specs.Lines.{pcpu_line}
use Rattle.text.specs.Lengths.{pcpu-line-short}
use Rattle.text.specs.Places.{line-placed}
use Rattle.host_text.specs.Rooms.{pcpu_room}
use Rattle.host_text.proofs.put_pcpu.Goals as goal

pub returns-in-Vcpu : goal.returns-in-Vcpu
returns-in-Vcpu c =
    let a = c.args in
    let d = c.in-Vcpu.dom in
    let v = c.in-Vcpu.vcpu in
    let put = c.append.ensures in
    rw c.in-Vcpu.is
    (line-placed a.out.now (pcpu_line a.pcpu d v) a.at pcpu_room _ c.pcpu_line-line.ensures.text
    (pcpu-line-short a.pcpu d v) c.requires put.written put.past).0
