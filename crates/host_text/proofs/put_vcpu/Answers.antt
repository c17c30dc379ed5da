-- `host_text::put_vcpu` meets its contract: the numbers that are computed are those of the definition. Assumes nothing.
use Rattle.std.proofs.Common.{◌/◌, ◌%◌, lt-ltb}
use Rattle.text.specs.Lines.{numbers_line}
use Rattle.text.specs.Lengths.{numbers-line-short}
use Rattle.text.specs.Places.{line-placed}
use Rattle.host_text.specs.HostText.{vcpu_numbers}
use Rattle.host_text.specs.Rooms.{vcpu_room}
use Rattle.host_text.proofs.put_vcpu.Goals as goal

pub returns : goal.returns
returns c =
    let a = c.args in
    let put = c.append.ensures in
    let numbers = vcpu_numbers (a.i / 8) (a.i % 8) a.v.now a.weight in
    let text = rw (c.state_number.ensures, c.pcpu_number.ensures, c.clock_number.ensures) at c.numbers_line-line.ensures.text in
    rw (lt-ltb (a.i % 8) a.k c.if-k-i.false)
    (line-placed a.out.now (numbers_line numbers) a.at vcpu_room _ text (numbers-line-short numbers)
    c.requires put.written put.past).0
