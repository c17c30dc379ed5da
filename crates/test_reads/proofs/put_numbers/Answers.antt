-- `test_reads::put_numbers` meets its contract. Assumes nothing.
use Rattle.std.proofs.Common.{◌+◌, ◌*◌, length, take_all}
use Rattle.text.specs.Lines.{numbers_line}
use Rattle.text.specs.Lengths.{numbers-line-short}
use Rattle.text.specs.Places.{line-placed}
use Rattle.test_reads.proofs.put_numbers.Goals as goal

pub returns : goal.returns
returns c =
    let a = c.args in
    let ns = a.numbers.now in
    let text = rw (take_all 9 ns c.requires.few) at c.numbers_line-line.ensures.text in
    let put = c.append.ensures in
    let room = length ns * 21 + 1 in
    let fits = c.requires.fits in
    let there = line-placed a.out.now (numbers_line ns) a.at room _ text (numbers-line-short ns) fits put.written put.past in
    record { placed = there.0; within = there.1 }
