-- `text::put_fields`: the numbers that were passed are put. Assumes nothing.
use Rattle.std.proofs.Common.{◌+◌, ◌*◌, ◌≤◌, take}
use Rattle.text.specs.Lines.{fields}
use Rattle.text.specs.Places.{Placed}
use Rattle.text.proofs.put_fields.Given as goal

abbrev pub invariant-loop-n : goal.invariant-loop-n
invariant-loop-n l =
    record { placed : Placed l.fn.out l.at (fields (take l.n-index l.n-items)) l.out l.past; short : l.past ≤ l.at + l.n-index * 21 }
