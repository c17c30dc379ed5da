-- `text::number_in`: what is said so far, with the bytes that are left, makes the number. Assumes nothing.
use Rattle.std.proofs.Common.{◌≡◌, ◌^◌, ◌<◌, drop}
use Rattle.text.specs.Numerals.{number_in}
use Rattle.text.proofs.WordsSaid.{from}
use Rattle.text.proofs.number_in.Given as goal

abbrev pub invariant-loop-b : goal.invariant-loop-b
invariant-loop-b l = record { small : l.n < 2 ^ 64; left : number_in l.word ≡ from l.n (drop l.b-index l.word) }
