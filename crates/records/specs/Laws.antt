-- A record is read from its own 20 bytes, whatever follows them. Assumes nothing.
use Rattle.std.specs.Prelude.{ℕ, ◌≤◌, Bool, ◌≡◌, List, ◌++◌, length}
use Rattle.std.proofs.Common.{ap, arith, length-append, le-ltb}
use Rattle.big_endian.specs.Laws.{number-front}
use Rattle.records.specs.Records.{record_of, planned, plan_of}

record_front : (bs cs : List ℕ) → 20 ≤ length bs → record_of (bs ++ cs) ≡ record_of bs
record_front bs cs l =
    rw (
      number-front bs cs 0 2 (omega arith),
      number-front bs cs 2 2 (omega arith),
      number-front bs cs 4 4 (omega arith),
      number-front bs cs 8 4 (omega arith),
      number-front bs cs 12 8 (omega arith),
    )

pub plan-front : (b : Bool) (bs cs : List ℕ) → 20 ≤ length bs → plan_of b (bs ++ cs) ≡ plan_of b bs
unfolding plan_of
plan-front b bs cs l =
    rw (le-ltb (length (bs ++ cs)) 20 (omega (arith, length-append bs cs)), le-ltb (length bs) 20 l)
    (ap (planned b) (record_front bs cs l))
