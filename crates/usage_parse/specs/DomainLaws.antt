-- What is told and given by the count that a reader keeps beside a file is what is told and given of the file, of any bytes and
-- any domain. Each statement is proved in proofs/, under the name that stands before it.
use Rattle.std.specs.Prelude.{List, ◌≡◌, ℕ, unwrap_or}
use Rattle.std.specs.Borrow.{Bor}
use Rattle.usage_layout.specs.Reading.{refused_count, count_of}
use Rattle.usage_parse.specs.Domains.{count_in, answer_of, stretch_of, place_of, answer_at, stretch_at, place_at}

-- `answer-of`
abbrev pub ToldByTheCount : Type 0
ToldByTheCount = (s : List ℕ) (d : ℕ) → answer_at (count_in s) d ≡ answer_of s d

-- `stretch-of`
abbrev pub GivenByTheCount : Type 0
GivenByTheCount = (s : List ℕ) (d : ℕ) → stretch_at s (count_in s) d ≡ stretch_of s d

-- `place-of`: in memory, that stretch of the slice itself
abbrev pub PlacedByTheCount : Type 0
PlacedByTheCount = (s : Bor (List ℕ)) (d : ℕ) → place_at s (count_in s.now) d ≡ place_of s d

-- `count-of`: the number that stands for the count
abbrev pub CountedAsANumber : Type 0
CountedAsANumber = (s : List ℕ) → unwrap_or (count_in s) refused_count ≡ count_of s
