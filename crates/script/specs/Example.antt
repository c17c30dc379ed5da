-- The script that the requirements show. Assumes nothing.
use Rattle.std.specs.Prelude.{◌≡◌, ℕ, Bool, List, [], ◌++◌, refl}
use Rattle.records.specs.Bytes.{bytes_of}
use Rattle.script.specs.Computing.{replaying}
use Rattle.script.specs.Script.{begun, text, records_in}

-- a build of 1 domain of 2 vCPUs on 1 pCPU with slice 10; 0/0 and 0/1 are admitted; advances at 100, 105 and 110; 0/0 is run on
-- pCPU 0 at 110
abbrev pub example : List ℕ
example =
    bytes_of 0 1 2 1 10
    ++ (bytes_of 1 0 0 0 0
    ++ (bytes_of 1 0 1 0 0
    ++ (bytes_of 9 0 0 0 100 ++ (bytes_of 9 0 0 0 105 ++ (bytes_of 9 0 0 0 110 ++ bytes_of 2 0 0 0 110)))))

pub example-records : records_in example ≡ 7
unfolding replaying
example-records = refl

-- no bytes are no record, and no record has no text
pub empty-text : (states : Bool) → text states begun [] (records_in []) ≡ []
unfolding replaying
empty-text states = refl
