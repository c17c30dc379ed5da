-- What the records of two scripts come to. Assumes nothing.
use Rattle.std.specs.Prelude.{ℕ, true, ◌≡◌, refl, List, [], ◌∷◌, ◌++◌, take}
use Rattle.calls.specs.declared.Call.{Call}
use Rattle.calls.specs.Asked as call
use Rattle.records.specs.declared.Shape.{Shape}
use Rattle.records.specs.Bytes.{bytes_of}
use Rattle.script.specs.Computing.{replaying}
use Rattle.script.specs.Example.{example}
use Rattle.played.specs.Played.{Played, played}

-- 1 domain of 2 vCPUs on 1 pCPU, slice 10
abbrev shape : Shape
shape = record { num_domains = 1; vcpus_per_domain = 2; num_pcpus = 1; quantum = 10 }

abbrev since : List Call → Played
since cs = record { built = true; shape = shape; calls = cs }

-- the script that the requirements show: its build, and six calls, of which the last is refused
pub example-played : played example 7
    ≡ since (call.admit 0 0 ∷ call.admit 0 1 ∷ Call.Advance 100 ∷ Call.Advance 105 ∷ Call.Advance 110 ∷ call.run 0 0 0 110 ∷ [])
unfolding replaying played
example-played = refl

-- an admit before any build; a build and an advance; another build, an admit, an admit that is refused; then what is skipped: a kind
-- above 10, a build above the sizes, a record cut off
abbrev pub mixed : List ℕ
mixed =
    bytes_of 1 0 0 0 0
    ++ (bytes_of 0 2 2 2 20
    ++ (bytes_of 9 0 0 0 5
    ++ (bytes_of 0 1 2 1 10
    ++ (bytes_of 1 0 0 0 0
    ++ (bytes_of 1 0 0 0 0 ++ (bytes_of 11 0 0 0 0 ++ (bytes_of 0 17 2 1 10 ++ take 19 (bytes_of 9 0 0 0 7))))))))

pub mixed-played : played mixed 9 ≡ since (call.admit 0 0 ∷ call.admit 0 0 ∷ [])
unfolding replaying played
mixed-played = refl
