-- The table that a decision and settling go by, as the code has it: a row for each slot.
use Rattle.std.specs.Prelude.{ℕ, Bool, true, false, List, [], get_or}
use Rattle.masks.specs.Masks.{permits}
use Rattle.service.specs.Service.{value, more_deserving}
use Rattle.moves.specs.declared.Standing.{Standing}
use Rattle.moves.specs.declared.Standing.TheVariants.{Rests, Waits, Expired}
use Rattle.moves.specs.declared.Row.{Row}
use Rattle.moves.specs.Decide.{Standings}

-- a slot that waits
abbrev pub is_waiting : Standing → Bool
is_waiting Rests = false
is_waiting Waits = true
is_waiting (Expired p) = false

-- one that runs, and may be preempted
abbrev pub is_expired : Standing → Bool
is_expired Rests = false
is_expired Waits = false
is_expired (Expired p) = true

-- the pCPU that it runs on
abbrev pub expired_on : Standing → ℕ
expired_on Rests = 0
expired_on Waits = 0
expired_on (Expired p) = p

-- what is read past the table: no array that it has is read
abbrev pub no_row : Row
no_row = record { standing = Rests; mask = 0; service = []; weight = 0; last = 0; leaving = [] }

abbrev pub row_at : List Row → ℕ → Row
row_at t i = get_or t i no_row

-- what a decision goes by, of a table and the set of idle pCPUs
unfoldable pub tabled : List Row → ℕ → Standings
tabled t idle =
    record {
      waits = λ i. is_waiting (row_at t i).standing;
      expired = λ i. is_expired (row_at t i).standing;
      on = λ i. expired_on (row_at t i).standing;
      mask = λ i. (row_at t i).mask;
      last = λ i. (row_at t i).last;
      beats =
          λ i j. more_deserving (value (row_at t i).service) (row_at t i).weight (value (row_at t j).service) (row_at t j).weight;
      idle = permits idle;
    }
