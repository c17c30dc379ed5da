-- What is said of a word that was read into a room.
use Rattle.std.specs.Prelude.{ℕ, ◌≤◌, ◌≡◌, List, length, take, Option}
use Rattle.text.specs.Numerals.{number_in}

-- n is what the first bytes of the room say, if they are a number
abbrev pub SaidIn : List ℕ → Option ℕ → Type 0
SaidIn room n = (k : ℕ) × ((k ≤ length room) × (n ≡ number_in (take k room)))
