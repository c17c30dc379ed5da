-- A table of rows: each has numbers that the definitions give, and the numbers that are due, worked out by hand from the requirements. A
-- table is proved whole, by computing. Whoever changes a definition and its code alike, in the same wrong way, is refused by a row.
use Rattle.std.specs.Prelude.{ℕ, Bool, cond, ◌≡◌, List, [], ◌∷◌, map}

pub record Row : Type 0 where
  pub given : List ℕ
  pub due : List ℕ

-- one number
abbrev pub row : ℕ → ℕ → Row
row given due = record { given = given ∷ []; due = due ∷ [] }

-- several
abbrev pub rows : List ℕ → List ℕ → Row
rows given due = record { given = given; due = due }

-- a test as a number
abbrev pub test : Bool → ℕ
test b = cond b 1 0

-- every row gives what is due
abbrev pub AllDue : List Row → Type 0
AllDue table = map (λ (r : Row). r.given) table ≡ map (λ (r : Row). r.due) table
