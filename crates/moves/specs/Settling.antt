-- Settling over a table: what is decided is written down and done to the table, until nothing is decided. And the log.
use Rattle.std.specs.Prelude.{ℕ, zero, suc, ◌+◌, ◌-◌, ◌%◌, ◌<◌, cond, List, [], ◌∷◌, map, take}
use Rattle.masks.specs.Masks.{permits, pcpu_bit}
use Rattle.moves.specs.declared.Choice.{Choice}
use Rattle.moves.specs.declared.Choice.TheVariants.{Run, Preempt, Rest}
use Rattle.moves.specs.declared.Move.{Move}
use Rattle.moves.specs.declared.Move.TheVariants.{Onto, Off}
use Rattle.moves.specs.declared.Row.{Row}
use Rattle.moves.specs.Decide.{decide}
use Rattle.moves.specs.Table.{tabled}
use Rattle.moves.specs.TableWrites.{dispatched_in, left_in}

-- the set with pCPU p; one that has it stays as it is
abbrev pub with_pcpu : ℕ → ℕ → ℕ
with_pcpu idle p = cond (permits idle p) idle (idle + pcpu_bit p)

-- a move, and what comes after it
abbrev pub and_after : (List Row → ℕ → List Choice) → ℕ → List Row → ℕ → Choice → List Choice
and_after rest slice t idle (Run i p) = Run i p ∷ rest (dispatched_in slice t i p) (idle - pcpu_bit p)
and_after rest slice t idle (Preempt i p) = Preempt i (p % 64) ∷ rest (left_in t i) (with_pcpu idle (p % 64))
and_after rest slice t idle Rest = []

-- ---- one move

-- the move that is made of a decision: it names a pCPU of the word
abbrev pub made : Choice → Choice
made (Run i p) = Run i p
made (Preempt i p) = Preempt i (p % 64)
made Rest = Rest

-- what the move leaves of the table
abbrev pub table_after : ℕ → List Row → Choice → List Row
table_after slice t (Run i p) = dispatched_in slice t i p
table_after slice t (Preempt i p) = left_in t i
table_after slice t Rest = t

-- what it leaves of the set of idle pCPUs
abbrev pub idle_after : ℕ → Choice → ℕ
idle_after idle (Run i p) = idle - pcpu_bit p
idle_after idle (Preempt i p) = with_pcpu idle p
idle_after idle Rest = idle

-- ---- settling

-- the moves over the first n slots of the table, at most k
unfoldable pub settled : (slice n k : ℕ) → List Row → ℕ → List Choice
settled slice n zero t idle = []
settled slice n (suc k) t idle = and_after (λ u rest. settled slice n k u rest) slice t idle (decide (tabled t idle) n)

-- ---- move by move

-- a move, and the moves that come after it
abbrev pub with_rest : Choice → List Choice → List Choice
with_rest (Run i p) cs = Run i p ∷ cs
with_rest (Preempt i p) cs = Preempt i p ∷ cs
with_rest Rest cs = []

-- it is of a slot of the table, and onto or off a pCPU of the word
abbrev pub InRange : Choice → Type 0
InRange (Run i p) = (i < 128) × (p < 64)
InRange (Preempt i p) = (i < 128) × (p < 64)
InRange Rest = Unit {0}

-- ---- the log

-- the move that an entry of the log is, by a slot below 128 and a pCPU below 64
abbrev pub choice_of : Move → Choice
choice_of (Onto p i) = Run (i % 128) (p % 64)
choice_of (Off p i) = Preempt (i % 128) (p % 64)

-- the first r
abbrev pub logged_first : List Move → ℕ → List Choice
logged_first log r = map choice_of (take r log)
