-- Who holds a pCPU since when, by the book and by the dated moves: they say the same at every point of every list of
-- calls. It is proved as `machine_tells` of every lawful machine, and as `moves-tell` of every fresh host.
use Rattle.std.specs.Prelude.{ℕ, ◌<◌, cond, ◌≡◌, List, [], ◌∷◌, eqb}
use Rattle.system.specs.declared.Answer.TheVariants.{Done}
use Rattle.system.specs.Answers.{told}
use Rattle.scans.specs.Scan.{Pick}
use Rattle.scans.specs.Scan as scans
use Rattle.calls.specs.declared.Call.{Call}
use Rattle.demand3.specs.Machine.{Machine}
use Rattle.demand3.specs.ServiceMachine.{service_machine}
use Rattle.demand3.specs.Dated.{Direction, onto, off, Dated, dated}
use Rattle.demand3.specs.Book.{Book, Shape, holder, unwritten}
use Rattle.demand3.specs.Agreement.{InStep}
use Rattle.demand3.specs.Lists.{after_all, entry_of, book_after, moves_after, Clock, at, clock_of}
use Rattle.demand3.specs.Fresh.{Fresh, host_at, book_at, moves_at}

-- nobody, or slot i since clock c
pub data Hold : Type 0 where
  free : Hold
  by : ℕ → ℕ → Hold

-- ---- by the book: whoever is Running on it, since the clock of its run

abbrev pub hold_by : Book → Pick → Hold
hold_by b scans.nobody = free
hold_by b (scans.at i) = by i (b i).clock

abbrev pub holding : Shape → Book → ℕ → Hold
holding k b p = hold_by b (holder k b p)

-- ---- by the moves

-- what a move of slot i leaves of its pCPU
abbrev pub leaves : Direction → ℕ → ℕ → Hold
leaves onto i now = by i now
leaves off i now = free

-- what the moves leave of pCPU p, whose hold was h before: the last one on it tells
unfoldable pub hold_after : ℕ → Hold → List Dated → Hold
hold_after p h [] = h
hold_after p h (m ∷ ms) = hold_after p (cond (eqb m.pcpu p) (leaves m.direction m.slot m.clock) h) ms

-- the moves on pCPU p take turns: one goes onto it while it is free, and comes off it before another goes onto it
pub data Turns (p : ℕ) : Hold → List Dated → Hold → Type 0 where
  done : {h : Hold} → Turns p h [] h
  goes_on : {i now : ℕ} {ms : List Dated} {h : Hold} → Turns p (by i now) ms h
      → Turns p free (dated onto i p now ∷ ms) h
  goes_off : {i c now : ℕ} {ms : List Dated} {h : Hold} → Turns p free ms h
      → Turns p (by i c) (dated off i p now ∷ ms) h
  elsewhere : {m : Dated} {ms : List Dated} {g h : Hold} → (m.pcpu ≡ p → ⊥) → Turns p g ms h → Turns p g (m ∷ ms) h

-- ---- at a point: the host, its book, and the dated moves until then

abbrev pub AllAt : Clock → List Dated → Type 0
AllAt t [] = Unit {0}
AllAt t (m ∷ ms) = (t ≡ at m.clock) × AllAt t ms

-- a pCPU that somebody goes onto is one of n
abbrev pub GoesWithin : ℕ → Direction → ℕ → Type 0
GoesWithin n onto p = p < n
GoesWithin n off p = Unit {0}

abbrev pub AllWithin : ℕ → List Dated → Type 0
AllWithin n [] = Unit {0}
AllWithin n (m ∷ ms) = GoesWithin n m.direction m.pcpu × AllWithin n ms

-- from H, which says who held each pCPU at first
pub record MovesTell (M : Machine) (k : Shape) (H : ℕ → Hold) (h : M.Host) (b : Book) (ms : List Dated) : Type 0 where
  -- a pCPU is held by whom the last move on it put there, since that move's clock; by nobody, where it took one off; as at
  -- first, where there is none
  pub last : (p : ℕ) → holding k b p ≡ hold_after p (H p) ms
  -- and no move on it is left out
  pub turns : (p : ℕ) → Turns p (H p) ms (holding k b p)
  -- nobody went onto a pCPU that the host does not have
  pub within : AllWithin k.pcpus ms
  -- the moves of the next call have its clock, so that one without a clock moves nobody
  pub clocks : (c : Call) → AllAt (clock_of c) (entry_of M k h b c).moves
  -- if it is refused, nothing is written and nobody moves
  pub refused : (c : Call) → let e = entry_of M k h b c in (e.number ≡ told Done → ⊥) → e ≡ unwritten e.number b

-- from every host in step with a book
abbrev pub EveryPointTells : Machine → Type 0
EveryPointTells M = (k : Shape) (b : Book) (h : M.Host) → InStep k b (M.system h) → (cs : List Call)
    → MovesTell M k (holding k b) (after_all M h cs) (book_after M k h b cs) (moves_after M k h b cs)

-- from every fresh host, where every pCPU is free at first
abbrev pub EveryFreshTells : Type 0
EveryFreshTells = (f : Fresh) (cs : List Call)
    → MovesTell service_machine f.shape (λ p. free) (host_at f cs) (book_at f cs) (moves_at f cs)
