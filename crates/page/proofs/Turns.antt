-- Dated moves by ids tell what they tell by slots: who holds a pCPU since when, and the clocks. Assumes nothing.
use Rattle.std.specs.Prelude.{Some}
use Prim.Native.Nat.{ℕ, ◌/◌, ◌%◌}
use mathlib.Core.Bool.{Bool, true, false, cond}
use mathlib.Core.List.{List, [], ◌∷◌, map}
use mathlib.Core.Path.{◌≡◌, refl, sym, ◌∙◌, ap}
use lib.Dec.{eqb}
use Rattle.scans.specs.Scan as scans
use Rattle.scans.specs.Scan.{Pick}
use Rattle.demand3.specs.Dated.{Direction, onto, off, Dated}
use Rattle.demand3.specs.Book.{Book}
use Rattle.demand3.specs.Lists as lists
use Rattle.demand3.specs.Holding as holding
use Rattle.demand3.specs.Holding.{Hold, free, by, hold_by, hold_after, leaves}
use Rattle.page.specs.Book as book
use Rattle.page.specs.DatedMoves as page
use Rattle.page.proofs.Loops.{who}
use Rattle.page.proofs.ByIds.{booked, moved, dated, line_at}
use Rattle.page.proofs.CallLists.{clocked}

abbrev pub held : Hold → page.Hold
held free = page.free
held (by i c) = page.by (i / 8) (i % 8) c

pub held-by-is : (k : book.Shape) (b : Book) (r : Pick) → page.held_by (booked k b) (who r) ≡ held (hold_by b r)
held-by-is k b scans.nobody = refl
held-by-is k b (scans.at i) = ap (λ (l : book.Line). page.by (i / 8) (i % 8) l.clock) (line_at k b i)

-- the parts of a move
pub pcpu-is : (w : Direction) (i p now : ℕ) → page.pcpu_of (moved w i p now) ≡ p
pcpu-is onto i p now = refl
pcpu-is off i p now = refl

date_is : (w : Direction) (i p now : ℕ) → page.date_of (moved w i p now) ≡ now
date_is onto i p now = refl
date_is off i p now = refl

pub held-after-is : (p : ℕ) (h : Hold) (ms : List Dated) → held (hold_after p h ms) ≡ page.held_after p (held h) (map dated ms)
unfolding hold_after page.held_after
held-after-is p h [] = refl
held-after-is p h (m ∷ ms) =
    held-after-is p (hold_after p h (m ∷ [])) ms
    ∙ ap (λ (g : page.Hold). page.held_after p g (map dated ms)) (step m.direction m.slot m.pcpu m.clock)
  where
    turn : (t : Bool) (g : Hold) → held (cond t g h) ≡ cond t (held g) (held h)
    turn true g = refl
    turn false g = refl

    step : (w : Direction) (i q now : ℕ) → held (cond (eqb q p) (leaves w i now) h) ≡ page.moved p (held h) (moved w i q now)
    step onto i q now = turn (eqb q p) (by i now)
    step off i q now = turn (eqb q p) free

pub turns : {p : ℕ} {g h : Hold} {ms : List Dated} → holding.Turns p g ms h → page.Turns p (held g) (map dated ms) (held h)
turns holding.done = page.Turns.done
turns (holding.goes_on r) = page.Turns.goes_on (turns r)
turns (holding.goes_off r) = page.Turns.goes_off (turns r)
turns (holding.elsewhere {m} n r) =
    page.Turns.elsewhere (λ e. n (sym (pcpu-is m.direction m.slot m.pcpu m.clock) ∙ e)) (turns r)

pub all-at : (t : lists.Clock) (ms : List Dated) → holding.AllAt t ms → page.AllAt (clocked t) (map dated ms)
all-at t [] a = a
all-at t (m ∷ ms) a =
    (ap clocked a.0 ∙ ap Some (sym (date_is m.direction m.slot m.pcpu m.clock)), all-at t ms a.1)
