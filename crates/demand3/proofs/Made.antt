-- A book is made from another line by line: lines written in place, and moves. Assumes nothing.
use Prim.Native.Nat.{ℕ, ◌+◌, ◌-◌, ◌^◌, ◌<◌, min}
use mathlib.Core.Path.{◌≡◌}
use mathlib.Core.List.{List, [], ◌∷◌, ◌++◌}
use Rattle.system.specs.declared.RunState.TheVariants.{Runnable, Running}
use Rattle.sched.proofs.Laws.{NotRunning}
use Rattle.demand3.specs.Dated.{onto, off, Dated, dated}
use Rattle.demand3.specs.Book.{Line, Book, Shape, noted}
use Rattle.demand3.specs.Agreement.{PresentIn}
use Rattle.demand3.specs.Lists.{Clock, at}
use Rattle.demand3.specs.Holding.{AllAt, AllWithin}

-- a line made anew that runs where the old one did, since the same clock
pub record InPlace (old new : Line) : Type 0 where
  pub time : new.time ≡ old.time
  pub clock : new.clock ≡ old.clock
  pub was : (p : ℕ) → new.state ≡ Running p → old.state ≡ Running p
  pub still : (p : ℕ) → old.state ≡ Running p → new.state ≡ Running p

-- the line of one that went onto pCPU p
pub record GoesOn (old new : Line) (p now : ℕ) : Type 0 where
  pub ready : old.state ≡ Runnable
  pub on : new.state ≡ Running p
  pub clock : new.clock ≡ now
  pub time : new.time ≡ old.time

-- the line of one that came off pCPU p
pub record ComesOff (old new : Line) (p now : ℕ) : Type 0 where
  pub on : old.state ≡ Running p
  pub rests : NotRunning new.state
  pub time : new.time ≡ min (old.time + (now - old.clock)) (2 ^ 64 - 1)

-- nobody is Running on pCPU p
abbrev pub Vacant : Shape → Book → ℕ → Type 0
Vacant k b p = (i : ℕ) → PresentIn k i → (b i).state ≡ Running p → ⊥

-- from a book to another, with the moves made on the way, all at the clock t
pub data Made (k : Shape) (t : Clock) : Book → List Dated → Book → Type 0 where
  done : {b : Book} → Made k t b [] b
  writes : {b b' : Book} {i : ℕ} {l : Line} {ms : List Dated} → PresentIn k i → InPlace (b i) l
      → Made k t (noted b i l) ms b' → Made k t b ms b'
  goes_on : {b b' : Book} {i p now : ℕ} {l : Line} {ms : List Dated} → t ≡ at now → PresentIn k i → p < k.pcpus
      → Vacant k b p → GoesOn (b i) l p now → Made k t (noted b i l) ms b' → Made k t b (dated onto i p now ∷ ms) b'
  goes_off : {b b' : Book} {i p now : ℕ} {l : Line} {ms : List Dated} → t ≡ at now → PresentIn k i
      → ComesOff (b i) l p now → Made k t (noted b i l) ms b' → Made k t b (dated off i p now ∷ ms) b'

pub made_then : {k : Shape} {t : Clock} {b c d : Book} {ms ns : List Dated} → Made k t b ms c → Made k t c ns d
    → Made k t b (ms ++ ns) d
made_then done r = r
made_then (writes x y m) r = writes x y (made_then m r)
made_then (goes_on e x w v y m) r = goes_on e x w v y (made_then m r)
made_then (goes_off e x y m) r = goes_off e x y (made_then m r)

-- every move has the clock at which the book is made
pub made-clocks : {k : Shape} {t : Clock} {b b' : Book} {ms : List Dated} → Made k t b ms b' → AllAt t ms
made-clocks done = tt
made-clocks (writes x y m) = made-clocks m
made-clocks (goes_on e x w v y m) = (e, made-clocks m)
made-clocks (goes_off e x y m) = (e, made-clocks m)

-- and nobody goes onto a pCPU that is not of the shape
pub made-within : {k : Shape} {t : Clock} {b b' : Book} {ms : List Dated} → Made k t b ms b' → AllWithin k.pcpus ms
made-within done = tt
made-within (writes x y m) = made-within m
made-within (goes_on e x w v y m) = (w, made-within m)
made-within (goes_off e x y m) = (tt, made-within m)

pub within-then : (n : ℕ) (xs ys : List Dated) → AllWithin n xs → AllWithin n ys → AllWithin n (xs ++ ys)
within-then n [] ys f g = g
within-then n (x ∷ xs) ys f g = (f.0, within-then n xs ys f.1 g)
