-- What a note makes of a book: a line written in place, or a move at the note's clock. Assumes nothing.
use Prim.Native.Nat.{ℕ, ◌<◌}
use mathlib.Core.Bool.{Bool, true, false, cond}
use mathlib.Core.Path.{◌≡◌, refl, sym, ◌∙◌}
use borrow.Author.Tests.{ltb-true}
use Rattle.masks.specs.Masks.{permits, full_mask, clipped}
use Rattle.scans.specs.Booleans.{zero_one}
use Rattle.scans.specs.Scan.{Pick, some}
use Rattle.scans.specs.Scan as scans
use Rattle.system.specs.declared.RunState.{RunState}
use Rattle.system.specs.declared.RunState.TheVariants.{Offline, Runnable, Running, Blocked}
use Rattle.calls.specs.declared.Request.{Request}
use Rattle.changes.specs.Changes.{reaches}
use Rattle.sched.proofs.Laws.{NotRunning, off_nr, ready_nr, blocked_nr}
use Rattle.demand3.specs.Dated.{onto}
use Rattle.demand3.specs.Book.{Line, Book, Shape, holder, remasked, opened, Note, refuse, write, move, entered}
use Rattle.demand3.specs.Book.{admit_note, run_note, preempt_note, block_note, wake_note, offline_note, mask_note}
use Rattle.demand3.specs.Book.{note_of}
use Rattle.demand3.specs.Agreement.{PresentIn}
use Rattle.demand3.specs.Lists.{Clock, none, at, request_clock}
use Rattle.demand3.proofs.Holders.{nobody-runs}
use Rattle.demand3.proofs.Made.{InPlace, Vacant, Made, done, writes, goes_on, goes_off}

-- what is made of book b by a note of slot i
abbrev pub Noted : Shape → Clock → Book → ℕ → Note → Type 0
Noted k t b i n = Made k t b (entered b i n).moves (entered b i n).book

-- a line made anew of one that runs neither before nor after
at_rest : {old new : Line} → NotRunning old.state → NotRunning new.state → new.time ≡ old.time
    → new.clock ≡ old.clock → InPlace old new
at_rest x y e f = record { time = e; clock = f; was = λ p z. absurd (y p z); still = λ p z. absurd (x p z) }

new-mask : (l : Line) (m : ℕ) → InPlace l (remasked l m)
new-mask l m = record { time = refl; clock = refl; was = λ p e. e; still = λ p e. e }

in_state : {st st' : RunState} → st ≡ st' → NotRunning st' → NotRunning st
in_state e n p f = n p (sym e ∙ f)

-- a pCPU that is not busy by the book
idle-vacant : (k : Shape) (b : Book) (p : ℕ) → some (holder k b p) ≡ false → Vacant k b p
idle-vacant k b p f i x = go (holder k b p) refl f
  where
    go : (r : Pick) → holder k b p ≡ r → some r ≡ false → (b i).state ≡ Running p → ⊥
    go scans.nobody e f = nobody-runs k b p i e x
    go (scans.at j) e f = absurd (zero_one cc)

module _ {k : Shape} (b : Book) {i : ℕ} (x : PresentIn k i) where
  admit-made : (t : Clock) (st : RunState) → (b i).state ≡ st → Noted k t b i (admit_note (b i) st)
  admit-made t Offline e = writes x (at_rest (in_state e off_nr) ready_nr refl refl) done
  admit-made t Runnable e = done
  admit-made t (Running p) e = done
  admit-made t Blocked e = done

  run-made : (p now : ℕ) → p < k.pcpus → (busy : Bool) → (busy ≡ false → Vacant k b p) → (st : RunState)
      → (b i).state ≡ st → Noted k (at now) b i (run_note (b i) p busy now st)
  run-made p now w busy v Offline e = done
  run-made p now w busy v Runnable e = go (permits (b i).mask p) busy v
    where
      go : (a c : Bool) → (c ≡ false → Vacant k b p)
          → Noted k (at now) b i (cond a (cond c (refuse 5) (move onto p now (opened (b i) p now))) (refuse 6))
      go true true f = done
      go true false f = goes_on refl x w (f refl) (record { ready = e; on = refl; clock = refl; time = refl }) done
      go false c f = done
  run-made p now w busy v (Running q) e = done
  run-made p now w busy v Blocked e = done

  preempt-made : (now : ℕ) (st : RunState) → (b i).state ≡ st → Noted k (at now) b i (preempt_note (b i) now st)
  preempt-made now Offline e = done
  preempt-made now Runnable e = done
  preempt-made now (Running p) e = goes_off refl x (record { on = e; rests = ready_nr; time = refl }) done
  preempt-made now Blocked e = done

  block_made : (now : ℕ) (st : RunState) → (b i).state ≡ st → Noted k (at now) b i (block_note (b i) now st)
  block_made now Offline e = done
  block_made now Runnable e = writes x (at_rest (in_state e ready_nr) blocked_nr refl refl) done
  block_made now (Running p) e = goes_off refl x (record { on = e; rests = blocked_nr; time = refl }) done
  block_made now Blocked e = done

  wake-made : (t : Clock) (st : RunState) → (b i).state ≡ st → Noted k t b i (wake_note (b i) st)
  wake-made t Offline e = done
  wake-made t Runnable e = done
  wake-made t (Running p) e = done
  wake-made t Blocked e = writes x (at_rest (in_state e blocked_nr) ready_nr refl refl) done

  offline-made : (full now : ℕ) (st : RunState) → (b i).state ≡ st
      → Noted k (at now) b i (offline_note (b i) full now st)
  offline-made full now Offline e = done
  offline-made full now Runnable e = writes x (at_rest (in_state e ready_nr) off_nr refl refl) done
  offline-made full now (Running p) e = goes_off refl x (record { on = e; rests = off_nr; time = refl }) done
  offline-made full now Blocked e = writes x (at_rest (in_state e blocked_nr) off_nr refl refl) done

  mask-made : (t : Clock) (m : ℕ) (st : RunState) → Noted k t b i (mask_note (b i) m st)
  mask-made t m Offline = writes x (new-mask (b i) m) done
  mask-made t m Runnable = writes x (new-mask (b i) m) done
  mask-made t m (Running p) = go (permits m p)
    where
      go : (a : Bool) → Noted k t b i (cond a (write (remasked (b i) m)) (refuse 6))
      go true = writes x (new-mask (b i) m) done
      go false = done
  mask-made t m Blocked = writes x (new-mask (b i) m) done

  -- what is noted of a request whose pCPU is one of the shape
  pub request_made : (q : Request) → reaches q k.pcpus ≡ true → Noted k (request_clock q) b i (note_of k b i q)
  request_made Request.Admit r = admit-made none (b i).state refl
  request_made (Request.Run p now) r =
      run-made p now (ltb-true p k.pcpus r) (some (holder k b p)) (idle-vacant k b p) (b i).state refl
  request_made (Request.Preempt now) r = preempt-made now (b i).state refl
  request_made (Request.Block now) r = block_made now (b i).state refl
  request_made Request.Wake r = wake-made none (b i).state refl
  request_made (Request.SetAffinity m) r = mask-made none (clipped m k.pcpus) (b i).state
  request_made (Request.Offline now) r = offline-made (full_mask k.pcpus) now (b i).state refl
