-- Along any list of calls a lawful machine stays in step with its book, and tells what the book tells. Assumes
-- nothing.
use Prim.Native.Nat.{ℕ}
use mathlib.Core.Path.{◌≡◌, refl, sym, ◌∙◌, subst}
use mathlib.Core.List.{List, [], ◌∷◌, ◌++◌}
use Rattle.system.specs.declared.RunState.TheVariants.{Runnable, Running}
use Rattle.system.specs.declared.System.{System}
use Rattle.system.specs.Answers.{SystemOutcome}
use Rattle.system.specs.Writes.{SameShape}
use Rattle.system.specs.Slots.{Present}
use Rattle.system.specs.Reads.{state_at}
use Rattle.sched.specs.CanRun.{CanRun}
use Rattle.sched.specs.Invariants.{Keeps}
use Rattle.sched.proofs.Laws.{ready_nr, requested-keeps, offline-all-keeps, unchanged}
use Rattle.moves.specs.declared.Choice.{Choice}
use Rattle.moves.specs.declared.Choice.TheVariants.{Run, Preempt}
use Rattle.rules.specs.Settle.{enacted}
use Rattle.rules.proofs.Laws as enacts
use Rattle.calls.specs.declared.Call.{Call}
use Rattle.demand3.specs.Machine.{Machine}
use Rattle.demand3.specs.Lawful.{Enacts, rests, runs, preempts, Makes, Lawful}
use Rattle.demand3.specs.Book.{Book, Shape, Entry, moved, moved_all, enter}
use Rattle.demand3.specs.Agreement.{Shaped, Lines, InStep}
use Rattle.demand3.specs.Lists.{after_all, entry_of, book_after}
use Rattle.demand3.proofs.Notes.{Alike, on-pcpu, off-pcpu, wrote-lines}
use Rattle.demand3.proofs.InStep.{requested-alike, offline-all-alike}

-- ---- an advance's moves are those of the book

shaped_on : {k : Shape} {s s' : System} → SameShape s s' → Shaped k s → Shaped k s'
shaped_on x y = record { domains = x.domains ∙ y.domains; vcpus = x.vcpus ∙ y.vcpus; pcpus = x.pcpus ∙ y.pcpus }

-- what keeps the system sound and its lines in agreement keeps it in step
pub still_in_step : {k : Shape} {b b' : Book} {s s' : System} → InStep k b s → Keeps s s' → Lines b' s'
    → InStep k b' s'
still_in_step T m L =
    record { tables = m.shape.tables T.tables; sound = m.sound; shaped = shaped_on m.shape T.shaped; lines = L }

module _ {k : Shape} {b : Book} {s : System} (T : InStep k b s) (now i p : ℕ) where
  pub run_in_step : CanRun s i p → InStep k (moved b now (Run i p)).book (enacted s now (Run i p)).system
  run_in_step c =
      still_in_step T (enacts.run-keeps s now i p T.tables T.sound c)
      (wrote-lines T.lines (enacts.run-wrote s now i p T.tables c) (on-pcpu (T.lines.says i c.present) p now))

  pub preempt_in_step : Present s i → state_at s i ≡ Running p
      → InStep k (moved b now (Preempt i p)).book (enacted s now (Preempt i p)).system
  preempt_in_step h on =
      still_in_step T (enacts.preempt-keeps s now i p T.tables T.sound h)
      (wrote-lines T.lines (enacts.preempt-wrote s now i p T.tables T.sound h on)
      (off-pcpu (T.lines.says i h) p now Runnable on ready_nr))

enacts_in_step : {k : Shape} {now : ℕ} {s t : System} {cs : List Choice} {b : Book} → Enacts now s cs t → InStep k b s
    → InStep k (moved_all b now cs).book t
unfolding moved_all
enacts_in_step rests T = T
enacts_in_step {now = now} (runs {i = i} {p = p} c r) T = enacts_in_step r (run_in_step T now i p c)
enacts_in_step {now = now} (preempts {i = i} {p = p} h on r) T = enacts_in_step r (preempt_in_step T now i p h on)

-- nothing that an advance enters is refused
pub moved-done : (b : Book) (now : ℕ) (cs : List Choice) → (moved_all b now cs).number ≡ 0
unfolding moved_all
moved-done b now [] = refl
moved-done b now (c ∷ cs) = refl

-- ---- one call

-- a host in step with its book
pub record Kept (M : Machine) (k : Shape) (b : Book) (h : M.Host) : Type 0 where
  pub in_step : InStep k b (M.system h)

-- what a call keeps, and that it is told what the book tells
pub record Goes (M : Machine) (k : Shape) (h : M.Host) (c : Call) (e : Entry) : Type 0 where
  pub number : M.number h c ≡ e.number
  pub kept : Kept M k e.book (M.after h c)

by_mechanism : {M : Machine} {k : Shape} {b : Book} {h : M.Host} {c : Call} {r : SystemOutcome} {e : Entry}
    → Kept M k b h → Makes M h c r → Keeps (M.system h) r.system → Alike r e → Goes M k h c e
by_mechanism {k = k} {e = e} K m x a =
    record {
      number = m.number ∙ a.number;
      kept = record { in_step = subst (InStep k e.book) (sym m.system) (still_in_step K.in_step x a.lines) };
    }

module _ {M : Machine} (L : Lawful M) where
  pub step-goes : {k : Shape} {b : Book} {h : M.Host} (c : Call) → Kept M k b h → Goes M k h c (entry_of M k h b c)
  unfolding enter
  step-goes {h = h} (Call.Ask d v q) K =
      let T = K.in_step in
      by_mechanism K (L.ask h d v q) (requested-keeps _ T.sound T.tables d v q) (requested-alike T d v q)
  step-goes {h = h} (Call.OfflineAll d now) K =
      let T = K.in_step in
      by_mechanism K (L.offline-all h d now) (offline-all-keeps _ T.sound T.tables d now) (offline-all-alike T d now)
  step-goes {h = h} (Call.SetWeight d v w) K =
      by_mechanism K (L.weight h d v w) (unchanged K.in_step.sound) (record { number = refl; lines = K.in_step.lines })
  step-goes {h = h} (Call.SetWakeBoost on) K =
      by_mechanism K (L.boost h on) (unchanged K.in_step.sound) (record { number = refl; lines = K.in_step.lines })
  step-goes {k} {b} {h} (Call.Advance now) K =
      let A = L.advance h now K.in_step.tables K.in_step.sound in
      record {
        number = A.number ∙ sym (moved-done b now (M.moves h (Call.Advance now)));
        kept = record { in_step = enacts_in_step A.enacts K.in_step };
      }

  -- ---- along a list

  pub after_kept : {k : Shape} (cs : List Call) (h : M.Host) (b : Book) → Kept M k b h
      → Kept M k (book_after M k h b cs) (after_all M h cs)
  unfolding after_all book_after
  after_kept [] h b K = K
  after_kept (c ∷ cs) h b K = after_kept cs _ _ (step-goes c K).kept

pub book-append : (M : Machine) (k : Shape) (xs ys : List Call) (h : M.Host) (b : Book)
    → book_after M k h b (xs ++ ys) ≡ book_after M k (after_all M h xs) (book_after M k h b xs) ys
unfolding after_all book_after
book-append M k [] ys h b = refl
book-append M k (x ∷ xs) ys h b = book-append M k xs ys _ _
