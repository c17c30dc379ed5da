-- Where clocks do not run back no run time is cut: one theorem over every such list of calls. Assumes nothing.
use Prim.Native.Nat.{ℕ, ◌≤◌}
use mathlib.Core.Path.{◌≡◌, sym, ◌∙◌, subst}
use mathlib.Core.List.{List}
use native.Mathlib.Omega.{arith}
use native.Mathlib.Decide.{ℕ_discrete}
use Rattle.scans.specs.Booleans.{zero_one}
use Rattle.system.specs.declared.RunState.TheVariants.{Running}
use Rattle.calls.specs.declared.Call.{Call}
use Rattle.demand3.specs.Machine.{Machine}
use Rattle.demand3.specs.Lawful.{Lawful}
use Rattle.sched.proofs.Laws.{off_nr}
use Rattle.demand3.specs.Dated.{Dated}
use Rattle.demand3.specs.Book.{Line, Book, Shape, Entry, blank_book, noted}
use Rattle.demand3.specs.Agreement.{PresentIn}
use Rattle.demand3.specs.Lists.{book_after, Clock, at, Forward}
use Rattle.demand3.specs.Lists as lists
use Rattle.demand3.specs.Fresh.{first_host}
use Rattle.demand3.specs.Uncut.{Early, EveryForwardUncut, EveryForwardList}
use Rattle.demand3.proofs.EveryCall.{Kept, step-goes}
use Rattle.demand3.proofs.ServiceMachine.{service_lawful}
use Rattle.demand3.proofs.FreshHost.{fresh_in_step}
use Rattle.demand3.proofs.Notes.{noted_here, noted-there}
use Rattle.demand3.proofs.Made.{Made, done, writes, goes_on, goes_off}
use Rattle.demand3.proofs.Entering.{call_enters}

early-later : {k : Shape} {b : Book} {c n : ℕ} → c ≤ n → Early k b c → Early k b n
early-later l E =
    record {
      running = λ i p x e. let f = E.running i p x e in (f.0, omega (arith, f.1));
      times = λ i x. omega (arith, E.times i x);
    }

-- a line that is early
pub record EarlyLine (l : Line) (n : ℕ) : Type 0 where
  pub running : (p : ℕ) → l.state ≡ Running p → (l.time ≤ l.clock) × (l.clock ≤ n)
  pub times : l.time ≤ n

early-noted : {k : Shape} {b : Book} {n : ℕ} {l : Line} (i : ℕ) → Early k b n → EarlyLine l n
    → Early k (noted b i l) n
early-noted {k} {b} {n} {l} i E y =
    record { running = λ j p x e. (line j x (ℕ_discrete j i)).running p e; times = λ j x. (line j x (ℕ_discrete j i)).times }
  where
    line : (j : ℕ) → PresentIn k j → Dec (j ≡ i) → EarlyLine (noted b i l j) n
    line j x (yes e) = rw (e, noted_here b i l) y
    line j x (no m) = rw (noted-there b i l j m) (record { running = λ p e. E.running j p x e; times = E.times j x })

-- what is made at clock n or at none
made-early : {k : Shape} {t : Clock} {b b' : Book} {ms : List Dated} (n : ℕ) → ((m : ℕ) → t ≡ at m → m ≡ n)
    → Made k t b ms b' → Early k b n → Early k b' n
made-early n h done E = E
made-early n h (writes {i = i} x y m) E =
    made-early n h m
    (early-noted i E
    (record {
      running = λ p e. let f = E.running i p x (y.was p e) in (omega (arith, f.0, y.time, y.clock), omega (arith, f.1, y.clock));
      times = omega (arith, E.times i x, y.time);
    }))
made-early n h (goes_on {i = i} {now = now} e x w v y m) E =
    let g = h now e in
    let f = E.times i x in
    made-early n h m (early-noted i E (record { running = λ p z. (omega (arith, y.time, y.clock), omega (arith, y.clock)); times = omega (arith, y.time) }))
made-early n h (goes_off {i = i} {p = p} {now = now} e x y m) E =
    let g = h now e in
    let f = E.running i p x y.on in
    made-early n h m (early-noted i E (record { running = λ q z. absurd (y.rests q z); times = omega (arith, y.time, f.0, f.1) }))

module _ {M : Machine} (L : Lawful M) where
  forward-early : {k : Shape} {b : Book} {h : M.Host} {c c' : ℕ} {cs : List Call} → Forward M h c cs c'
      → Kept M k b h → Early k b c → Early k (book_after M k h b cs) c'
  unfolding book_after
  forward-early lists.Forward.done K E = E
  forward-early {k = k} {b = b} (lists.Forward.timed {h = h} {n = n} {x = x} e f l r) K E =
      forward-early {b = (lists.entry_of M k h b x).book} r (step-goes L x K).kept (made-early n (λ m g. cc) (call_enters L x K).made (early-later l E))
  forward-early {k = k} {b = b} {c = c} (lists.Forward.untimed {h = h} {x = x} f r) K E =
      forward-early {b = (lists.entry_of M k h b x).book} r (step-goes L x K).kept (made-early c (λ m g. absurd (zero_one cc)) (call_enters L x K).made E)
  forward-early {k} {b} {c = c} (lists.Forward.refused {h = h} {x = x} f r) K E =
      let g = step-goes L x K in
      let e = (call_enters L x K).spared (λ z. f (g.number ∙ z)) in
      forward-early {b = (lists.entry_of M k h b x).book} r g.kept (subst (λ (y : Entry). Early k y.book c) (sym e) E)

  pub machine_uncut : EveryForwardUncut M
  machine_uncut k b h c T E cs c' r =
      record {
        early = early;
        exact = λ i p now st x on l m. let f = early.running i p x on in omega (arith, f.0, f.1);
      }
    where
      early : Early k (book_after M k h b cs) c'
      early = forward-early r (record { in_step = T }) E

pub uncut : EveryForwardList
uncut f cs c r =
    machine_uncut service_lawful f.shape (blank_book f.shape) (first_host f) 0 (fresh_in_step f)
    (record { running = λ i p x y. absurd (off_nr p y); times = λ i x. omega arith }) cs c r
