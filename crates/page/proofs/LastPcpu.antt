-- The pCPU that a vCPU was last dispatched onto, by the moves and the book: the page's is that of demand 3. Assumes nothing.
use Prim.Native.Nat.{ℕ, ◌+◌, ◌*◌, ◌/◌, ◌%◌, ◌<◌}
use mathlib.Core.Bool.{Bool, true, false, cond}
use mathlib.Core.List.{List, [], ◌∷◌, map}
use mathlib.Core.Path.{◌≡◌, refl, sym, ◌∙◌, ap, ap₂}
use native.Mathlib.Omega.{arith}
use lib.Dec.{eqb}
use Rattle.system.specs.declared.RunState.{RunState}
use Rattle.system.specs.declared.RunState.TheVariants.{Offline, Runnable, Running, Blocked}
use Rattle.system.specs.Slots.{slot_of}
use Rattle.host.specs.declared.Host.{Host}
use Rattle.calls.specs.declared.Call.{Call}
use Rattle.host.specs.Step as host
use Rattle.demand3.specs.Dated.{Direction, onto, off, Dated}
use Rattle.demand3.specs.Book.{Book, Entry}
use Rattle.demand3.specs.ServiceMachine.{service_machine}
use Rattle.demand3.specs.Lists as lists
use Rattle.demand3.specs.LastPcpu as last
use Rattle.demand3.specs.LastPcpu.{arrived, latest_onto, last_by}
use Rattle.page.specs.Book as book
use Rattle.page.specs.Steps as steps
use Rattle.page.specs.Lists.{Sized}
use Rattle.page.specs.DatedMoves as page
use Rattle.page.proofs.Steps.{step_is}
use Rattle.page.proofs.ByIds.{shape, booked, moved, dated, same-slot, line-is}
use Rattle.page.proofs.Entries.{entry-is}

module _ (d v : ℕ) (small : v < 8) where
  arrives-is : (l : ℕ) (w : Direction) (i p now : ℕ)
      → cond (eqb (d * 8 + v) i) (arrived w p l) l ≡ page.arrives d v l (moved w i p now)
  arrives-is l onto i p now =
      ap (λ (t : Bool). cond t p l) (ap (eqb (d * 8 + v)) (sym (slot_of i)) ∙ same-slot d v (i / 8) (i % 8) small (omega arith))
  arrives-is l off i p now = go (eqb (d * 8 + v) i)
    where
      go : (t : Bool) → cond t l l ≡ l
      go true = refl
      go false = refl

  latest-onto-is : (l : ℕ) (ms : List Dated) → latest_onto (d * 8 + v) l ms ≡ page.arrives_all d v l (map dated ms)
  unfolding latest_onto page.arrives_all
  latest-onto-is l [] = refl
  latest-onto-is l (m ∷ ms) =
      latest-onto-is (latest_onto (d * 8 + v) l (m ∷ [])) ms
      ∙ ap (λ (n : ℕ). page.arrives_all d v n (map dated ms)) (arrives-is l m.direction m.slot m.pcpu m.clock)

  unless_is : (st : RunState) (l : ℕ) → last.unless_offline st l ≡ page.unless_offline st l
  unless_is Offline l = refl
  unless_is Runnable l = refl
  unless_is (Running p) l = refl
  unless_is Blocked l = refl

  module _ (k : book.Shape) (sized : Sized k) where
    -- after one entry
    by-is : (e : Entry) (l : ℕ)
        → last_by e (d * 8 + v) l
        ≡ page.unless_offline (booked k e.book d v).state (page.arrives_all d v l (map dated e.moves))
    by-is e l =
        unless_is (e.book (d * 8 + v)).state _
        ∙ ap₂ page.unless_offline (ap (λ (x : book.Line). x.state) (sym (line-is k e.book d v small)))
        (latest-onto-is l e.moves)

    pub last-from-is : (cs : List Call) (h : Host) (b : Book) (l : ℕ)
        → last.last_after service_machine (shape k) h b (d * 8 + v) l cs ≡ page.last_from k h (booked k b) d v l cs
    unfolding last.last_after page.last_from
    last-from-is [] h b l = refl
    last-from-is (c ∷ cs) h b l =
        let e = lists.entry_of service_machine (shape k) h b c in
        last-from-is cs (host.step h c).host e.book (last_by e (d * 8 + v) l)
        ∙ (ap (λ (n : ℕ). page.last_from k (host.step h c).host (booked k e.book) d v n cs) (by-is e l)
        ∙ ap₂ (λ (r : steps.Step) (x : book.Entry).
        page.last_from k r.host x.book d v (page.unless_offline (x.book d v).state (page.arrives_all d v l x.moves)) cs)
        (step_is h c) (sym (entry-is k sized h b c)))
