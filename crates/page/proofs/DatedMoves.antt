-- What the dated moves of every list of calls tell, in the page's words, beside demand 3. Assumes nothing.
use Prim.Native.Nat.{ℕ, ◌+◌, ◌*◌, ◌<◌}
use mathlib.Core.List.{List, map}
use mathlib.Core.Path.{◌≡◌, refl, sym, ◌∙◌, ap, ap₂, subst}
use native.Mathlib.Omega.{arith}
use borrow.Author.Tests.{eq-eqb}
use Rattle.system.specs.declared.RunState.TheVariants.{Running}
use Rattle.system.specs.Reads.{vcpu_at}
use Rattle.host.specs.declared.Host.{Host}
use Rattle.calls.specs.declared.Call.{Call}
use Rattle.demand3.specs.Book as slots
use Rattle.demand3.specs.ServiceMachine.{service_machine}
use Rattle.demand3.specs.Lists as lists
use Rattle.demand3.specs.Holding as holding
use Rattle.demand3.specs.LastPcpu.{LastKept, last_after}
use Rattle.demand3.specs.Uncut as uncuts
use Rattle.demand3.proofs.Laws as laws
use Rattle.page.specs.Book as book
use Rattle.page.specs.Page.{vcpu}
use Rattle.page.specs.Lists.{Fresh, Sized, host}
use Rattle.page.specs.DatedMoves as page
use Rattle.page.specs.DatedMoves.{EveryListTells, MovesTell, Keeps, Uncut, Forward, Turns}
use Rattle.page.proofs.ByIds.{shape, booked, dated, entered, line-is, holder-is, blank-is}
use Rattle.page.proofs.Entries.{entry-is}
use Rattle.page.proofs.CallLists.{same-call}
use Rattle.page.proofs.AtPoints.{whole, fresh, left, kept, made, host-is, host-after-is, book-after-is}
use Rattle.page.proofs.AtPoints.{moves-after-is, present}
use Rattle.page.proofs.Hypotheses.{same-forward}
use Rattle.page.proofs.Turns.{held, held-by-is, held-after-is, turns, all-at}
use Rattle.page.proofs.LastPcpu.{last-from-is}

module _ (f : Fresh) (sized : Sized f.shape) (cs : List Call) where
  abbrev k : book.Shape
  k = f.shape

  abbrev h : Host
  h = left f sized cs

  abbrev b : slots.Book
  b = kept f sized cs

  small : {v : ℕ} → v < k.vcpus → v < 8
  small l = omega (arith, sized.vcpus)

  T : holding.MovesTell service_machine (shape k) (λ p. holding.free) h b (made f sized cs)
  T = laws.moves-tell (whole f sized) cs

  holding-is : (p : ℕ) → page.held_by (booked k b) (book.holder k (booked k b) p) ≡ held (holding.holding (shape k) b p)
  holding-is p = ap (page.held_by (booked k b)) (holder-is k b sized.vcpus p) ∙ held-by-is k b (slots.holder (shape k) b p)

  tell : MovesTell k h (booked k b) (map dated (made f sized cs))
  tell =
      record {
        last = λ p. holding-is p ∙ (ap held (T.last p) ∙ held-after-is p holding.free (made f sized cs));
        turns = λ p. subst (Turns p page.free (map dated (made f sized cs))) (sym (holding-is p)) (turns (T.turns p));
        clocks = λ c.
            rw (entry-is k sized h b c, ← (same-call c).clock)
            (all-at (lists.clock_of c) (lists.entry_of service_machine (shape k) h b c).moves (T.clocks c));
        refusals = λ c n.
            rw (entry-is k sized h b c)
            (ap (entered k) (T.refused c (λ e. n (ap (λ (x : book.Entry). x.number) (entry-is k sized h b c) ∙ e))));
      }

  uncut : (c : ℕ) → Forward (host f) 0 cs c → Uncut k (booked k b) c
  uncut c w =
      record {
        times = λ d v x y. rw (line-is k b d v (small y)) (U.early.times (d * 8 + v) (present k sized x y));
        clocks = λ d v p x y on.
            rw (line-is k b d v (small y)) (U.early.running (d * 8 + v) p (present k sized x y) (running d v p y on));
        exact = λ d v p now m st x y on l z.
            rw (eq-eqb d d refl, eq-eqb v v refl, line-is k b d v (small y))
            (U.exact (d * 8 + v) p now st (present k sized x y) (running d v p y on) l z);
      }
    where
      U : uncuts.Uncut (shape k) b c
      U = laws.uncut (whole f sized) cs c ((same-forward f sized cs c).0 w)

      running : (d v p : ℕ) → v < k.vcpus → (booked k b d v).state ≡ Running p → (b (d * 8 + v)).state ≡ Running p
      running d v p y on = ap (λ (l : book.Line). l.state) (sym (line-is k b d v (small y))) ∙ on

  last : (d v : ℕ) → d < k.domains → v < k.vcpus → Keeps (vcpu h.system d v) (page.last_after f cs d v)
  unfolding vcpu_at
  last d v x y =
      record {
        last =
            L.last
            ∙ (last-from-is d v (small y) k sized cs (fresh f sized) (slots.blank_book (shape k)) 64
            ∙ ap₂ (λ (i : Host) (a : book.Book). page.last_from k i a d v 64 cs) (host-is f sized)
            (sym (blank-is k sized.pcpus)));
        running = L.running;
        offline = L.offline;
      }
    where
      L : LastKept h.system (d * 8 + v) (last_after service_machine (shape k) (fresh f sized) (slots.blank_book (shape k)) (d * 8 + v) 64 cs)
      L = laws.last-kept (whole f sized) cs (d * 8 + v) (present k sized x y)

pub every_list_tells : EveryListTells
every_list_tells f sized cs =
    record {
      moves = rw (host-after-is f sized cs, book-after-is f sized cs, moves-after-is f sized cs) (tell f sized cs);
      last = rw (host-after-is f sized cs) (last f sized cs);
      uncut = λ c w.
          rw (book-after-is f sized cs)
          (uncut f sized cs c w);
    }
