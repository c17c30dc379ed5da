-- The book of demand 3 by ids in place of slots: what is written of vCPU d/v and what is read of it. Assumes nothing.
use Prim.Native.Nat.{ℕ, ◌+◌, ◌*◌, ◌/◌, ◌%◌, ◌≤◌, ◌<◌, min}
use mathlib.Core.Bool.{Bool, true, false, cond, ◌&&◌, and-false}
use mathlib.Core.List.{map}
use mathlib.Core.Path.{◌≡◌, refl, sym, ◌∙◌, ap}
use native.Mathlib.Decide.{ℕ_discrete}
use native.Mathlib.Omega.{arith}
use lib.Dec.{ltb, eqb}
use borrow.Author.Tests.{ltb-true, ltb-false, lt-ltb, eq-eqb, ne_eqb}
use Rattle.masks.specs.Masks.{full_mask}
use Rattle.system.specs.declared.RunState.TheVariants.{Offline}
use Rattle.system.specs.Slots.{slot_of}
use Rattle.scans.specs.Scan.{never, some}
use Rattle.demand3.specs.Dated.{Direction, onto, off, Dated}
use Rattle.demand3.specs.Book.{Line, Book, Shape, Entry, noted, blank_book, holder}
use Rattle.page.specs.Book as page
use Rattle.page.specs.Page.{runs_on, somebody}
use Rattle.page.proofs.Loops.{who, best-scan}
use Rattle.page.proofs.Verdict.{runs-on-is}
use Rattle.page.proofs.Next.{some_is}

abbrev pub shape : page.Shape → Shape
shape k = record { domains = k.domains; vcpus = k.vcpus; pcpus = k.pcpus }

abbrev pub lined : Line → page.Line
lined l = page.line l.state l.time l.clock l.mask

-- no vCPU has an id of 8 or more: such a line stays blank
unfoldable pub booked : page.Shape → Book → page.Book
booked k b d v = cond (ltb v 8) (lined (b (d * 8 + v))) (page.blank k d v)

abbrev pub moved : Direction → ℕ → ℕ → ℕ → page.Dated
moved onto i p now = page.onto (i / 8) (i % 8) p now
moved off i p now = page.off (i / 8) (i % 8) p now

abbrev pub dated : Dated → page.Dated
dated m = moved m.direction m.slot m.pcpu m.clock

abbrev pub entered : page.Shape → Entry → page.Entry
entered k e = record { number = e.number; book = booked k e.book; moves = map dated e.moves }

-- ---- slots and ids

pub same-slot : (e u d v : ℕ) → u < 8 → v < 8 → eqb (e * 8 + u) (d * 8 + v) ≡ (eqb e d && eqb u v)
same-slot e u d v a b = go (ℕ_discrete e d) (ℕ_discrete u v)
  where
    go : Dec (e ≡ d) → Dec (u ≡ v) → eqb (e * 8 + u) (d * 8 + v) ≡ (eqb e d && eqb u v)
    go (yes x) (yes y) = rw (eq-eqb e d x, eq-eqb u v y) (eq-eqb (e * 8 + u) (d * 8 + v) (omega arith))
    go (yes x) (no m) = rw (ne_eqb u v m, and-false (eqb e d)) (ne_eqb (e * 8 + u) (d * 8 + v) (λ f. m (omega arith)))
    go (no m) y = rw (ne_eqb e d m) (ne_eqb (e * 8 + u) (d * 8 + v) (λ f. m (omega arith)))

module _ (k : page.Shape) (b : Book) where
  pub line-is : (d v : ℕ) → v < 8 → booked k b d v ≡ lined (b (d * 8 + v))
  unfolding booked
  line-is d v l = ap (λ (t : Bool). cond t (lined (b (d * 8 + v))) (page.blank k d v)) (lt-ltb v 8 l)

  pub line_at : (i : ℕ) → booked k b (i / 8) (i % 8) ≡ lined (b i)
  line_at i = line-is (i / 8) (i % 8) (omega arith) ∙ ap (λ (j : ℕ). lined (b j)) (slot_of i)

  pub put_is : (d v : ℕ) → v < 8 → (l : Line) → page.put (booked k b) d v (lined l) ≡ booked k (noted b (d * 8 + v) l)
  unfolding booked
  put_is d v small l = λ o e u. here e u (ltb u 8) refl o
    where
      turn : (t : Bool) (x y : Line) → cond t (lined x) (lined y) ≡ lined (cond t x y)
      turn true x y = refl
      turn false x y = refl

      here : (e u : ℕ) (t : Bool) → ltb u 8 ≡ t
          → cond (eqb e d && eqb u v) (lined l) (cond (ltb u 8) (lined (b (e * 8 + u))) (page.blank k e u))
          ≡ cond (ltb u 8) (lined (cond (eqb (e * 8 + u) (d * 8 + v)) l (b (e * 8 + u)))) (page.blank k e u)
      here e u true h =
          rw (h, same-slot e u d v (ltb-true u 8 h) small) (turn (eqb e d && eqb u v) l (b (e * 8 + u)))
      here e u false h =
          let m = ltb-false u 8 h in rw (h, ne_eqb u v (λ f. omega arith), and-false (eqb e d))

  -- who holds a pCPU
  pub holder-is : k.vcpus ≤ 8 → (p : ℕ) → page.holder k (booked k b) p ≡ who (holder (shape k) b p)
  unfolding page.holder holder
  holder-is small p =
      best-scan _ never (λ e u. runs_on (booked k b e u).state p) (λ _ _ _ _. false) k.vcpus small
      (λ i. ap (λ (t : Bool). ltb (i % 8) k.vcpus && t)
      (runs-on-is (b i).state p ∙ ap (λ (l : page.Line). runs_on l.state p) (sym (line_at i))))
      (λ i j. refl) k.domains

  pub busy-is : k.vcpus ≤ 8 → (p : ℕ) → somebody (page.holder k (booked k b) p) ≡ some (holder (shape k) b p)
  busy-is small p = ap somebody (holder-is small p) ∙ sym (some_is (holder (shape k) b p))

-- ---- at first

pub full_is : (k : page.Shape) → k.pcpus ≤ 64 → full_mask k.pcpus ≡ page.full k
full_is k l = let m : min k.pcpus 64 ≡ k.pcpus = omega arith in rw m

pub blank-is : (k : page.Shape) → k.pcpus ≤ 64 → page.blank k ≡ booked k (blank_book (shape k))
unfolding booked
blank-is k l = λ o d v. go d v (ltb v 8) o
  where
    go : (d v : ℕ) (t : Bool) → page.blank k d v ≡ cond t (page.line Offline 0 0 (full_mask k.pcpus)) (page.blank k d v)
    go d v true = ap (page.line Offline 0 0) (sym (full_is k l))
    go d v false = refl
