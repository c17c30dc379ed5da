-- The dated moves of a book that is made line by line tell who holds which pCPU. Assumes nothing.
use Prim.Native.Nat.{ℕ, ◌/◌, ◌%◌}
use mathlib.Core.Bool.{cond}
use mathlib.Core.Path.{◌≡◌, refl, sym, ◌∙◌, ap, subst}
use mathlib.Core.Logic.{◌≢◌}
use mathlib.Core.List.{List, ◌∷◌, ◌++◌}
use native.Mathlib.Decide.{ℕ_discrete}
use native.Mathlib.Omega.{arith}
use lib.Dec.{eqb}
use borrow.Author.Tests.{eq-eqb, ne_eqb}
use Rattle.system.specs.declared.RunState.TheVariants.{Running}
use Rattle.system.specs.declared.Occupant.TheVariants.{Vcpu}
use Rattle.system.specs.declared.System.{System}
use Rattle.system.specs.Reads.{occupant_at}
use Rattle.scans.specs.Scan.{Pick}
use Rattle.scans.specs.Scan as scans
use Rattle.sched.proofs.Laws.{ready_nr}
use Rattle.demand3.specs.Dated.{Dated, onto, off, dated}
use Rattle.demand3.specs.Book.{Line, Book, Shape, noted, holder}
use Rattle.demand3.specs.Agreement.{PresentIn, InStep}
use Rattle.demand3.specs.Lists.{Clock}
use Rattle.demand3.specs.Holding.{Hold, free, by, hold_by, holding, hold_after, Turns}
use Rattle.demand3.specs.Holding as moves
use Rattle.demand3.proofs.Holders.{holder-runs, nobody-runs, shaped-present}
use Rattle.demand3.proofs.Notes.{noted_here, noted-there}
use Rattle.demand3.proofs.Made.{InPlace, GoesOn, ComesOff, Vacant, Made, done, writes, goes_on, goes_off}

-- H says who holds each pCPU since when, as the lines of the book do
pub record Tracks (k : Shape) (b : Book) (H : ℕ → Hold) : Type 0 where
  pub on : (i p : ℕ) → PresentIn k i → (b i).state ≡ Running p → H p ≡ by i (b i).clock
  pub off : (p : ℕ) → Vacant k b p → H p ≡ free

-- and so does the book's holder
pub tracks-holding : {k : Shape} {b : Book} {H : ℕ → Hold} → Tracks k b H → (p : ℕ) → H p ≡ holding k b p
tracks-holding {k} {b} {H} T p = go (holder k b p) refl
  where
    go : (r : Pick) → holder k b p ≡ r → H p ≡ hold_by b r
    go scans.nobody e = T.off p (λ i x. nobody-runs k b p i e x)
    go (scans.at i) e = let f = holder-runs k b p i e in T.on i p f.0 f.1

-- of a system in step: in a sound one nobody else runs where the holder does
pub in_step-tracks : {k : Shape} {b : Book} {s : System} → InStep k b s → Tracks k b (holding k b)
in_step-tracks {k} {b} {s} T = record { on = λ i p x e. on i p x e (holder k b p) refl; off = λ p v. off p v (holder k b p) refl }
  where
    -- whoever runs on p is its occupant
    occupies : (i p : ℕ) → PresentIn k i → (b i).state ≡ Running p → occupant_at s p ≡ Vcpu (i / 8) (i % 8)
    occupies i p x e =
        let h = shaped-present T.shaped T.sound x in
        (T.sound.runs i p h (sym (T.lines.says i h).state ∙ e)).back

    on : (i p : ℕ) → PresentIn k i → (b i).state ≡ Running p → (r : Pick) → holder k b p ≡ r
        → hold_by b r ≡ by i (b i).clock
    on i p x e scans.nobody f = absurd (nobody-runs k b p i f x e)
    on i p x e (scans.at j) f =
        let y = holder-runs k b p j f in
        let o = occupies i p x e in
        let u = occupies j p y.0 y.1 in
        let d : i / 8 ≡ j / 8 = cc in
        let v : i % 8 ≡ j % 8 = cc in
        let z : j ≡ i = omega arith in
        rw z

    off : (p : ℕ) → Vacant k b p → (r : Pick) → holder k b p ≡ r → hold_by b r ≡ free
    off p v scans.nobody f = refl
    off p v (scans.at j) f = let y = holder-runs k b p j f in absurd (v j y.0 y.1)

-- ---- H with another hold of pCPU p

abbrev put : (ℕ → Hold) → ℕ → Hold → ℕ → Hold
put H p x q = cond (eqb q p) x (H q)

put-here : (H : ℕ → Hold) (p : ℕ) (x : Hold) → put H p x p ≡ x
put-here H p x = rw (eq-eqb p p refl)

put-there : (H : ℕ → Hold) (p : ℕ) (x : Hold) (q : ℕ) → q ≢ p → put H p x q ≡ H q
put-there H p x q n = rw (ne_eqb q p n)

-- ---- a line written at slot i

module _ {k : Shape} {b : Book} {H : ℕ → Hold} {i : ℕ} (l : Line) (T : Tracks k b H) (x : PresentIn k i) where
  here : {q : ℕ} → l.state ≡ Running q → (noted b i l i).state ≡ Running q
  here e = ap (λ (m : Line). m.state) (noted_here b i l) ∙ e

  -- whoever runs in the new book is i, or ran in the old one
  on-by : {G : ℕ → Hold} → ((q : ℕ) → l.state ≡ Running q → G q ≡ by i l.clock)
      → ((j q : ℕ) → j ≢ i → PresentIn k j → (b j).state ≡ Running q → G q ≡ by j (b j).clock)
      → (j q : ℕ) → PresentIn k j → (noted b i l j).state ≡ Running q → G q ≡ by j (noted b i l j).clock
  on-by {G} f g j q y = go (ℕ_discrete j i)
    where
      go : Dec (j ≡ i) → (noted b i l j).state ≡ Running q → G q ≡ by j (noted b i l j).clock
      go (yes e) = rw (e, noted_here b i l) (f q)
      go (no n) = rw (noted-there b i l j n) (g j q n y)

  -- whoever ran in the old book runs in the new one, if i does
  off-by : (q : ℕ) → ((b i).state ≡ Running q → l.state ≡ Running q) → Vacant k (noted b i l) q → Vacant k b q
  off-by q f w j z e = go (ℕ_discrete j i)
    where
      go : Dec (j ≡ i) → ⊥
      go (yes g) = w i x (here (f (ap (λ (m : ℕ). (b m).state) (sym g) ∙ e)))
      go (no n) = w j z (ap (λ (m : Line). m.state) (noted-there b i l j n) ∙ e)

  stays_tracked : InPlace (b i) l → Tracks k (noted b i l) H
  stays_tracked y =
      record {
        on = on-by (λ q e. T.on i q x (y.was q e) ∙ ap (by i) (sym y.clock)) (λ j q n z. T.on j q z);
        off = λ q w. T.off q (off-by q (y.still q) w);
      }

  goes_tracked : {p now : ℕ} → Vacant k b p → GoesOn (b i) l p now → Tracks k (noted b i l) (put H p (by i now))
  goes_tracked {p} {now} v y =
      record {
        on = on-by
            (λ q e. let s = y.on in let z : q ≡ p = cc in rw z (put-here H p (by i now) ∙ ap (by i) (sym y.clock)))
            (λ j q n z e. put-there H p (by i now) q (λ f. v j z (e ∙ ap Running f)) ∙ T.on j q z e);
        off = λ q w.
            put-there H p (by i now) q (λ f. w i x (here (y.on ∙ ap Running (sym f))))
            ∙ T.off q (off-by q (λ e. absurd (ready_nr q (sym y.ready ∙ e))) w);
      }

  comes_tracked : {p now : ℕ} → ComesOff (b i) l p now → Tracks k (noted b i l) (put H p free)
  comes_tracked {p} {now} y =
      record {
        on = on-by (λ q e. absurd (y.rests q e)) (λ j q n z e. put-there H p free q (λ f. alone j n z (e ∙ ap Running f)) ∙ T.on j q z e);
        off = λ q w. emptied q w (ℕ_discrete q p);
      }
    where
      -- only i ran on p
      alone : (j : ℕ) → j ≢ i → PresentIn k j → (b j).state ≡ Running p → ⊥
      alone j n z e = let f = T.on j p z e in let g = T.on i p x y.on in n (cc)

      emptied : (q : ℕ) → Vacant k (noted b i l) q → Dec (q ≡ p) → put H p free q ≡ free
      emptied q w (yes f) = rw f (put-here H p free)
      emptied q w (no m) = put-there H p free q m ∙ T.off q (off-by q (λ e. let s = y.on in absurd (m (cc))) w)

-- ---- the moves

-- the moves take turns on each pCPU, from H to what the book has after them
pub record Turned (k : Shape) (H : ℕ → Hold) (ms : List Dated) (b : Book) : Type 0 where
  pub ends : ℕ → Hold
  pub tracks : Tracks k b ends
  pub turns : (p : ℕ) → Turns p (H p) ms (ends p)

-- one move more in front, which makes of H what p holds after it
on-pcpu : (H : ℕ → Hold) (m : Dated) (x : Hold) {ms : List Dated} {E : ℕ → Hold}
    → (Turns m.pcpu x ms (E m.pcpu) → Turns m.pcpu (H m.pcpu) (m ∷ ms) (E m.pcpu))
    → ((q : ℕ) → Turns q (put H m.pcpu x q) ms (E q)) → (q : ℕ) → Turns q (H q) (m ∷ ms) (E q)
on-pcpu H m x {ms} {E} f r q = go (ℕ_discrete q m.pcpu)
  where
    go : Dec (q ≡ m.pcpu) → Turns q (H q) (m ∷ ms) (E q)
    go (yes e) = rw e (f (subst (λ (h : Hold). Turns m.pcpu h ms (E m.pcpu)) (put-here H m.pcpu x) (r m.pcpu)))
    go (no n) = moves.elsewhere (λ e. n (sym e)) (subst (λ (h : Hold). Turns q h ms (E q)) (put-there H m.pcpu x q n) (r q))

pub made-turned : {k : Shape} {t : Clock} {b b' : Book} {ms : List Dated} {H : ℕ → Hold} → Made k t b ms b'
    → Tracks k b H → Turned k H ms b'
made-turned {H = H} done T = record { ends = H; tracks = T; turns = λ p. moves.done }
made-turned (writes {l = l} x y m) T = made-turned m (stays_tracked l T x y)
made-turned {H = H} (goes_on {i = i} {p = p} {now = now} {l = l} e x w v y m) T =
    let r = made-turned m (goes_tracked l T x v y) in
    record {
      ends = r.ends;
      tracks = r.tracks;
      turns = on-pcpu H (dated onto i p now) (by i now) (rw (T.off p v) (λ z. moves.goes_on z)) r.turns;
    }
made-turned {H = H} (goes_off {i = i} {p = p} {now = now} {l = l} e x y m) T =
    let r = made-turned m (comes_tracked l T x y) in
    record {
      ends = r.ends;
      tracks = r.tracks;
      turns = on-pcpu H (dated off i p now) free (rw (T.on i p x y.on) (λ z. moves.goes_off z)) r.turns;
    }

pub turns_then : {p : ℕ} {f g h : Hold} {xs ys : List Dated} → Turns p f xs g → Turns p g ys h
    → Turns p f (xs ++ ys) h
turns_then moves.Turns.done s = s
turns_then (moves.Turns.goes_on r) s = moves.goes_on (turns_then r s)
turns_then (moves.Turns.goes_off r) s = moves.goes_off (turns_then r s)
turns_then (moves.Turns.elsewhere n r) s = moves.elsewhere n (turns_then r s)

-- of the moves that take turns the last tells
pub turns-last : {p : ℕ} {g h : Hold} {ms : List Dated} → Turns p g ms h → h ≡ hold_after p g ms
unfolding hold_after
turns-last moves.Turns.done = refl
turns-last {p} (moves.Turns.goes_on r) = rw (eq-eqb p p refl) (turns-last r)
turns-last {p} (moves.Turns.goes_off r) = rw (eq-eqb p p refl) (turns-last r)
turns-last {p} (moves.Turns.elsewhere {m} n r) = rw (ne_eqb m.pcpu p n) (turns-last r)
