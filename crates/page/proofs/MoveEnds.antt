-- What the dated moves tell, at the ends of the largest host, 16 × 8 on 64, with a policy of any shape and any slice, 0
-- included: the last vCPU, the last pCPU and one past it, a later move of an advance, the largest clock. It is written
-- out with the numbers themselves: a clause that said less would not give it. Assumes nothing.
use Rattle.std.specs.Prelude.{Option, Some}
use Prim.Native.Nat.{ℕ, ◌+◌, ◌-◌, ◌^◌, ◌≤◌, ◌<◌, min}
use mathlib.Core.List.{List, [], ◌∷◌, ◌++◌}
use mathlib.Core.Path.{◌≡◌, refl, sym, ◌∙◌, ap, ap₂, subst}
use native.Mathlib.Omega.{arith}
use borrow.Author.Tests.{ne_eqb}
use Rattle.system.specs.declared.RunState.TheVariants.{Offline, Running, Blocked}
use Rattle.system.specs.declared.VirtualCpu.{VirtualCpu}
use Rattle.host.specs.declared.Host.{Host}
use Rattle.calls.specs.declared.Call.{Call}
use Rattle.page.specs.Host.{Found, nobody, one, vcpu}
use Rattle.page.specs.Steps.{step}
use Rattle.page.specs.Book.{Line, Book, Dated, Entry, onto, off, holder, enter}
use Rattle.page.specs.Lists as lists
use Rattle.page.specs.Lists.{host_after, book_after, moves_after}
use Rattle.page.specs.DatedMoves.{Hold, free, by, held_by, held_after, moved, Turns, AllAt, pcpu_of, date_of}
use Rattle.page.specs.DatedMoves.{last_after, Tells, Forward, Uncut}
use Rattle.page.proofs.DatedMoves.{every_list_tells}
use Rattle.page.proofs.Ends.{k, largest, sizes}

-- of moves that are all at a clock, a later one too
later-dated : (t : Option ℕ) (ms ns : List Dated) (m : Dated) → AllAt t (ms ++ (m ∷ ns)) → t ≡ Some (date_of m)
later-dated t [] ns m a = a.0
later-dated t (x ∷ ms) ns m a = later-dated t ms ns m a.1

-- of a last move onto pCPU 63
last-onto : (g : Hold) (ms : List Dated) (now : ℕ) → held_after 63 g (ms ++ (onto 15 7 63 now ∷ [])) ≡ by 15 7 now
unfolding held_after
last-onto g [] now = refl
last-onto g (m ∷ ms) now = last-onto (moved 63 g m) ms now

-- whoever goes onto a pCPU finds it free, and whoever comes off it held it
abbrev Finds : Dated → Hold → Type 0
Finds (onto d v p now) g = g ≡ free
Finds (off d v p now) g = (c : ℕ) × (g ≡ by d v c)

-- a move elsewhere leaves pCPU 63 as it was
stays : (g : Hold) (m : Dated) → (pcpu_of m ≡ 63 → ⊥) → moved 63 g m ≡ g
stays g (onto d v q now) n = rw (ne_eqb q 63 n)
stays g (off d v q now) n = rw (ne_eqb q 63 n)

-- of moves that take turns, a later one too
later-turn : {g h : Hold} (ms ns : List Dated) (m : Dated) → pcpu_of m ≡ 63 → Turns 63 g (ms ++ (m ∷ ns)) h
    → Finds m (held_after 63 g ms)
unfolding held_after
later-turn [] ns m on (Turns.goes_on r) = refl
later-turn [] ns m on (Turns.goes_off r) = (_, refl)
later-turn [] ns m on (Turns.elsewhere n r) = absurd (n on)
later-turn (x ∷ ms) ns m on (Turns.goes_on r) = later-turn ms ns m on r
later-turn (x ∷ ms) ns m on (Turns.goes_off r) = later-turn ms ns m on r
later-turn (x ∷ ms) ns m on (Turns.elsewhere {g = g} n r) =
    subst (λ (i : Hold). Finds m (held_after 63 i ms)) (sym (stays g x n)) (later-turn ms ns m on r)

module _ (e u q : ℕ) (cs : List Call) where
  abbrev h : Host
  h = host_after (largest e u q) cs

  abbrev b : Book
  b = book_after (largest e u q) cs

  abbrev moves : List Dated
  moves = moves_after (largest e u q) cs

  here : Tells (largest e u q) cs
  here = every_list_tells (largest e u q) sizes cs

  -- ---- who holds a pCPU

  pub held-there : (held_by b (holder k b 63) ≡ held_after 63 free moves)
      × (held_by b (holder k b 64) ≡ held_after 64 free moves)
      × Turns 63 free moves (held_by b (holder k b 63)) × Turns 64 free moves (held_by b (holder k b 64))
  held-there = let m = here.moves in (m.last 63, m.last 64, m.turns 63, m.turns 64)

  -- the last move of all
  pub since-there : (ms : List Dated) (now : ℕ) → moves ≡ ms ++ (onto 15 7 63 now ∷ [])
      → (holder k b 63 ≡ one 15 7) × ((b 15 7).clock ≡ now)
  since-there ms now y =
      since (holder k b 63) (here.moves.last 63 ∙ (ap (held_after 63 free) y ∙ last-onto free ms now))
    where
      since : (r : Found) → held_by b r ≡ by 15 7 now → (r ≡ one 15 7) × ((b 15 7).clock ≡ now)
      since nobody x = absurd (let z : ◌≡◌ {A = ℕ} 0 1 = cc in omega arith)
      since (one d v) x =
          let i : d ≡ 15 = cc in
          let j : v ≡ 7 = cc in
          let c : (b d v).clock ≡ now = cc in
          (ap₂ one i j, ap₂ (λ d v. (b d v).clock) (sym i) (sym j) ∙ c)

  -- whatever was moved before, and whatever after
  pub turns-there : (ms ns : List Dated) (now : ℕ)
      → (moves ≡ ms ++ (onto 15 7 63 now ∷ ns) → held_after 63 free ms ≡ free)
      × (moves ≡ ms ++ (off 15 7 63 now ∷ ns) → (c : ℕ) × (held_after 63 free ms ≡ by 15 7 c))
  turns-there ms ns now = (λ y. turn (onto 15 7 63 now) refl y, λ y. turn (off 15 7 63 now) refl y)
    where
      turn : (m : Dated) → pcpu_of m ≡ 63 → moves ≡ ms ++ (m ∷ ns) → Finds m (held_after 63 free ms)
      turn m on y =
          later-turn ms ns m on
          (subst (λ (l : List Dated). Turns 63 free l (held_by b (holder k b 63))) y (here.moves.turns 63))

  -- ---- the next call

  abbrev entered : Call → Entry
  entered c = enter k b c (step h c).moves

  pub dated-there : (ms ns : List Dated) (now : ℕ)
      → (entered (Call.Advance (2 ^ 64 - 1))).moves ≡ ms ++ (onto 15 7 63 now ∷ ns) → now ≡ 2 ^ 64 - 1
  dated-there ms ns now y =
      same (later-dated _ ms ns (onto 15 7 63 now)
      (subst (AllAt (Some (2 ^ 64 - 1))) y (here.moves.clocks (Call.Advance (2 ^ 64 - 1)))))
    where
      same : {c n : ℕ} → Some c ≡ Some n → n ≡ c
      same x = cc

  pub refused-there : (c : Call) → ((entered c).number ≡ 0 → ⊥)
      → entered c ≡ record { number = (entered c).number; book = b; moves = [] }
  refused-there = here.moves.refusals

  -- ---- the pCPU that the last vCPU was last on

  abbrev x : VirtualCpu
  x = vcpu h.system 15 7

  pub last-there : (x.last ≡ last_after (largest e u q) cs 15 7) × (x.state ≡ Running 63 → x.last ≡ 63)
      × (x.state ≡ Offline → x.last ≡ 64)
  last-there = let y = here.last 15 7 (omega arith) (omega arith) in (y.last, y.running 63, y.offline)

  -- ---- where clocks do not run back, up to c

  module _ (c : ℕ) (forward : Forward (lists.host (largest e u q)) 0 cs c) (early : c < 2 ^ 64) where
    abbrev l : Line
    l = b 15 7

    uncut : Uncut k b c
    uncut = here.uncut c forward

    pub times-there : (l.time ≤ c) × (l.state ≡ Running 63 → (l.time ≤ l.clock) × (l.clock ≤ c))
    times-there = (uncut.times 15 7 (omega arith) (omega arith), uncut.clocks 15 7 63 (omega arith) (omega arith))

    -- it comes off at the largest clock
    pub exact-there : l.state ≡ Running 63
        → min (l.time + (2 ^ 64 - 1 - l.clock)) (2 ^ 64 - 1) ≡ l.time + (2 ^ 64 - 1 - l.clock)
    exact-there on =
        uncut.exact 15 7 63 (2 ^ 64 - 1) (2 ^ 64 - 1) Blocked (omega arith) (omega arith) on (omega arith)
        (omega arith)
