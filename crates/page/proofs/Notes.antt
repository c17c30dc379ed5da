-- What a call writes of vCPU d/v in the page's book is the note that the book of demand 3 has of it. Assumes nothing.
use Prim.Native.Nat.{ℕ, ◌+◌, ◌-◌, ◌*◌, ◌/◌, ◌%◌, ◌^◌, ◌<◌, min}
use mathlib.Core.Bool.{Bool, true, false, cond}
use mathlib.Core.List.{List, [], ◌∷◌}
use mathlib.Core.Path.{◌≡◌, refl, sym, ◌∙◌, ap, ap₂}
use native.Mathlib.Omega.{arith}
use Rattle.system.specs.declared.RunState.{RunState}
use Rattle.system.specs.declared.RunState.TheVariants.{Offline, Runnable, Running, Blocked}
use Rattle.demand3.specs.Dated.{onto, off}
use Rattle.demand3.specs.Book as slots
use Rattle.demand3.specs.Book.{Line, Book, Note, write, move, marked, remasked, opened, closed}
use Rattle.page.specs.Book as page
use Rattle.page.specs.Page.{admits}
use Rattle.page.proofs.ByIds.{lined, booked, entered, line-is, put_is}

-- an entry that is told 0
abbrev made : page.Book → List page.Dated → page.Entry
made b ms = record { number = 0; book = b; moves = ms }

module _ (k : page.Shape) (b : Book) (d v : ℕ) (small : v < 8) where
  -- an entry of d/v
  abbrev pub noting : Note → page.Entry
  noting n = entered k (slots.entered b (d * 8 + v) n)

  abbrev here : Line
  here = b (d * 8 + v)

  abbrev B : page.Book
  B = booked k b

  -- ---- a line, and a move

  line-here : B d v ≡ lined here
  line-here = line-is k b d v small

  writes-is : (l : Line) → page.writes B d v (lined l) ≡ noting (write l)
  writes-is l = ap (λ (x : page.Book). made x []) (put_is k b d v small l)

  marks-is : (st : RunState) → page.marks B d v st ≡ noting (write (marked here st))
  marks-is st =
      ap (λ (l : page.Line). page.writes B d v (page.line st l.time l.clock l.mask)) line-here
      ∙ writes-is (marked here st)

  masks-is : (m : ℕ)
      → (let l = B d v in page.writes B d v (page.line l.state l.time l.clock m)) ≡ noting (write (remasked here m))
  masks-is m =
      ap (λ (l : page.Line). page.writes B d v (page.line l.state l.time l.clock m)) line-here
      ∙ writes-is (remasked here m)

  domain : (d * 8 + v) / 8 ≡ d
  domain = omega arith

  vcpu : (d * 8 + v) % 8 ≡ v
  vcpu = omega arith

  pub goes-is : (p now : ℕ) → page.goes_onto B d v p now ≡ noting (move onto p now (opened here p now))
  goes-is p now =
      ap (λ (l : page.Line). made (page.put B d v (page.line (Running p) l.time now l.mask)) (page.onto d v p now ∷ []))
      line-here
      ∙ ap₂ (λ (x : page.Book) (m : page.Dated). made x (m ∷ [])) (put_is k b d v small (opened here p now))
      (sym (ap₂ (λ (e u : ℕ). page.onto e u p now) domain vcpu))

  pub comes_is : (st : RunState) (mask p now : ℕ)
      → page.comes_off B d v st mask p now ≡ noting (move off p now (remasked (closed here st now) mask))
  comes_is st mask p now =
      ap (λ (l : page.Line). made (page.put B d v (page.line st (min (l.time + (now - l.clock)) (2 ^ 64 - 1)) l.clock mask))
      (page.off d v p now ∷ []))
      line-here
      ∙ ap₂ (λ (x : page.Book) (m : page.Dated). made x (m ∷ [])) (put_is k b d v small (remasked (closed here st now) mask))
      (sym (ap₂ (λ (e u : ℕ). page.off e u p now) domain vcpu))

  -- with the mask that it has
  pub leaves-is : (st : RunState) (p now : ℕ)
      → page.comes_off B d v st (B d v).mask p now ≡ noting (move off p now (closed here st now))
  leaves-is st p now =
      ap (λ (l : page.Line). page.comes_off B d v st l.mask p now) line-here ∙ comes_is st here.mask p now

  -- ---- the calls, by the state

  abbrev now_in : RunState
  now_in = (B d v).state

  -- the state that the book has
  in_state : {entry : RunState → page.Entry} (note : RunState → Note) → ((st : RunState) → entry st ≡ noting (note st))
      → entry now_in ≡ noting (note here.state)
  in_state note e = e now_in ∙ ap (λ (l : page.Line). noting (note l.state)) line-here

  pub admit_notes : page.admitting B d v now_in ≡ noting (slots.admit_note here here.state)
  admit_notes = in_state (slots.admit_note here) go
    where
      go : (st : RunState) → page.admitting B d v st ≡ noting (slots.admit_note here st)
      go Offline = marks-is Runnable
      go Runnable = refl
      go (Running p) = refl
      go Blocked = refl

  pub run_notes : (p now : ℕ) (busy : Bool)
      → page.dispatching B d v p now busy now_in ≡ noting (slots.run_note here p busy now here.state)
  run_notes p now busy = in_state (slots.run_note here p busy now) go
    where
      turn : (s t : Bool)
          → cond s (cond t (page.refused 5 B) (page.goes_onto B d v p now)) (page.refused 6 B)
          ≡ noting (cond s (cond t (slots.refuse 5) (move onto p now (opened here p now))) (slots.refuse 6))
      turn true true = refl
      turn true false = goes-is p now
      turn false t = refl

      go : (st : RunState) → page.dispatching B d v p now busy st ≡ noting (slots.run_note here p busy now st)
      go Offline = refl
      go Runnable =
          ap (λ (l : page.Line). cond (admits l.mask p) (cond busy (page.refused 5 B) (page.goes_onto B d v p now)) (page.refused 6 B))
          line-here
          ∙ turn (admits here.mask p) busy
      go (Running q) = refl
      go Blocked = refl

  pub preempt_notes : (now : ℕ) → page.preempting B d v now now_in ≡ noting (slots.preempt_note here now here.state)
  preempt_notes now = in_state (slots.preempt_note here now) go
    where
      go : (st : RunState) → page.preempting B d v now st ≡ noting (slots.preempt_note here now st)
      go Offline = refl
      go Runnable = refl
      go (Running p) = leaves-is Runnable p now
      go Blocked = refl

  pub block_notes : (now : ℕ) → page.blocking B d v now now_in ≡ noting (slots.block_note here now here.state)
  block_notes now = in_state (slots.block_note here now) go
    where
      go : (st : RunState) → page.blocking B d v now st ≡ noting (slots.block_note here now st)
      go Offline = refl
      go Runnable = marks-is Blocked
      go (Running p) = leaves-is Blocked p now
      go Blocked = refl

  pub wake_notes : page.waking B d v now_in ≡ noting (slots.wake_note here here.state)
  wake_notes = in_state (slots.wake_note here) go
    where
      go : (st : RunState) → page.waking B d v st ≡ noting (slots.wake_note here st)
      go Offline = refl
      go Runnable = refl
      go (Running p) = refl
      go Blocked = marks-is Runnable

  pub offline_notes : (now : ℕ)
      → page.offlining k B d v now now_in ≡ noting (slots.offline_note here (page.full k) now here.state)
  offline_notes now = in_state (slots.offline_note here (page.full k) now) go
    where
      fills : page.writes B d v (page.line Offline (B d v).time (B d v).clock (page.full k))
          ≡ noting (write (remasked (marked here Offline) (page.full k)))
      fills =
          ap (λ (l : page.Line). page.writes B d v (page.line Offline l.time l.clock (page.full k))) line-here
          ∙ writes-is (remasked (marked here Offline) (page.full k))

      go : (st : RunState) → page.offlining k B d v now st ≡ noting (slots.offline_note here (page.full k) now st)
      go Offline = refl
      go Runnable = fills
      go (Running p) = comes_is Offline (page.full k) p now
      go Blocked = fills

  pub mask_notes : (m : ℕ) → page.masking B d v m now_in ≡ noting (slots.mask_note here m here.state)
  mask_notes m = in_state (slots.mask_note here m) go
    where
      turn : (t : Bool)
          → cond t (let l = B d v in page.writes B d v (page.line l.state l.time l.clock m)) (page.refused 6 B)
          ≡ noting (cond t (write (remasked here m)) (slots.refuse 6))
      turn true = masks-is m
      turn false = refl

      go : (st : RunState) → page.masking B d v m st ≡ noting (slots.mask_note here m st)
      go Offline = masks-is m
      go Runnable = masks-is m
      go (Running p) = turn (admits m p)
      go Blocked = masks-is m
