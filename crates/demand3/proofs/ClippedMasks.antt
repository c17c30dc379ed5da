-- No call enters a mask with a bit at or above the pCPU count, so none of the book's has one. Assumes nothing.
use Prim.Native.Nat.{ℕ, zero, suc, ◌+◌, ◌*◌, ◌^◌, ◌<◌, min}
use mathlib.Core.Bool.{Bool, true, false, cond}
use mathlib.Core.List.{List, [], ◌∷◌}
use mathlib.Core.Path.{◌≡◌}
use native.Mathlib.Nat.{mod-lt}
use native.Mathlib.Decide.{ℕ_discrete}
use lib.Dec.{ltb}
use lib.Pow.{pow_pos, ones_lt}
use Rattle.masks.specs.Masks.{permits, full_mask, clipped}
use Rattle.system.specs.declared.RunState.{RunState}
use Rattle.system.specs.declared.RunState.TheVariants.{Offline, Runnable, Running, Blocked}
use Rattle.moves.specs.declared.Choice.{Choice}
use Rattle.moves.specs.declared.Choice.TheVariants.{Run, Preempt, Rest}
use Rattle.scans.specs.Scan.{some}
use Rattle.calls.specs.declared.Request.{Request}
use Rattle.calls.specs.declared.Call.{Call}
use Rattle.changes.specs.Changes.{reaches}
use Rattle.demand3.specs.Machine.{Machine}
use Rattle.demand3.specs.Dated.{Direction, onto}
use Rattle.demand3.specs.Book.{Line, Book, Shape, noted, holder, remasked, opened, closed, Note, refuse, write}
use Rattle.demand3.specs.Book.{move, Entry, entered, identified, unwritten}
use Rattle.demand3.specs.Book.{admit_note, run_note, preempt_note, block_note, wake_note, offline_note, mask_note}
use Rattle.demand3.specs.Book.{note_of, offline_lines, moved_all, enter}
use Rattle.demand3.specs.Lists.{book_after}
use Rattle.demand3.proofs.Notes.{noted_here, noted-there}

module _ (k : Shape) where
  -- a mask without such a bit
  abbrev Clipped : ℕ → Type 0
  Clipped m = m < 2 ^ min k.pcpus 64

  -- all masks of a book are
  pub record Clips (b : Book) : Type 0 where
    pub mask : (i : ℕ) → Clipped (b i).mask

  -- so are those of the book that an entry leaves
  record EntryClips (e : Entry) : Type 0 where
    clips : Clips e.book

  -- and the one that a note writes
  data NoteClips : Note → Type 0 where
    none : {a : ℕ} → NoteClips (refuse a)
    line : {l : Line} → Clipped l.mask → NoteClips (write l)
    moving : {w : Direction} {p now : ℕ} {l : Line} → Clipped l.mask → NoteClips (move w p now l)

  full-clipped : Clipped (full_mask k.pcpus)
  full-clipped = ones_lt (min k.pcpus 64)

  noted-clips : {b : Book} (i : ℕ) (l : Line) → Clips b → Clipped l.mask → Clips (noted b i l)
  noted-clips {b} i l C m = record { mask = λ j. go j (ℕ_discrete j i) }
    where
      go : (j : ℕ) → Dec (j ≡ i) → Clipped (noted b i l j).mask
      go j (yes e) = rw (e, noted_here b i l) m
      go j (no n) = rw (noted-there b i l j n) (C.mask j)

  entered-clips : {b : Book} {n : Note} (i : ℕ) → Clips b → NoteClips n → EntryClips (entered b i n)
  entered-clips i C none = record { clips = C }
  entered-clips i C (line {l} x) = record { clips = noted-clips i l C x }
  entered-clips i C (moving {l = l} x) = record { clips = noted-clips i l C x }

  -- ---- each note

  module _ (l : Line) (m : Clipped l.mask) where
    admit-clips : (st : RunState) → NoteClips (admit_note l st)
    admit-clips Offline = line m
    admit-clips Runnable = none
    admit-clips (Running p) = none
    admit-clips Blocked = none

    run-clips : (p now : ℕ) (busy : Bool) (st : RunState) → NoteClips (run_note l p busy now st)
    run-clips p now busy Offline = none
    run-clips p now busy Runnable = go (permits l.mask p) busy
      where
        go : (x y : Bool) → NoteClips (cond x (cond y (refuse 5) (move onto p now (opened l p now))) (refuse 6))
        go true true = none
        go true false = moving m
        go false y = none
    run-clips p now busy (Running q) = none
    run-clips p now busy Blocked = none

    preempt-clips : (now : ℕ) (st : RunState) → NoteClips (preempt_note l now st)
    preempt-clips now Offline = none
    preempt-clips now Runnable = none
    preempt-clips now (Running p) = moving m
    preempt-clips now Blocked = none

    block-clips : (now : ℕ) (st : RunState) → NoteClips (block_note l now st)
    block-clips now Offline = none
    block-clips now Runnable = line m
    block-clips now (Running p) = moving m
    block-clips now Blocked = none

    wake-clips : (st : RunState) → NoteClips (wake_note l st)
    wake-clips Offline = none
    wake-clips Runnable = none
    wake-clips (Running p) = none
    wake-clips Blocked = line m

  offline-clips : (l : Line) (now : ℕ) (st : RunState) → NoteClips (offline_note l (full_mask k.pcpus) now st)
  offline-clips l now Offline = none
  offline-clips l now Runnable = line full-clipped
  offline-clips l now (Running p) = moving full-clipped
  offline-clips l now Blocked = line full-clipped

  mask-clips : (l : Line) (m : ℕ) → Clipped m → (st : RunState) → NoteClips (mask_note l m st)
  mask-clips l m x Offline = line x
  mask-clips l m x Runnable = line x
  mask-clips l m x (Running p) = go (permits m p)
    where
      go : (t : Bool) → NoteClips (cond t (write (remasked l m)) (refuse 6))
      go true = line x
      go false = none
  mask-clips l m x Blocked = line x

  request_clips : (b : Book) (i : ℕ) → Clips b → (q : Request) → NoteClips (note_of k b i q)
  request_clips b i C Request.Admit = admit-clips (b i) (C.mask i) (b i).state
  request_clips b i C (Request.Run p now) = run-clips (b i) (C.mask i) p now (some (holder k b p)) (b i).state
  request_clips b i C (Request.Preempt now) = preempt-clips (b i) (C.mask i) now (b i).state
  request_clips b i C (Request.Block now) = block-clips (b i) (C.mask i) now (b i).state
  request_clips b i C Request.Wake = wake-clips (b i) (C.mask i) (b i).state
  request_clips b i C (Request.SetAffinity m) =
      mask-clips (b i) (clipped m k.pcpus) (mod-lt m (pow_pos (min k.pcpus 64))) (b i).state
  request_clips b i C (Request.Offline now) = offline-clips (b i) now (b i).state

  -- ---- each call, whatever moves an advance is handed

  -- a call that fails a test writes nothing
  tested-clips : {b : Book} {e : Entry} (t : Bool) (n : ℕ) → Clips b → EntryClips e
      → EntryClips (cond t e (unwritten n b))
  tested-clips true n C D = D
  tested-clips false n C D = record { clips = C }

  identified-clips : {b : Book} {n : Note} (d v : ℕ) → Clips b → NoteClips n → EntryClips (identified k b d v n)
  identified-clips d v C x = tested-clips (ltb d k.domains) 1 C (tested-clips (ltb v k.vcpus) 2 C (entered-clips (d * 8 + v) C x))

  first-clips : (b : Book) (d now n : ℕ) → Clips b → EntryClips (offline_lines k b d now n)
  unfolding offline_lines
  first-clips b d now zero C = record { clips = C }
  first-clips b d now (suc n) C =
      let i = d * 8 + n in
      let D = (first-clips b d now n C).clips in
      record { clips = (entered-clips i D (request_clips _ i D (Request.Offline now))).clips }

  moves-clip : (b : Book) (now : ℕ) (cs : List Choice) → Clips b → EntryClips (moved_all b now cs)
  unfolding moved_all
  moves-clip b now [] C = record { clips = C }
  moves-clip b now (Run i p ∷ cs) C = record { clips = (moves-clip (noted b i (opened (b i) p now)) now cs (noted-clips i (opened (b i) p now) C (C.mask i))).clips }
  moves-clip b now (Preempt i p ∷ cs) C =
      record { clips = (moves-clip (noted b i (closed (b i) Runnable now)) now cs (noted-clips i (closed (b i) Runnable now) C (C.mask i))).clips }
  moves-clip b now (Rest ∷ cs) C = record { clips = (moves-clip b now cs C).clips }

  enter-clips : (b : Book) (c : Call) (ms : List Choice) → Clips b → EntryClips (enter k b c ms)
  unfolding enter
  enter-clips b (Call.Ask d v q) ms C = tested-clips (reaches q k.pcpus) 3 C (identified-clips d v C (request_clips b (d * 8 + v) C q))
  enter-clips b (Call.OfflineAll d now) ms C = tested-clips (ltb d k.domains) 0 C (first-clips b d now k.vcpus C)
  enter-clips b (Call.SetWeight d v w) ms C = record { clips = C }
  enter-clips b (Call.SetWakeBoost on) ms C = record { clips = C }
  enter-clips b (Call.Advance now) ms C = moves-clip b now ms C

  pub after-clips : (M : Machine) (cs : List Call) (h : M.Host) (b : Book) → Clips b → Clips (book_after M k h b cs)
  unfolding book_after
  after-clips M [] h b C = C
  after-clips M (c ∷ cs) h b C = after-clips M cs _ _ (enter-clips b c (M.moves h c) C).clips
