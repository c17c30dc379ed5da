-- What every call enters into the page's book, and the book and moves along every list, are those of demand 3. Assumes nothing.
use Prim.Native.Nat.{ℕ, zero, suc, ◌+◌, ◌*◌, ◌/◌, ◌%◌, ◌^◌, ◌≤◌, ◌<◌, min}
use mathlib.Core.Bool.{Bool, true, false, cond}
use mathlib.Core.List.{List, [], ◌∷◌, ◌++◌, map, map-append}
use mathlib.Core.Path.{◌≡◌, refl, sym, ◌∙◌, ap, ap₂}
use native.Mathlib.Omega.{arith}
use lib.Dec.{ltb}
use borrow.Author.Tests.{ltb-true}
use Rattle.masks.specs.Masks.{full_mask}
use Rattle.system.specs.declared.RunState.{RunState}
use Rattle.system.specs.declared.RunState.TheVariants.{Runnable}
use Rattle.system.specs.Slots.{slot_of}
use Rattle.scans.specs.Scan.{some}
use Rattle.moves.specs.declared.Choice.{Choice}
use Rattle.moves.specs.declared.Choice.TheVariants.{Run, Preempt, Rest}
use Rattle.advance.specs.Advance.{named}
use Rattle.host.specs.declared.Host.{Host}
use Rattle.calls.specs.declared.Request.{Request}
use Rattle.calls.specs.declared.Call.{Call}
use Rattle.changes.specs.Changes.{reaches}
use Rattle.host.specs.Step as host
use Rattle.demand3.specs.Dated.{onto, off}
use Rattle.demand3.specs.Book as slots
use Rattle.demand3.specs.Book.{Line, Book, Note, move, Entry, opened, closed, moved_all, offline_note, offline_lines}
use Rattle.demand3.specs.ServiceMachine.{service_machine}
use Rattle.demand3.specs.Lists as lists
use Rattle.page.specs.Book as page
use Rattle.page.specs.Page.{somebody}
use Rattle.page.specs.Lists as mine
use Rattle.page.specs.Lists.{Sized}
use Rattle.page.specs.Steps as steps
use Rattle.page.proofs.Steps.{step_is}
use Rattle.page.proofs.ByIds.{shape, booked, dated, entered, full_is, busy-is}
use Rattle.page.proofs.Notes.{noting, goes-is, leaves-is, admit_notes, run_notes, preempt_notes, block_notes}
use Rattle.page.proofs.Notes.{wake_notes, offline_notes, mask_notes}

module _ (k : page.Shape) (sized : Sized k) where
  -- 1, 2, or what is noted of d/v
  asked_is : (b : Book) (d v : ℕ) {r : page.Entry} (note : Line → RunState → Note) → let l = b (d * 8 + v) in
      ((small : v < 8) → r ≡ noting k b d v small (note l l.state))
      → page.asked k (booked k b) d v r ≡ entered k (slots.identified (shape k) b d v (note l l.state))
  asked_is b d v {r} note e =
      go (ltb d k.domains) (ltb v k.vcpus) (λ t. e (omega (arith, ltb-true v k.vcpus t, sized.vcpus)))
    where
      n : Note
      n = note (b (d * 8 + v)) (b (d * 8 + v)).state

      go : (s t : Bool) → (t ≡ true → r ≡ entered k (slots.entered b (d * 8 + v) n))
          → cond s (cond t r (page.refused 2 (booked k b))) (page.refused 1 (booked k b))
          ≡ entered k (cond s (cond t (slots.entered b (d * 8 + v) n) (slots.unwritten 2 b)) (slots.unwritten 1 b))
      go false t f = refl
      go true false f = refl
      go true true f = f refl

  -- one entry after another
  then_is : (e : Entry) (f : page.Book → page.Entry) (r : Entry) → f (booked k e.book) ≡ entered k r
      → page.then (entered k e) f ≡ entered k (slots.joined e r)
  then_is e f r h =
      ap (λ (x : page.Entry). made x.book (map dated e.moves ++ x.moves)) h
      ∙ ap (made (booked k r.book)) (sym (map-append dated e.moves r.moves))
    where
      made : page.Book → List page.Dated → page.Entry
      made b ms = record { number = 0; book = b; moves = ms }

  moving-is : (b : Book) (now : ℕ) (c : Choice) → page.moving (booked k b) now (named c) ≡ entered k (slots.moved b now c)
  moving-is b now (Run i p) =
      goes-is k b (i / 8) (i % 8) (omega arith) p now
      ∙ ap (λ (j : ℕ). entered k (slots.entered b j (move onto p now (opened (b j) p now)))) (slot_of i)
  moving-is b now (Preempt i p) =
      leaves-is k b (i / 8) (i % 8) (omega arith) Runnable p now
      ∙ ap (λ (j : ℕ). entered k (slots.entered b j (move off p now (closed (b j) Runnable now)))) (slot_of i)
  moving-is b now Rest = refl

  moving-all-is : (b : Book) (now : ℕ) (cs : List Choice)
      → page.moving_all (booked k b) now (map named cs) ≡ entered k (moved_all b now cs)
  unfolding page.moving_all moved_all
  moving-all-is b now [] = refl
  moving-all-is b now (c ∷ cs) =
      let e = slots.moved b now c in
      ap (λ (x : page.Entry). page.then x (λ a. page.moving_all a now (map named cs))) (moving-is b now c)
      ∙ then_is e (λ a. page.moving_all a now (map named cs)) (moved_all e.book now cs) (moving-all-is e.book now cs)

  offline-is : (b : Book) (d v now : ℕ) (small : v < 8) → let l = b (d * 8 + v) in
      page.offlining k (booked k b) d v now (booked k b d v).state
      ≡ noting k b d v small (offline_note l (full_mask k.pcpus) now l.state)
  offline-is b d v now small =
      let l = b (d * 8 + v) in
      offline_notes k b d v small now
      ∙ ap (λ (m : ℕ). noting k b d v small (offline_note l m now l.state)) (sym (full_is k sized.pcpus))

  -- the first n vCPUs of a domain
  offlining-all-is : (b : Book) (d now n : ℕ) → n ≤ 8
      → page.offlining_all k (booked k b) d now n ≡ entered k (offline_lines (shape k) b d now n)
  unfolding page.offlining_all offline_lines
  offlining-all-is b d now zero l = refl
  offlining-all-is b d now (suc n) l =
      let e = offline_lines (shape k) b d now n in
      ap (λ (x : page.Entry). page.then x (λ a. page.offlining k a d n now (a d n).state))
      (offlining-all-is b d now n (omega arith))
      ∙ then_is e (λ a. page.offlining k a d n now (a d n).state) _ (offline-is e.book d n now (omega arith))

  asking-is : (b : Book) (d v : ℕ) (q : Request)
      → page.asking k (booked k b) d v q
      ≡ entered k (cond (reaches q k.pcpus) (slots.identified (shape k) b d v (slots.note_of (shape k) b (d * 8 + v) q)) (slots.unwritten 3 b))
  asking-is b d v Request.Admit = asked_is b d v slots.admit_note (λ l. admit_notes k b d v l)
  asking-is b d v (Request.Run p now) = go (ltb p k.pcpus)
    where
      busy : Bool
      busy = somebody (page.holder k (booked k b) p)

      note : Bool → Note
      note t = slots.run_note (b (d * 8 + v)) p t now (b (d * 8 + v)).state

      dispatched : page.Entry
      dispatched = page.asked k (booked k b) d v (page.dispatching (booked k b) d v p now busy (booked k b d v).state)

      go : (t : Bool) → cond t dispatched (page.refused 3 (booked k b))
          ≡ entered k (cond t (slots.identified (shape k) b d v (note (some (slots.holder (shape k) b p)))) (slots.unwritten 3 b))
      go true =
          asked_is b d v (λ l. slots.run_note l p busy now) (λ l. run_notes k b d v l p now busy)
          ∙ ap (λ (t : Bool). entered k (slots.identified (shape k) b d v (note t))) (busy-is k b sized.vcpus p)
      go false = refl
  asking-is b d v (Request.Preempt now) = asked_is b d v (λ l. slots.preempt_note l now) (λ l. preempt_notes k b d v l now)
  asking-is b d v (Request.Block now) = asked_is b d v (λ l. slots.block_note l now) (λ l. block_notes k b d v l now)
  asking-is b d v Request.Wake = asked_is b d v slots.wake_note (λ l. wake_notes k b d v l)
  asking-is b d v (Request.SetAffinity m) =
      let n : min k.pcpus 64 ≡ k.pcpus = omega (arith, sized.pcpus) in
      let l = b (d * 8 + v) in
      asked_is b d v (λ l. slots.mask_note l (m % 2 ^ k.pcpus)) (λ s. mask_notes k b d v s (m % 2 ^ k.pcpus))
      ∙ ap (λ (x : ℕ). entered k (slots.identified (shape k) b d v (slots.mask_note l (m % 2 ^ x) l.state))) (sym n)
  asking-is b d v (Request.Offline now) = asked_is b d v (λ l. offline_note l (full_mask k.pcpus) now) (λ l. offline-is b d v now l)

  pub enter-is : (b : Book) (c : Call) (ms : List Choice)
      → page.enter k (booked k b) c (map named ms) ≡ entered k (slots.enter (shape k) b c ms)
  unfolding page.enter page.offlining_all slots.enter
  enter-is b (Call.Ask d v q) ms = asking-is b d v q
  enter-is b (Call.OfflineAll d now) ms = go (ltb d k.domains)
    where
      go : (t : Bool)
          → page.offlining_all k (booked k b) d now (cond t k.vcpus 0)
          ≡ entered k (cond t (offline_lines (shape k) b d now k.vcpus) (slots.unwritten 0 b))
      go true = offlining-all-is b d now k.vcpus sized.vcpus
      go false = refl
  enter-is b (Call.SetWeight d v w) ms = refl
  enter-is b (Call.SetWakeBoost on) ms = refl
  enter-is b (Call.Advance now) ms = moving-all-is b now ms

  -- ---- along a list

  pub entry-is : (h : Host) (b : Book) (c : Call) → mine.entry k h (booked k b) c ≡ entered k (lists.entry_of service_machine (shape k) h b c)
  entry-is h b c =
      ap (λ (r : steps.Step). page.enter k (booked k b) c r.moves) (sym (step_is h c)) ∙ enter-is b c (host.step h c).moves

  pub book-from-is : (cs : List Call) (h : Host) (b : Book)
      → mine.book_from k h (booked k b) cs ≡ booked k (lists.book_after service_machine (shape k) h b cs)
  unfolding mine.book_from lists.book_after
  book-from-is [] h b = refl
  book-from-is (c ∷ cs) h b =
      ap₂ (λ (r : steps.Step) (e : page.Entry). mine.book_from k r.host e.book cs) (sym (step_is h c)) (entry-is h b c)
      ∙ book-from-is cs (host.step h c).host (lists.entry_of service_machine (shape k) h b c).book

  pub moves-from-is : (cs : List Call) (h : Host) (b : Book)
      → mine.moves_from k h (booked k b) cs ≡ map dated (lists.moves_after service_machine (shape k) h b cs)
  unfolding mine.moves_from lists.moves_after
  moves-from-is [] h b = refl
  moves-from-is (c ∷ cs) h b =
      let e = lists.entry_of service_machine (shape k) h b c in
      ap₂ (λ (r : steps.Step) (e : page.Entry). e.moves ++ mine.moves_from k r.host e.book cs) (sym (step_is h c))
      (entry-is h b c)
      ∙ (ap (λ (ms : List page.Dated). map dated e.moves ++ ms) (moves-from-is cs (host.step h c).host e.book)
      ∙ sym (map-append dated e.moves (lists.moves_after service_machine (shape k) (host.step h c).host e.book cs)))
