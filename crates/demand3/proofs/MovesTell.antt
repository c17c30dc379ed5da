-- At every point of every list of calls the dated moves tell who holds which pCPU since when. Assumes nothing.
use Prim.Native.Nat.{ℕ}
use mathlib.Core.Path.{◌≡◌, refl, sym, ◌∙◌, ap, subst}
use mathlib.Core.List.{List, [], ◌∷◌, ◌++◌, append_assoc}
use Rattle.calls.specs.declared.Call.{Call}
use Rattle.sched.proofs.Laws.{off_nr}
use Rattle.demand3.specs.Machine.{Machine}
use Rattle.demand3.specs.Lawful.{Lawful}
use Rattle.demand3.specs.Dated.{Dated}
use Rattle.demand3.specs.Book.{Book, Shape, blank_book}
use Rattle.demand3.specs.Lists.{after_all, entry_of, book_after, moves_after}
use Rattle.demand3.specs.Fresh.{first_host}
use Rattle.demand3.specs.Holding.{Hold, free, holding, Turns, AllWithin, MovesTell, EveryPointTells}
use Rattle.demand3.specs.Holding.{EveryFreshTells}
use Rattle.demand3.specs.Holding as moves
use Rattle.demand3.proofs.EveryCall.{Kept, step-goes, after_kept}
use Rattle.demand3.proofs.ServiceMachine.{service_lawful}
use Rattle.demand3.proofs.FreshHost.{fresh_kept}
use Rattle.demand3.proofs.Entering.{call_enters}
use Rattle.demand3.proofs.Made.{made-clocks, made-within, within-then}
use Rattle.demand3.proofs.Tracked.{Tracks, tracks-holding, in_step-tracks, Turned, made-turned, turns_then, turns-last}

pub moves-append : (M : Machine) (k : Shape) (xs ys : List Call) (h : M.Host) (b : Book)
    → moves_after M k h b (xs ++ ys) ≡ moves_after M k h b xs ++ moves_after M k (after_all M h xs) (book_after M k h b xs) ys
unfolding after_all book_after moves_after
moves-append M k [] ys h b = refl
moves-append M k (x ∷ xs) ys h b =
    let e = entry_of M k h b x in
    ap (λ (ms : List Dated). e.moves ++ ms) (moves-append M k xs ys _ _) ∙ sym (append_assoc e.moves _ _)

-- in a blank book every pCPU is free
blank-tracks : (k : Shape) → Tracks k (blank_book k) (λ p. free)
blank-tracks k = record { on = λ i p x e. absurd (off_nr p e); off = λ p v. refl }

module _ {M : Machine} (L : Lawful M) where
  after-turned : {k : Shape} {H : ℕ → Hold} (cs : List Call) (h : M.Host) (b : Book) → Kept M k b h → Tracks k b H
      → Turned k H (moves_after M k h b cs) (book_after M k h b cs)
  unfolding book_after moves_after
  after-turned {H = H} [] h b K T = record { ends = H; tracks = T; turns = λ p. moves.done }
  after-turned {H = H} (c ∷ cs) h b K T =
      let r = made-turned (call_enters L c K).made T in
      let s = after-turned {H = r.ends} cs _ _ (step-goes L c K).kept r.tracks in
      record { ends = s.ends; tracks = s.tracks; turns = λ p. turns_then (r.turns p) (s.turns p) }

  after-within : {k : Shape} (cs : List Call) (h : M.Host) (b : Book) → Kept M k b h
      → AllWithin k.pcpus (moves_after M k h b cs)
  unfolding moves_after
  after-within [] h b K = tt
  after-within {k} (c ∷ cs) h b K =
      within-then k.pcpus (entry_of M k h b c).moves _ (made-within (call_enters L c K).made)
      (after-within cs _ _ (step-goes L c K).kept)

  tells-from : {k : Shape} {H : ℕ → Hold} (b : Book) (h : M.Host) → Kept M k b h → Tracks k b H → (cs : List Call)
      → MovesTell M k H (after_all M h cs) (book_after M k h b cs) (moves_after M k h b cs)
  tells-from {k} {H} b h K T cs =
      record {
        last = λ p. turns-last (turns p);
        turns = turns;
        within = after-within cs h b K;
        clocks = λ c. made-clocks (call_enters L c point).made;
        refused = λ c. (call_enters L c point).spared;
      }
    where
      point : Kept M k (book_after M k h b cs) (after_all M h cs)
      point = after_kept L cs h b K

      turns : (p : ℕ) → Turns p (H p) (moves_after M k h b cs) (holding k (book_after M k h b cs) p)
      turns p =
          let t = after-turned cs h b K T in
          subst (Turns p (H p) (moves_after M k h b cs)) (tracks-holding t.tracks p) (t.turns p)

  pub machine_tells : EveryPointTells M
  machine_tells k b h T cs = tells-from b h (record { in_step = T }) (in_step-tracks T) cs

pub moves-tell : EveryFreshTells
moves-tell f cs = tells-from service_lawful (blank_book f.shape) (first_host f) (fresh_kept f) (blank-tracks f.shape) cs
