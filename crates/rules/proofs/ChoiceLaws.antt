-- Laws of the choice, under any rule. What stands above goes by these. Assumes nothing.
use Rattle.std.specs.Prelude.{ℕ, ◌≤◌, ◌<◌, Bool, ◌≡◌}
use Rattle.std.proofs.Math.Bool.{true, false, not}
use Rattle.std.proofs.lemmas.Bool.{false≢true}
use Rattle.std.proofs.Math.Path.{refl, sym, subst}
use Rattle.std.proofs.Common.{◌∙◌, ap, arith}
use borrow.Author.Tests.{ltb-true, lt-ltb, leb-true, le-leb, not-true}
use Rattle.scans.specs.Booleans.{both, all_two}
use Rattle.system.specs.declared.RunState.{RunState}
use Rattle.system.specs.declared.RunState.TheVariants.{Offline, Runnable, Running, Blocked}
use Rattle.system.specs.declared.System.{System}
use Rattle.system.specs.Records.{elapsed}
use Rattle.system.specs.Reads.{vcpu_at, is_idle, is-idle, state_at, last_at, admits}
use Rattle.system.specs.Slots.{pcpus, Present, slots, is-present, present-is}
use Rattle.system.specs.States.{onto, is_runnable, is-runnable}
use Rattle.sched.specs.CanRun.{CanRun}
use Rattle.moves.specs.declared.Choice.TheVariants.{Run, Preempt, Rest}
use Rattle.scans.specs.Scan.{Ranks}
use Rattle.moves.specs.Decide.{placement}
use Rattle.moves.specs.DecideLaws.{Fits, Beats, IsRun, run_fits, run-placed, run-found, preempt-beaten, rest-unbeaten}
use Rattle.moves.specs.BackToLast.{placed_back, decide-by-lowest}
use Rattle.moves.specs.DecideLaws.{placement-last, placement-lowest, pick-least, pick-earliest, victim_worst, victim-earliest}
use Rattle.rules.specs.Rules.{Rule, beats}
use Rattle.rules.specs.Choices.{is_expired, standings, choice, choice_by_lowest}
use Rattle.rules.specs.ChoiceLaws.{CanPreempt, Rival, Placeable, Preemptible, Waits}

-- ---- what the standings say, in these terms

module _ (s : System) (ρ : Rule) (now : ℕ) where
  waits-is : (i : ℕ) → i < slots s → (standings s ρ now).waits i ≡ true → Waits s ρ now i
  unfolding standings
  waits-is i l e =
      let w = both _ _ e in
      let u = both _ _ w.1 in
      record { present = is-present s i l w.0; ready = is-runnable _ u.0; unbarred = not-true _ u.1 }

  is-waits : (i : ℕ) → Waits s ρ now i → (standings s ρ now).waits i ≡ true
  unfolding standings
  is-waits i w = all_two (present-is w.present).1 (all_two (ap is_runnable w.ready) (ap not w.unbarred))

  fits-can : (i p : ℕ) → i < slots s → Fits (standings s ρ now) i p → CanRun s i p
  unfolding standings
  fits-can i p l f =
      let w = waits-is i l f.waits in
      let d = both _ _ f.idle in
      record {
        present = w.present;
        ready = w.ready;
        exists = ltb-true _ _ d.0;
        free = is-idle _ d.1;
        affine = f.admits;
      }

  can-fits : (i p : ℕ) → CanRun s i p → ρ.barred s now i ≡ false → Fits (standings s ρ now) i p
  unfolding standings
  can-fits i p c u =
      let x = c.exists in
      record {
        waits = is-waits i (record { present = c.present; ready = c.ready; unbarred = u });
        word = omega arith;
        idle = all_two (lt-ltb p (pcpus s) x) (ap is_idle c.free);
        admits = c.affine;
      }

  expired-can : (i : ℕ) → i < slots s → (standings s ρ now).expired i ≡ true → CanPreempt s ρ now i (onto (state_at s i))
  unfolding standings
  expired-can i l h = let e = both _ _ h in late (state_at s i) refl (is-present s i l e.0) e.1
    where
      late : (st : RunState) → state_at s i ≡ st → Present s i → is_expired ρ.slice (elapsed (vcpu_at s i) now) st ≡ true
          → CanPreempt s ρ now i (onto st)
      late Offline r h x = absurd (false≢true x)
      late Runnable r h x = absurd (false≢true x)
      late (Running q) r h x = record { present = h; on = r; late = leb-true _ _ x }
      late Blocked r h x = absurd (false≢true x)

  pub can-expired : (i p : ℕ) → CanPreempt s ρ now i p → (standings s ρ now).expired i ≡ true
  unfolding standings
  can-expired i p c =
      all_two (present-is c.present).1 (ap (is_expired ρ.slice (elapsed (vcpu_at s i) now)) c.on ∙ le-leb _ _ c.late)

  beats-rival : (i j : ℕ) → Beats (standings s ρ now) (slots s) i j → Rival s ρ now i (onto (state_at s i)) j
  unfolding standings
  beats-rival i j b =
      let w = waits-is j b.below b.waits in
      record { present = w.present; ready = w.ready; unbarred = w.unbarred; affine = b.admits; wins = b.wins }

  rival-beats : (i p j : ℕ) → CanPreempt s ρ now i p → Rival s ρ now i p j → Beats (standings s ρ now) (slots s) i j
  unfolding standings
  rival-beats i p j c r =
      record {
        below = (present-is r.present).0;
        waits = is-waits j (record { present = r.present; ready = r.ready; unbarred = r.unbarred });
        admits = rw (ap onto c.on) r.affine;
        wins = r.wins;
      }

  -- ---- the laws

  -- a Run is of one that may be dispatched there
  pub choice-run : (i p : ℕ) → choice s ρ now ≡ Run i p → CanRun s i p
  unfolding choice
  choice-run i p e = let f = run_fits (standings s ρ now) (slots s) i p e in fits-can i p f.0 f.1

  -- who is not barred
  pub choice-unbarred : (i p : ℕ) → choice s ρ now ≡ Run i p → ρ.barred s now i ≡ false
  unfolding choice
  choice-unbarred i p e = let f = run_fits (standings s ρ now) (slots s) i p e in (waits-is i f.0 f.1.waits).unbarred

  -- and there is one if anybody who is not barred may be dispatched anywhere
  pub choice_complete : (i p : ℕ) → CanRun s i p → ρ.barred s now i ≡ false → IsRun (choice s ρ now)
  unfolding choice
  choice_complete i p c u = run-found (standings s ρ now) (slots s) i p (present-is c.present).0 (can-fits i p c u)

  -- Onto which pCPU: the one that it was last on exactly where it may be dispatched there, else the lowest-numbered that it may be
  -- dispatched onto. These laws stand apart: no other says which pCPU it is, and all others hold of any that it may be dispatched onto.
  pub choice-back : (i p : ℕ) → choice s ρ now ≡ Run i p → CanRun s i (last_at s i) → p ≡ last_at s i
  unfolding choice standings
  choice-back i p e c =
      sym (run-placed (standings s ρ now) (slots s) i p e)
      ∙ placement-last (standings s ρ now) i (can-fits i (last_at s i) c (choice-unbarred i p e))

  pub choice-lowest : (i p q : ℕ) → choice s ρ now ≡ Run i p → (CanRun s i (last_at s i) → ⊥) → CanRun s i q → p ≤ q
  unfolding choice standings
  choice-lowest i p q e n c =
      subst (λ (k : ℕ). k ≤ q) (run-placed (standings s ρ now) (slots s) i p e)
      (placement-lowest (standings s ρ now) i q (λ f. n (fits-can i (last_at s i) (present-is c.present).0 f))
      (can-fits i q c (choice-unbarred i p e)))

  -- in nothing but that pCPU is the choice other than upstream's
  pub choice-by-lowest : choice s ρ now ≡ placed_back (standings s ρ now) (choice_by_lowest s ρ now)
  unfolding choice choice_by_lowest
  choice-by-lowest = decide-by-lowest (standings s ρ now) (slots s)

  -- a Preempt is of a runner past its slice
  pub choice-preempt : (i p : ℕ) → choice s ρ now ≡ Preempt i p → CanPreempt s ρ now i p
  unfolding choice standings
  choice-preempt i p e =
      let k = preempt-beaten (standings s ρ now) (slots s) i p e in
      subst (CanPreempt s ρ now i) k.on (expired-can i k.below k.expired)

  -- and who is preempted has a rival
  pub choice-beaten : (i p : ℕ) → choice s ρ now ≡ Preempt i p → (j : ℕ) × Rival s ρ now i p j
  unfolding choice standings
  choice-beaten i p e =
      let k = preempt-beaten (standings s ρ now) (slots s) i p e in
      (k.by, subst (λ (q : ℕ). Rival s ρ now i q k.by) k.on (beats-rival i k.by k.beats))

  -- at rest no runner past its slice has one
  pub choice-unbeaten : (i p j : ℕ) → choice s ρ now ≡ Rest → CanPreempt s ρ now i p → Present s j → state_at s j ≡ Runnable
      → ρ.barred s now j ≡ false → admits s j p ≡ true → beats ρ s now j i ≡ false
  unfolding choice
  choice-unbeaten i p j e c h r u a = go (beats ρ s now j i) refl
    where
      go : (b : Bool) → beats ρ s now j i ≡ b → b ≡ false
      go false x = refl
      go true x =
          absurd
          (rest-unbeaten (standings s ρ now) (slots s) i j e (present-is c.present).0 (can-expired i p c)
          (rival-beats i p j c (record { present = h; ready = r; unbarred = u; affine = a; wins = x })))

  -- where those that may be dispatched are ranked, none of them deserves it more than who is; the earliest is, of those that
  -- deserve it alike
  module _ (R : Ranks (Placeable s ρ now) (beats ρ s now)) (i p j q : ℕ) (e : choice s ρ now ≡ Run i p) (c : CanRun s j q)
      (u : ρ.barred s now j ≡ false) where
    placeable : (k : ℕ) → k < slots s → Fits (standings s ρ now) k (placement (standings s ρ now) k) → Placeable s ρ now k
    placeable k l f = record { onto = _; can = fits-can k _ l f; unbarred = (waits-is k l f.waits).unbarred }

    pub choice-least : beats ρ s now j i ≡ false
    unfolding choice standings
    choice-least =
        pick-least (standings s ρ now) (slots s) R placeable i p j q e (present-is c.present).0 (can-fits j q c u)

    pub choice-earliest : j < i → beats ρ s now i j ≡ true
    unfolding choice standings
    choice-earliest l = pick-earliest (standings s ρ now) (slots s) R placeable i p j q e l (can-fits j q c u)

  -- where those that may be preempted are ranked, none of them deserves its pCPU less than who is; the earliest is, of those
  -- that deserve it alike
  module _ (R : Ranks (Preemptible s ρ now) (beats ρ s now)) (i p j q k : ℕ) (e : choice s ρ now ≡ Preempt i p) (c : CanPreempt s ρ now j q)
      (r : Rival s ρ now j q k) where
    preemptible : (x y : ℕ) → x < slots s → (standings s ρ now).expired x ≡ true → Beats (standings s ρ now) (slots s) x y
        → Preemptible s ρ now x
    preemptible x y l h b = record { on = _; can = expired-can x l h; by = y; rival = beats-rival x y b }

    pub choice_worst : beats ρ s now i j ≡ false
    unfolding choice standings
    choice_worst =
        victim_worst (standings s ρ now) (slots s) R preemptible i p j k e (present-is c.present).0 (can-expired j q c)
        (rival-beats j q k c r)

    pub choice_worst_earliest : j < i → beats ρ s now j i ≡ true
    unfolding choice standings
    choice_worst_earliest l =
        victim-earliest (standings s ρ now) (slots s) R preemptible i p j k e l (can-expired j q c) (rival-beats j q k c r)
