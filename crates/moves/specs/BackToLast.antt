-- What the pCPU that a vCPU was last on changes of a decision: where it is dispatched, and nothing else. Who is dispatched, who is
-- preempted, and whether anybody is, are as by the rule that upstream decides by, on any standings. Assumes nothing.
use Rattle.std.specs.Prelude.{ℕ, Bool, true, false, cond, ◌&&◌, ◌≡◌, refl, ltb}
use Rattle.std.proofs.Math.Bool.{and-false}
use Rattle.std.proofs.Common.{sym, ◌∙◌, ap, arith, lt-ltb}
use Rattle.scans.specs.Scan.{Pick, nobody, at, scan_cong}
use Rattle.moves.specs.declared.Choice.{Choice}
use Rattle.moves.specs.declared.Choice.TheVariants.{Run, Preempt, Rest}
use Rattle.moves.specs.Decide.{Standings, usable, first_idle_pcpu_for, placement, placeable, beaten, loses, chosen, victim}
use Rattle.moves.specs.Decide.{or_preempt, or_run, decide, by_lowest}
use Rattle.moves.specs.DecideLaws.{usable-word, first-lowest}

-- by upstream's rule a placement is the lowest-numbered idle pCPU that the mask admits
pub lowest-placement : (t : Standings) (i : ℕ) → placement (by_lowest t) i ≡ first_idle_pcpu_for t i
unfolding placement first_idle_pcpu_for
lowest-placement t i = rw (and-false (t.idle 64))

-- there is a placement exactly where there is one by that rule
pub placement-exists : (t : Standings) (i : ℕ) → ltb (placement t i) 64 ≡ ltb (placement (by_lowest t) i) 64
unfolding placement
placement-exists t i = go (usable t i (t.last i)) refl ∙ ap (λ (p : ℕ). ltb p 64) (sym (lowest-placement t i))
  where
    go : (b : Bool) → usable t i (t.last i) ≡ b → ltb (cond b (t.last i) (first_idle_pcpu_for t i)) 64 ≡ ltb (first_idle_pcpu_for t i) 64
    go true e =
        let l = usable-word t i (t.last i) e in
        lt-ltb (t.last i) 64 l ∙ sym (lt-ltb (first_idle_pcpu_for t i) 64 (omega (arith, first-lowest t i (t.last i) e)))
    go false e = refl

-- whoever is dispatched goes where it is placed; whoever is preempted comes off where it runs
abbrev pub placed_back : Standings → Choice → Choice
placed_back t (Run i p) = Run i (placement t i)
placed_back t (Preempt i p) = Preempt i p
placed_back t Rest = Rest

-- so is every decision, of what is decided by that rule
pub decide-by-lowest : (t : Standings) (n : ℕ) → decide t n ≡ placed_back t (decide (by_lowest t) n)
unfolding decide chosen placeable victim loses beaten
decide-by-lowest t n = ap (λ r. or_run t r (or_preempt t (victim t n))) same ∙ go (chosen (by_lowest t) n) (victim t n)
  where
    same : chosen t n ≡ chosen (by_lowest t) n
    same =
        scan_cong (placeable t) (placeable (by_lowest t)) t.beats t.beats n
        (λ i l. ap (λ (b : Bool). t.waits i && b) (placement-exists t i)) (λ i j a b c d. refl)

    go : (r q : Pick) → or_run t r (or_preempt t q) ≡ placed_back t (or_run (by_lowest t) r (or_preempt (by_lowest t) q))
    go (at i) q = refl
    go nobody (at i) = refl
    go nobody nobody = refl
