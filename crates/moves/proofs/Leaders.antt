-- What the leaders of the two scans say of the decision. Assumes nothing.
use Prim.Native.Nat.{ℕ, ◌<◌}
use mathlib.Core.Bool.{false, cond, false≢true, and-false}
use mathlib.Core.Path.{◌≡◌, refl, sym, ◌∙◌, ap}
use mathlib.Core.List.{List}
use native.Mathlib.Nat.{zero-div}
use Rattle.std.specs.Prelude.{Option, Some, None}
use Rattle.masks.specs.Masks.{permits}
use Rattle.moves.specs.declared.Choice.TheVariants.{Run, Preempt, Rest}
use Rattle.moves.specs.declared.Leader.{Leader}
use Rattle.moves.specs.declared.Row.{Row}
use Rattle.scans.specs.Scan.{Pick, nobody, at, scan-sound}
use Rattle.moves.specs.Decide.{usable, placement, placeable, beaten, loses, chosen, victim, decide}
use Rattle.moves.specs.DecideLaws.{placeable-fits}
use Rattle.moves.specs.Table.{row_at, tabled}
use Rattle.moves.specs.Leads.{Leads, LeadsChosen, LeadsVictim}

-- nobody leads
pub none-found : (t : List Row) (on : ℕ → ℕ) (r : Pick) (o : Option Leader) → ((l : Leader) → o ≡ Some l → ⊥) → Leads t on r o → r ≡ nobody
none-found t on r None n e = e
none-found t on r (Some l) n e = absurd (n l refl)

-- the empty set has no pCPU
none-permitted : (p : ℕ) → permits 0 p ≡ false
none-permitted p = rw (zero-div, and-false)

module _ (t : List Row) where
  -- nobody is chosen where no pCPU is idle
  pub none-idle : (n : ℕ) → chosen (tabled t 0) n ≡ nobody
  unfolding chosen tabled
  none-idle n = go (chosen (tabled t 0) n) refl
    where
      go : (r : Pick) → chosen (tabled t 0) n ≡ r → r ≡ nobody
      go nobody e = refl
      go (at i) e =
          let s = tabled t 0 in
          let f = scan-sound (placeable s) s.beats n i e in
          absurd (false≢true (sym (none-permitted (placement s i)) ∙ (placeable-fits s i f.1).idle))

  module _ (idle n : ℕ) where
    -- whoever leads is a slot below n
    pub leads-below : (l : Leader) → LeadsChosen t idle n (Some l) → l.at < n
    unfolding chosen
    leads-below l (r, h) = (scan-sound (placeable (tabled t idle)) (tabled t idle).beats n l.at r).0

    -- and goes back onto its last pCPU where it can
    pub ran : (l : Leader) (p : ℕ) → LeadsChosen t idle n (Some l)
        → (let last = (row_at t l.at).last in p ≡ cond (usable (tabled t idle) l.at last) last l.pcpu)
        → Run l.at p ≡ decide (tabled t idle) n
    unfolding decide tabled placement
    ran l p (r, h) b =
        let i = l.at in
        let last = (row_at t i).last in
        let u = usable (tabled t idle) i last in
        rw r (ap (Run i) (b ∙ ap (λ (q : ℕ). cond u last q) h.placed))

    -- whom to preempt does not depend on what is idle
    victim-same : victim (tabled t 0) n ≡ victim (tabled t idle) n
    unfolding victim loses beaten tabled
    victim-same = refl

    module _ (nobody-runs : chosen (tabled t idle) n ≡ nobody) where
      pub stopped : (l : Leader) → LeadsVictim t n (Some l) → Preempt l.at l.pcpu ≡ decide (tabled t idle) n
      unfolding decide tabled
      stopped l (r, h) = rw (nobody-runs, ← victim-same, r) (ap (Preempt l.at) h.placed)

      pub rested : LeadsVictim t n None → Rest ≡ decide (tabled t idle) n
      unfolding decide
      rested r = rw (nobody-runs, ← victim-same, r)
