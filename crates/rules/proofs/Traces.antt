-- Under any rule whose slice is at least 1, settling makes at most two moves a pCPU and ends where no move is left, so that nobody
-- who is not barred waits beside an idle pCPU that its mask admits. Assumes nothing.
use Prim.Native.Nat.{ℕ, zero, suc, ◌+◌, ◌*◌, ◌≤◌, ◌<◌}
use mathlib.Core.Path.{◌≡◌, refl, sym, ◌∙◌, ap}
use mathlib.Core.Bool.{cond, false}
use mathlib.Core.Logic.{◌⊎◌, inl, inr}
use mathlib.Core.List.{List, [], ◌∷◌}
use native.Mathlib.Omega.{arith}
use native.Mathlib.Decide.{ℕ_discrete}
use lib.Dec.{eqb}
use lib.ListN.{length}
use borrow.Author.Tests.{eq-eqb, ne_eqb}
use Rattle.scans.specs.Booleans.{zero_one}
use Rattle.system.specs.declared.VirtualCpu.{VirtualCpu}
use Rattle.system.specs.declared.Occupant.{Occupant}
use Rattle.system.specs.declared.System.{System}
use Rattle.system.specs.Reads.{vcpu_at, occupant_at, pooled}
use Rattle.system.specs.Writes.{Tables, Wrote}
use Rattle.system.specs.Slots.{pcpus}
use Rattle.system.specs.States.{schedulable}
use Rattle.verdict.specs.Sound.{Sound}
use Rattle.changes.specs.Records.{dispatched, left}
use Rattle.sched.specs.CanRun.{CanRun}
use Rattle.sched.specs.Invariants.{Keeps}
use Rattle.sched.proofs.Laws.{unchanged, and_then}
use Rattle.moves.specs.declared.Choice.{Choice}
use Rattle.moves.specs.declared.Choice.TheVariants.{Run, Preempt, Rest}
use Rattle.rules.specs.Settle.{enacted, Settled, with_move, go_on, settle, moves_on, limit}
use Rattle.rules.specs.Rules.{Rule}
use Rattle.rules.specs.Choices.{choice}
use Rattle.rules.proofs.ChoiceLaws.{choice-run, choice_complete}
use Rattle.rules.specs.Due.{IsDue, TakenOff, chosen}
use Rattle.rules.proofs.DueLaws.{chosen-due}
use Rattle.rules.proofs.OneMove.{run-wrote, run-keeps, preempt-wrote, preempt-keeps}
use Rattle.rules.proofs.Potential.{potential, potentials, potential_le, potentials_le, Drops, drops_sum, run_drops, preempt_drops}

-- Moves made one after another: each is called for where it is made, and may be made.
pub data Trace (ρ : Rule) (now : ℕ) : System → List Choice → System → Type 0 where
  rest : {s : System} → Trace ρ now s [] s
  run : {s t : System} {i p : ℕ} {cs : List Choice} → choice s ρ now ≡ Run i p → CanRun s i p
      → Trace ρ now (enacted s now (Run i p)).system cs t → Trace ρ now s (Run i p ∷ cs) t
  preempt : {s t : System} {i p : ℕ} {cs : List Choice} → TakenOff s ρ now i p → IsDue s ρ now i p
      → Trace ρ now (enacted s now (Preempt i p)).system cs t → Trace ρ now s (Preempt i p ∷ cs) t

-- what settling gives is such a trace
pub settle-trace : (ρ : Rule) (now k : ℕ) (s : System) → Trace ρ now s (settle ρ now k s).moves (settle ρ now k s).system
unfolding settle
settle-trace ρ now zero s = rest
settle-trace ρ now (suc k) s = go (choice s ρ now) refl (λ t. settle-trace ρ now k t)
  where
    go : (c : Choice) → choice s ρ now ≡ c → ((t : System) → Trace ρ now t (settle ρ now k t).moves (settle ρ now k t).system)
        → Trace ρ now s (go_on (λ t. settle ρ now k t) s now c).moves (go_on (λ t. settle ρ now k t) s now c).system
    go (Run i p) e ih = run e (choice-run s ρ now i p e) (ih _)
    go (Preempt i p) e ih = preempt (chosen e) (chosen-due s ρ now i p e) (ih _)
    go Rest e ih = rest

module _ {ρ : Rule} {now : ℕ} where
  pub trace-keeps : {s t : System} {cs : List Choice} → Trace ρ now s cs t → Tables s → Sound s → Keeps s t
  trace-keeps rest t S = unchanged S
  trace-keeps (run {s} {i = i} {p = p} e c r) t S =
      let k = run-keeps s now i p t S c in
      and_then k (trace-keeps r (k.shape.tables t) k.sound)
  trace-keeps (preempt {s} {i = i} {p = p} e c r) t S =
      let k = preempt-keeps s now i p t S c.present in
      and_then k (trace-keeps r (k.shape.tables t) k.sound)

  -- each move takes one off the potential
  trace-potential : {s t : System} {cs : List Choice} → Trace ρ now s cs t → 1 ≤ ρ.slice → Tables s → Sound s
      → length cs + potentials t ρ now ≡ potentials s ρ now
  trace-potential rest h t S = omega arith
  trace-potential (run {s} {i = i} {p = p} e c r) h t S =
      let k = run-keeps s now i p t S c in
      omega (arith, trace-potential r h (k.shape.tables t) k.sound, drops_sum (run_drops s ρ now i p t S h c))
  trace-potential (preempt {s} {i = i} {p = p} e c r) h t S =
      let k = preempt-keeps s now i p t S c.present in
      omega (arith, trace-potential r h (k.shape.tables t) k.sound, drops_sum (preempt_drops s ρ now i p t S c))

  pub trace-few : {s t : System} {cs : List Choice} → Trace ρ now s cs t → 1 ≤ ρ.slice → Tables s → Sound s → length cs ≤ 2 * pcpus s
  trace-few {s} r h t S = omega (arith, trace-potential r h t S, potentials_le s ρ now)

  -- and one off that of its pCPU
  drops_on : {s s' : System} {p : ℕ} → Drops s s' ρ now p → (q : ℕ) → q < pcpus s → cond (eqb p q) 1 0 + potential s' ρ now q ≡ potential s ρ now q
  drops_on {s} {s'} {p} c q l = go (ℕ_discrete p q)
    where
      go : Dec (p ≡ q) → cond (eqb p q) 1 0 + potential s' ρ now q ≡ potential s ρ now q
      go (yes e) = rw (← e, eq-eqb p p refl) (omega (arith, c.here))
      go (no n) = rw (ne_eqb p q n) (omega (arith, c.there q l (λ f. n (sym f))))

  trace-potential-on : {s t : System} {cs : List Choice} (q : ℕ) → q < pcpus s → Trace ρ now s cs t → 1 ≤ ρ.slice → Tables s → Sound s
      → moves_on q cs + potential t ρ now q ≡ potential s ρ now q
  unfolding moves_on
  trace-potential-on q l rest h t S = omega arith
  trace-potential-on q l (run {s} {i = i} {p = p} e c r) h t S =
      let k = run-keeps s now i p t S c in
      let x = run_drops s ρ now i p t S h c in
      omega (arith, drops_on x q l, trace-potential-on q (omega (arith, x.pcpus)) r h (k.shape.tables t) k.sound)
  trace-potential-on q l (preempt {s} {i = i} {p = p} e c r) h t S =
      let k = preempt-keeps s now i p t S c.present in
      let x = preempt_drops s ρ now i p t S c in
      omega (arith, drops_on x q l, trace-potential-on q (omega (arith, x.pcpus)) r h (k.shape.tables t) k.sound)

  pub trace-two : {s t : System} {cs : List Choice} (q : ℕ) → q < pcpus s → Trace ρ now s cs t → 1 ≤ ρ.slice → Tables s → Sound s → moves_on q cs ≤ 2
  unfolding potential
  trace-two {s} q l r h t S = omega (arith, trace-potential-on q l r h t S, potential_le s ρ now (occupant_at s q))

-- ---- moves change nobody's membership of the pool

wrote-pooled : {s s' : System} {i p : ℕ} {v : VirtualCpu} {o : Occupant} → Wrote s s' i v p o → schedulable v.state ≡ pooled s i
    → (j : ℕ) → pooled s' j ≡ pooled s j
wrote-pooled {s} {s'} {i} {p} {v} k h j = go (ℕ_discrete j i)
  where
    go : Dec (j ≡ i) → pooled s' j ≡ pooled s j
    go (yes e) = ap (λ (x : VirtualCpu). schedulable x.state) (ap (vcpu_at s') e ∙ k.here) ∙ (h ∙ ap (pooled s) (sym e))
    go (no n) = ap (λ (x : VirtualCpu). schedulable x.state) (k.there j n)

pub trace-pooled : {ρ : Rule} {now : ℕ} {s t : System} {cs : List Choice} → Trace ρ now s cs t → Tables s → Sound s → (j : ℕ) → pooled t j ≡ pooled s j
unfolding dispatched left
trace-pooled rest tb S j = refl
trace-pooled {now = now} (run {s} {i = i} {p = p} e c r) tb S j =
    let m = run-keeps s now i p tb S c in
    trace-pooled r (m.shape.tables tb) m.sound j ∙ wrote-pooled (run-wrote s now i p tb c) (sym (ap schedulable c.ready)) j
trace-pooled {now = now} (preempt {s} {i = i} {p = p} e c r) tb S j =
    let m = preempt-keeps s now i p tb S c.present in
    trace-pooled r (m.shape.tables tb) m.sound j ∙ wrote-pooled (preempt-wrote s now i p tb S c.present c.on) (sym (ap schedulable c.on)) j

-- ---- where settling ends

-- with any slice: at rest, or with as many moves made as may be; never more
pub settle-ends : (ρ : Rule) (now k : ℕ) (s : System)
    → (choice (settle ρ now k s).system ρ now ≡ Rest) ⊎ (length (settle ρ now k s).moves ≡ k)
unfolding settle
settle-ends ρ now zero s = inr refl
settle-ends ρ now (suc k) s = go (choice s ρ now) refl (λ t. settle-ends ρ now k t)
  where
    Ends : ℕ → Settled → Type 0
    Ends n r = (choice r.system ρ now ≡ Rest) ⊎ (length r.moves ≡ n)

    one_more : (r : Settled) (c : Choice) → Ends k r → Ends (suc k) (with_move c r)
    one_more r c (inl e) = inl e
    one_more r c (inr e) = inr (ap suc e)

    go : (c : Choice) → choice s ρ now ≡ c → ((t : System) → Ends k (settle ρ now k t)) → Ends (suc k) (go_on (λ t. settle ρ now k t) s now c)
    go (Run i p) e ih = let t = (enacted s now (Run i p)).system in one_more (settle ρ now k t) (Run i p) (ih t)
    go (Preempt i p) e ih = let t = (enacted s now (Preempt i p)).system in one_more (settle ρ now k t) (Preempt i p) (ih t)
    go Rest e ih = inl e

pub settle-most : (ρ : Rule) (now k : ℕ) (s : System) → length (settle ρ now k s).moves ≤ k
unfolding settle
settle-most ρ now zero s = omega arith
settle-most ρ now (suc k) s = go (choice s ρ now) (λ t. settle-most ρ now k t)
  where
    go : (c : Choice) → ((t : System) → length (settle ρ now k t).moves ≤ k)
        → length (go_on (λ t. settle ρ now k t) s now c).moves ≤ suc k
    go (Run i p) ih = omega (arith, ih (enacted s now (Run i p)).system)
    go (Preempt i p) ih = omega (arith, ih (enacted s now (Preempt i p)).system)
    go Rest ih = omega arith

-- with more fuel than potential, settling ends at rest
settle-rests : (ρ : Rule) (now k : ℕ) (s : System) → 1 ≤ ρ.slice → Tables s → Sound s → potentials s ρ now < k
    → choice (settle ρ now k s).system ρ now ≡ Rest
unfolding settle
settle-rests ρ now zero s h t S l = absurd (omega arith)
settle-rests ρ now (suc k) s h t S l = go (choice s ρ now) refl (λ u. settle-rests ρ now k u h)
  where
    go : (c : Choice) → choice s ρ now ≡ c
        → ((u : System) → Tables u → Sound u → potentials u ρ now < k → choice (settle ρ now k u).system ρ now ≡ Rest)
        → choice (go_on (λ u. settle ρ now k u) s now c).system ρ now ≡ Rest
    go (Run i p) e ih =
        let c = choice-run s ρ now i p e in
        let m = run-keeps s now i p t S c in
        ih _ (m.shape.tables t) m.sound (omega (arith, drops_sum (run_drops s ρ now i p t S h c)))
    go (Preempt i p) e ih =
        let c = chosen-due s ρ now i p e in
        let m = preempt-keeps s now i p t S c.present in
        ih _ (m.shape.tables t) m.sound (omega (arith, drops_sum (preempt_drops s ρ now i p t S c)))
    go Rest e ih = e

-- the fuel of an advance is enough
pub advance-rests : (ρ : Rule) (now : ℕ) (s : System) → 1 ≤ ρ.slice → Tables s → Sound s
    → choice (settle ρ now (limit s) s).system ρ now ≡ Rest
advance-rests ρ now s h t S = settle-rests ρ now (limit s) s h t S (omega (arith, potentials_le s ρ now))

-- at rest nobody who is not barred waits beside an idle pCPU that its mask admits
pub rest-quiet : (s : System) (ρ : Rule) (now i p : ℕ) → choice s ρ now ≡ Rest → CanRun s i p → ρ.barred s now i ≡ false → ⊥
rest-quiet s ρ now i p e c u = let r = choice_complete s ρ now i p c u in zero_one cc
