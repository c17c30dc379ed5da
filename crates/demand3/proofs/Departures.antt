-- A departure: whoever is left in the pool is as before. Assumes nothing.
use Rattle.std.specs.Prelude.{Result, Ok, Err}
use Prim.Native.Nat.{ℕ, zero, suc, ◌≤◌, ◌<◌}
use mathlib.Core.Bool.{false, false≢true}
use mathlib.Core.Path.{◌≡◌, refl, sym, ◌∙◌, ap, subst}
use native.Mathlib.Omega.{arith}
use native.Mathlib.Decide.{ℕ_discrete}
use Rattle.masks.specs.Masks.{full_mask}
use Rattle.system.specs.declared.RunState.{RunState}
use Rattle.system.specs.declared.RunState.TheVariants.{Offline, Runnable, Running, Blocked}
use Rattle.system.specs.declared.VirtualCpu.{VirtualCpu}
use Rattle.system.specs.declared.Occupant.{Occupant}
use Rattle.system.specs.declared.System.{System}
use Rattle.system.specs.declared.Answer.{Answer}
use Rattle.system.specs.Answers.{SystemOutcome}
use Rattle.system.specs.Reads.{vcpu_at, full_affinity, state_at}
use Rattle.system.specs.Writes.{Tables, SameShape, shape-refl, shape-trans, Wrote, present-back, present-on}
use Rattle.system.specs.Writes.{same-pcpus}
use Rattle.system.specs.Slots.{domains, vcpus, slot, Present}
use Rattle.system.specs.States.{schedulable}
use Rattle.verdict.specs.Sound.{Sound}
use Rattle.calls.specs.declared.Request.{Request}
use Rattle.changes.specs.declared.Change.{Change}
use Rattle.changes.specs.declared.Change.TheVariants.{Write, Enter, Leave}
use Rattle.changes.specs.Records.{left}
use Rattle.sched.specs.Steps.{requested, offline_first, offline_all}
use Rattle.sched.proofs.Laws.{Legal, stays, keeps, busy, goes_on, goes_off, requested_case, offline-all_case}
use Rattle.sched.proofs.Laws.{made_legal, first-keeps}
use Rattle.changes.specs.Changes.{blocked, offlined, changed}
use Rattle.demand3.proofs.Lag.{Pool, Lag}

pub record Shrinks (s s' : System) : Type 0 where
  pub shape : SameShape s s'
  pub same : (j : ℕ) → Present s' j → Pool (state_at s' j) → vcpu_at s' j ≡ vcpu_at s j

pub shrinks_refl : (s : System) → Shrinks s s
shrinks_refl s = record { shape = shape-refl s; same = λ j h p. refl }

shrinks_then : {a b c : System} → Shrinks a b → Shrinks b c → Shrinks a c
shrinks_then {a} {b} {c} x y =
    record {
      shape = shape-trans x.shape y.shape;
      same = λ j h p.
          let e = y.same j h p in
          e ∙ x.same j (present-back y.shape h) (subst (λ (v : VirtualCpu). Pool v.state) e p);
    }

-- ---- the lag is bounded as before

pub shrinks_lag : {w : ℕ → ℕ} {lim : ℕ} {s s' : System} {now : ℕ} → Shrinks s s' → Lag w lim s now → Lag w lim s' now
shrinks_lag {w} {lim} {s} {s'} {now} x L =
    record {
      lag = λ i j hi hj h e. rw (kept i hi h, kept j hj (is_in_pool j e)) (L.lag i j (back hi) (back hj) (pool i hi h) (was j Runnable hj e refl));
      base = λ i j p hi hj h e.
          rw (kept i hi (on-pool i p h), kept j hj (is_in_pool j e)) (L.base i j p (back hi) (back hj) (was i (Running p) hi h refl) (was j Runnable hj e refl));
      full = λ i p hi l h. rw (kept i hi h) (L.full i p (back hi) (omega (arith, same-pcpus x.shape)) (pool i hi h));
      past = λ i p hi h. rw (kept i hi (on-pool i p h)) (L.past i p (back hi) (was i (Running p) hi h refl));
      early = λ i p hi h. rw (kept i hi (on-pool i p h)) (L.early i p (back hi) (was i (Running p) hi h refl));
      spare = λ i hi h. rw (kept i hi (is_in_pool i h)) (L.spare i (back hi) (was i Runnable hi h refl));
    }
  where
    back : {i : ℕ} → Present s' i → Present s i
    back h = present-back x.shape h

    kept : (i : ℕ) → Present s' i → Pool (state_at s' i) → vcpu_at s' i ≡ vcpu_at s i
    kept i h p = x.same i h p

    is_in_pool : (i : ℕ) → state_at s' i ≡ Runnable → Pool (state_at s' i)
    is_in_pool i e = ap schedulable e

    on-pool : (i p : ℕ) → state_at s' i ≡ Running p → Pool (state_at s' i)
    on-pool i p e = ap schedulable e

    pool : (i : ℕ) → Present s' i → Pool (state_at s' i) → Pool (state_at s i)
    pool i h p = subst (λ (v : VirtualCpu). Pool v.state) (kept i h p) p

    was : (i : ℕ) (st : RunState) → Present s' i → state_at s' i ≡ st → Pool st → state_at s i ≡ st
    was i st h e p = sym (ap (λ (v : VirtualCpu). v.state) (kept i h (ap schedulable e ∙ p))) ∙ e

-- ---- who departs leaves the pool

-- a change that leaves the vCPU outside the pool, or does nothing
abbrev Leaves : Result Change Answer → Type 0
Leaves (Err a) = Unit {0}
Leaves (Ok (Write v)) = schedulable v.state ≡ false
Leaves (Ok (Enter v p)) = schedulable v.state ≡ false
Leaves (Ok (Leave v p)) = schedulable v.state ≡ false

wrote_shrinks : {s s' : System} {i p : ℕ} {v : VirtualCpu} {o : Occupant} → Wrote s s' i v p o
    → schedulable v.state ≡ false → Shrinks s s'
wrote_shrinks {s} {s'} {i} {p} {v} k n = record { shape = k.shape; same = λ j h q. go j q (ℕ_discrete j i) }
  where
    go : (j : ℕ) → Pool (state_at s' j) → Dec (j ≡ i) → vcpu_at s' j ≡ vcpu_at s j
    go j q (yes e) = absurd (false≢true (sym n ∙ (sym (ap (λ (x : VirtualCpu). schedulable x.state) (ap (vcpu_at s') e ∙ k.here)) ∙ q)))
    go j q (no m) = k.there j m

legal_shrinks : {s : System} {i : ℕ} {c : Result Change Answer} {r : SystemOutcome} → Tables s → Legal s i c r → Leaves c
    → Shrinks s r.system
legal_shrinks {s} t (stays a) n = shrinks_refl s
legal_shrinks t (keeps k w) n = wrote_shrinks (w t) n
legal_shrinks {s} t (busy l e) n = shrinks_refl s
legal_shrinks t (goes_on c o w) n = wrote_shrinks (w t) n
legal_shrinks t (goes_off now on k w) n = wrote_shrinks (w t) n

blocked-leaves : (v : VirtualCpu) (now : ℕ) (st : RunState) → Leaves (blocked v now st)
unfolding left
blocked-leaves v now Offline = tt
blocked-leaves v now Runnable = refl
blocked-leaves v now (Running p) = refl
blocked-leaves v now Blocked = tt

offlined-leaves : (v : VirtualCpu) (full now : ℕ) (st : RunState) → Leaves (offlined v full now st)
unfolding left
offlined-leaves v full now Offline = tt
offlined-leaves v full now Runnable = refl
offlined-leaves v full now (Running p) = refl
offlined-leaves v full now Blocked = refl

module _ (s : System) (t : Tables s) (S : Sound s) where
  leaves_shrinks : (d v : ℕ) (q : Request) → ((w : VirtualCpu) (n : ℕ) → Leaves (changed q n w))
      → Shrinks s (requested s d v q).system
  leaves_shrinks d v q n =
      requested_case s (Shrinks s) (shrinks_refl s) d v q
      (λ h r. legal_shrinks t (made_legal s (slot d v) S h q r) (n (vcpu_at s (slot d v)) s.pcpu_count))

  pub block_shrinks : (d v now : ℕ) → Shrinks s (requested s d v (Request.Block now)).system
  block_shrinks d v now = leaves_shrinks d v (Request.Block now) (λ w n. blocked-leaves w now w.state)

  pub offline_shrinks : (d v now : ℕ) → Shrinks s (requested s d v (Request.Offline now)).system
  offline_shrinks d v now = leaves_shrinks d v (Request.Offline now) (λ w n. offlined-leaves w (full_mask n) now w.state)

  first_shrinks : (d now k : ℕ) → d < domains s → k ≤ vcpus s → Shrinks s (offline_first s d now k)
  unfolding offline_first
  first_shrinks d now zero a l = shrinks_refl s
  first_shrinks d now (suc k) a l =
      let u = offline_first s d now k in
      let m = first-keeps s S t d now k a (omega arith) in
      let h : Present u (slot d k) = present-on {i = slot d k} m.shape (record { domain = omega arith; vcpu = omega arith }) in
      shrinks_then (first_shrinks d now k a (omega arith))
      (legal_shrinks (m.shape.tables t) (made_legal u (slot d k) m.sound h (Request.Offline now) refl)
      (offlined-leaves (vcpu_at u (slot d k)) (full_affinity u) now (state_at u (slot d k))))

  pub offline-all_shrinks : (d now : ℕ) → Shrinks s (offline_all s d now).system
  offline-all_shrinks d now = offline-all_case s (Shrinks s) (shrinks_refl s) d now (λ a. first_shrinks d now (vcpus s) a (omega arith))
