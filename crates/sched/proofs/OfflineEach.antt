-- `offline_all` is `offline` of each vCPU of the domain, in order. Assumes nothing.
use Prim.Native.Nat.{ℕ, zero, suc, ◌≤◌, ◌<◌}
use mathlib.Core.Bool.{Bool, true, false, cond}
use mathlib.Core.Logic.{◌≢◌, ◌⊎◌, inl, inr}
use mathlib.Core.Path.{◌≡◌, refl, sym, ◌∙◌, ap}
use native.Mathlib.Nat.{eq-or-lt_of_le}
use native.Mathlib.Omega.{arith}
use lib.Dec.{ltb}
use borrow.Author.Tests.{ltb-true}
use Rattle.std.specs.Prelude.{Result}
use Rattle.system.specs.declared.RunState.{RunState}
use Rattle.system.specs.declared.RunState.TheVariants.{Offline, Runnable, Running, Blocked}
use Rattle.system.specs.declared.Occupant.TheVariants.{Idle}
use Rattle.system.specs.declared.System.{System}
use Rattle.system.specs.declared.VirtualCpu.{VirtualCpu}
use Rattle.system.specs.declared.Answer.{Answer}
use Rattle.system.specs.declared.Answer.TheVariants.{Done}
use Rattle.system.specs.Answers.{told, SystemOutcome}
use Rattle.system.specs.Reads.{vcpu_at, state_at, vcpu_count, full_affinity}
use Rattle.system.specs.Slots.{domains, vcpus, slot, slot-below, Present}
use Rattle.system.specs.Writes.{Tables, wrote-vcpu, wrote-both}
use Rattle.verdict.specs.Sound.{Sound, sound_iff}
use Rattle.changes.specs.Changes.{found_in, offlined}
use Rattle.changes.specs.Records.{left}
use Rattle.calls.specs.declared.Request.{Request}
use Rattle.changes.specs.declared.Change.{Change}
use Rattle.sched.specs.Steps.{refused, done, applied, made, offline, offline_first, offline_all}
use Rattle.sched.specs.OfflineEach.{offlined_each, OfflineAllEach}
use Rattle.sched.proofs.Legal.{Legal, stays, keeps, busy, goes_on, goes_off}
use Rattle.sched.proofs.LegalRequests.{made_legal}
use Rattle.sched.proofs.OfflineAllLoop.{Turn, next-turn, turn-made, turn-present}

-- a legal change leaves all other records as they are
legal_there : {s : System} {i : ℕ} {c : Result Change Answer} {r : SystemOutcome} → Tables s → Legal s i c r → (j : ℕ) → j ≢ i
    → vcpu_at r.system j ≡ vcpu_at s j
legal_there t (stays a) j n = refl
legal_there t (keeps k w) j n = (w t).there j n
legal_there t (busy l e) j n = refl
legal_there t (goes_on c o w) j n = (w t).there j n
legal_there t (goes_off now on k w) j n = (w t).there j n

-- what `offline` is told of a vCPU by its state, and that it leaves it Offline
offline-told : (s : System) (i full now : ℕ) (v : VirtualCpu) (st : RunState) → (st ≡ Offline → ⊥)
    → (applied s i (offlined v full now st)).number ≡ told Done
unfolding applied
offline-told s i full now v Offline n = absurd (n refl)
offline-told s i full now v Runnable n = refl
offline-told s i full now v (Running p) n = refl
offline-told s i full now v Blocked n = refl

offline-leaves : (s : System) (i now : ℕ) → Tables s → Sound s → Present s i → state_at (made s i (Request.Offline now)).system i ≡ Offline
unfolding applied left
offline-leaves s i now t S h = go (state_at s i) refl
  where
    go : (st : RunState) → state_at s i ≡ st → state_at (applied s i (offlined (vcpu_at s i) (full_affinity s) now st)).system i ≡ Offline
    go Offline e = e
    go Runnable e = ap (λ (v : VirtualCpu). v.state) (wrote-vcpu s i _ 0 t (slot-below h)).here
    go (Running p) e =
        let o = S.runs i p h e in
        ap (λ (v : VirtualCpu). v.state) (wrote-both s i _ p Idle t (slot-below h) (omega (arith, o.exists))).here
    go Blocked e = ap (λ (v : VirtualCpu). v.state) (wrote-vcpu s i _ 0 t (slot-below h)).here

module _ (s : System) (t : Tables s) (S : Sound s) (d now : ℕ) (a : d < domains s) where
  abbrev after : ℕ → System
  after k = offline_first s d now k

  -- vCPU k of the domain as its turn comes
  turn : (k : ℕ) → k < vcpus s → Turn s (after k) d now k
  turn k l = next-turn refl t S a l

  -- the calls are the turns of the loop
  each_first : (k : ℕ) → k ≤ vcpus s → offlined_each s d now k ≡ after k
  unfolding offlined_each offline_first
  each_first zero l = refl
  each_first (suc k) l =
      ap (λ (u : System). (offline u d k now).system) (each_first k (omega arith))
      ∙ ap (λ (r : SystemOutcome). r.system) (turn-made (turn k (omega arith)))

  -- a turn leaves the vCPUs of other slots as they are
  turn-there : (k j : ℕ) → k < vcpus s → j ≢ slot d k → vcpu_at (after (suc k)) j ≡ vcpu_at (after k) j
  unfolding offline_first
  turn-there k j l n =
      let m = turn k l in
      legal_there (m.keeps.shape.tables t) (made_legal (after k) (slot d k) m.keeps.sound (turn-present m) (Request.Offline now) refl) j n

  -- so that a vCPU is as it was until its turn
  until : (k j : ℕ) → k ≤ j → k ≤ vcpus s → vcpu_at (after k) (slot d j) ≡ vcpu_at s (slot d j)
  unfolding offline_first
  until zero j h l = refl
  until (suc k) j h l = turn-there k (slot d j) (omega arith) (λ e. omega arith) ∙ until k j (omega arith) (omega arith)

  -- and Offline from then on
  since : (k j : ℕ) → j < k → k ≤ vcpus s → state_at (after k) (slot d j) ≡ Offline
  unfolding offline_first
  since zero j h l = absurd (omega arith)
  since (suc k) j h l = go (eq-or-lt_of_le h) (λ m. since k j m (omega arith))
    where
      go : (suc j ≡ suc k) ⊎ (suc j < suc k) → (j < k → state_at (after k) (slot d j) ≡ Offline) → state_at (after (suc k)) (slot d j) ≡ Offline
      go (inl e) ih =
          let m = turn k (omega arith) in
          let x : j ≡ k = omega arith in
          rw x (offline-leaves (after k) (slot d k) now (m.keeps.shape.tables t) m.keeps.sound (turn-present m))
      go (inr e) ih = ap (λ (v : VirtualCpu). v.state) (turn-there k (slot d j) (omega arith) (λ x. omega arith)) ∙ ih (omega arith)

  -- what the call of vCPU k is told, by the state in which the whole call found it
  told-live : (k : ℕ) → k < vcpus s → (state_at s (slot d k) ≡ Offline → ⊥) → (offline (offlined_each s d now k) d k now).number ≡ told Done
  told-live k l n =
      rw (each_first k (omega arith), turn-made (turn k l))
      (offline-told (after k) (slot d k) _ now _ (state_at (after k) (slot d k))
      (λ e. n (ap (λ (v : VirtualCpu). v.state) (sym (until k k (omega arith) (omega arith))) ∙ e)))

  told-down : (k : ℕ) → k < vcpus s → state_at s (slot d k) ≡ Offline
      → offline (offlined_each s d now k) d k now ≡ refused (found_in Offline) (offlined_each s d now k)
  unfolding applied
  told-down k l e =
      let f : state_at (after k) (slot d k) ≡ Offline = ap (λ (v : VirtualCpu). v.state) (until k k (omega arith) (omega arith)) ∙ e in
      rw (each_first k (omega arith))
      (turn-made (turn k l)
      ∙ ap (λ (st : RunState). applied (after k) (slot d k) (offlined (vcpu_at (after k) (slot d k)) (full_affinity (after k)) now st)) f)

-- a bad domain has no vCPUs
in_count : (s : System) (d k : ℕ) → k < vcpu_count s d → (d < domains s) × (k < vcpus s)
in_count s d k l = go (ltb d (domains s)) refl l
  where
    go : (b : Bool) → ltb d (domains s) ≡ b → k < cond b (vcpus s) 0 → (d < domains s) × (k < vcpus s)
    go true e m = (ltb-true d (domains s) e, m)
    go false e m = absurd (omega arith)

pub offline-all-each : OfflineAllEach
unfolding offline_all offlined_each offline_first
offline-all-each s t S d now =
    record {
      is = rw ((sound_iff s).1 S) (ap done (sym (same (ltb d (domains s)) refl)));
      live = λ k l. let h = in_count s d k l in told-live s t S d now h.0 k h.1;
      down = λ k l. let h = in_count s d k l in told-down s t S d now h.0 k h.1;
      all = λ k l. rw ((sound_iff s).1 S) (down-then (ltb d (domains s)) refl k l);
    }
  where
    same : (b : Bool) → ltb d (domains s) ≡ b → offlined_each s d now (cond b (vcpus s) 0) ≡ offline_first s d now (cond b (vcpus s) 0)
    same true e = each_first s t S d now (ltb-true d (domains s) e) (vcpus s) (omega arith)
    same false e = refl

    down-then : (b : Bool) → ltb d (domains s) ≡ b → (k : ℕ) → k < cond b (vcpus s) 0
        → state_at (offline_first s d now (cond b (vcpus s) 0)) (slot d k) ≡ Offline
    down-then true e k l = since s t S d now (ltb-true d (domains s) e) (vcpus s) k l (omega arith)
    down-then false e k l = absurd (omega arith)
