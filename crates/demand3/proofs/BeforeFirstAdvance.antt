-- A host before its first advance: nobody has run, masks are full, no offset and no snapshot is set. Assumes nothing.
use Rattle.std.specs.Prelude.{Result, Ok, Err}
use Prim.Native.Nat.{ℕ, zero, suc, ◌+◌, ◌*◌, ◌≤◌, ◌<◌}
use mathlib.Core.Bool.{false≢true}
use mathlib.Core.Path.{◌≡◌, refl, sym, ◌∙◌, ap, subst}
use native.Mathlib.Omega.{arith}
use native.Mathlib.Decide.{ℕ_discrete}
use Rattle.masks.specs.Masks.{permits, full_mask, clipped}
use Rattle.masks.specs.Laws.{full-permits}
use Rattle.system.specs.declared.RunState.{RunState}
use Rattle.system.specs.declared.RunState.TheVariants.{Offline, Runnable, Running, Blocked}
use Rattle.system.specs.declared.VirtualCpu.{VirtualCpu}
use Rattle.system.specs.declared.Occupant.{Occupant}
use Rattle.system.specs.declared.System.{System}
use Rattle.system.specs.declared.Answer.{Answer}
use Rattle.system.specs.Reads.{vcpu_at, full_affinity, state_at}
use Rattle.system.specs.Writes.{Tables, Wrote, wrote-vcpu, present-back, present-on}
use Rattle.system.specs.Slots.{domains, vcpus, slot, Present, slot-below}
use Rattle.system.specs.States.{schedulable}
use Rattle.verdict.specs.Sound.{Sound}
use Rattle.system.specs.Records.{with_mask}
use Rattle.calls.specs.declared.Request.{Request}
use Rattle.changes.specs.declared.Change.{Change}
use Rattle.changes.specs.declared.Change.TheVariants.{Write, Enter, Leave}
use Rattle.sched.specs.Steps.{change_of, applied, requested, offline_first, offline_all}
use Rattle.sched.proofs.Laws.{NotRunning, off_nr, ready_nr, blocked_nr, requested_case, offline-all_case, first-keeps}
use Rattle.changes.specs.Records.{with_state, forgotten}
use Rattle.changes.specs.Changes.{admitted, blocked, woken, masked, offlined}
use Rattle.demand3.proofs.ExactRanking.{raw_service}
use Rattle.demand3.proofs.Lag.{Pool, Lag, raw-waiting}

-- a record that has not run, on a host whose full mask is given
pub record New (full : ℕ) (v : VirtualCpu) : Type 0 where
  pub rests : NotRunning v.state
  pub none : v.runtime ≡ 0
  pub mask : v.affinity ≡ full

pub record Unrun (s : System) : Type 0 where
  pub new : (i : ℕ) → Present s i → New (full_affinity s) (vcpu_at s i)

unrun-wrote : {s s' : System} {i p : ℕ} {v : VirtualCpu} {o : Occupant} → Unrun s → Wrote s s' i v p o
    → New (full_affinity s) v → Unrun s'
unrun-wrote {s} {s'} {i} {p} {v} Y k n = record { new = λ j h. go j h (ℕ_discrete j i) }
  where
    full : full_affinity s' ≡ full_affinity s
    full = ap full_mask k.shape.pcpus

    go : (j : ℕ) → Present s' j → Dec (j ≡ i) → New (full_affinity s') (vcpu_at s' j)
    go j h (yes e) = subst (New (full_affinity s')) (sym (ap (vcpu_at s') e ∙ k.here)) (subst (λ (f : ℕ). New f v) (sym full) n)
    go j h (no m) = subst (New (full_affinity s')) (sym (k.there j m)) (subst (λ (f : ℕ). New f (vcpu_at s j)) (sym full) (Y.new j (present-back k.shape h)))

-- a change that leaves such a record, or does nothing
abbrev StaysUnrun : ℕ → Result Change Answer → Type 0
StaysUnrun full (Err a) = Unit {0}
StaysUnrun full (Ok (Write v)) = New full v
StaysUnrun full (Ok (Enter v p)) = ⊥
StaysUnrun full (Ok (Leave v p)) = ⊥

applied-unrun : {s : System} {i : ℕ} (c : Result Change Answer) → Tables s → Unrun s → Present s i → StaysUnrun (full_affinity s) c
    → Unrun (applied s i c).system
unfolding applied
applied-unrun (Err a) t Y h n = Y
applied-unrun {s} {i} (Ok (Write v)) t Y h n = unrun-wrote Y (wrote-vcpu s i v 0 t (slot-below h)) n
applied-unrun (Ok (Enter v p)) t Y h n = absurd n
applied-unrun (Ok (Leave v p)) t Y h n = absurd n

module _ {full : ℕ} {v : VirtualCpu} (n : New full v) where
  -- it is not Running
  still : {A : Type 0} {p : ℕ} → v.state ≡ Running p → A
  still {A} {p} e = absurd (n.rests p e)

  set : (st : RunState) → NotRunning st → New full (with_state v st)
  set st r = record { rests = r; none = n.none; mask = n.mask }

  filled : (st : RunState) → NotRunning st → New full (forgotten (with_state v st) full)
  filled st r = record { rests = r; none = n.none; mask = refl }

  admitted-stays-unrun : (st : RunState) → v.state ≡ st → StaysUnrun full (admitted v st)
  admitted-stays-unrun Offline e = set Runnable ready_nr
  admitted-stays-unrun Runnable e = tt
  admitted-stays-unrun (Running p) e = tt
  admitted-stays-unrun Blocked e = tt

  blocked-stays-unrun : (now : ℕ) (st : RunState) → v.state ≡ st → StaysUnrun full (blocked v now st)
  blocked-stays-unrun now Offline e = tt
  blocked-stays-unrun now Runnable e = set Blocked blocked_nr
  blocked-stays-unrun now (Running p) e = still e
  blocked-stays-unrun now Blocked e = tt

  woken-stays-unrun : (st : RunState) → v.state ≡ st → StaysUnrun full (woken v st)
  woken-stays-unrun Offline e = tt
  woken-stays-unrun Runnable e = tt
  woken-stays-unrun (Running p) e = tt
  woken-stays-unrun Blocked e = set Runnable ready_nr

  offlined-stays-unrun : (now : ℕ) (st : RunState) → v.state ≡ st → StaysUnrun full (offlined v full now st)
  offlined-stays-unrun now Offline e = tt
  offlined-stays-unrun now Runnable e = filled Offline off_nr
  offlined-stays-unrun now (Running p) e = still e
  offlined-stays-unrun now Blocked e = filled Offline off_nr

  refilled : New full (with_mask v full)
  refilled = record { rests = n.rests; none = n.none; mask = refl }

  masked-stays-unrun : (st : RunState) → v.state ≡ st → StaysUnrun full (masked v full st)
  masked-stays-unrun Offline e = refilled
  masked-stays-unrun Runnable e = refilled
  masked-stays-unrun (Running p) e = still e
  masked-stays-unrun Blocked e = refilled

module _ (s : System) (t : Tables s) (S : Sound s) (Y : Unrun s) where
  request_unrun : (d v : ℕ) (q : Request)
      → (Present s (slot d v) → StaysUnrun (full_affinity s) (change_of s (slot d v) q))
      → Unrun (requested s d v q).system
  request_unrun d v q f = requested_case s Unrun Y d v q (λ h r. applied-unrun _ t Y h (f h))

  pub admit-unrun : (d v : ℕ) → Unrun (requested s d v Request.Admit).system
  admit-unrun d v = request_unrun d v Request.Admit (λ h. admitted-stays-unrun (Y.new (slot d v) h) _ refl)

  pub block-unrun : (d v now : ℕ) → Unrun (requested s d v (Request.Block now)).system
  block-unrun d v now = request_unrun d v (Request.Block now) (λ h. blocked-stays-unrun (Y.new (slot d v) h) now _ refl)

  pub wake-unrun : (d v : ℕ) → Unrun (requested s d v Request.Wake).system
  wake-unrun d v = request_unrun d v Request.Wake (λ h. woken-stays-unrun (Y.new (slot d v) h) _ refl)

  pub offline-unrun : (d v now : ℕ) → Unrun (requested s d v (Request.Offline now)).system
  offline-unrun d v now = request_unrun d v (Request.Offline now) (λ h. offlined-stays-unrun (Y.new (slot d v) h) now _ refl)

  -- a mask that is stored full
  pub mask-unrun : (d v m : ℕ) → clipped m s.pcpu_count ≡ full_affinity s
      → Unrun (requested s d v (Request.SetAffinity m)).system
  mask-unrun d v m e = request_unrun d v (Request.SetAffinity m) (λ h. rw e (masked-stays-unrun (Y.new (slot d v) h) _ refl))

  first-unrun : (d now k : ℕ) → d < domains s → k ≤ vcpus s → Unrun (offline_first s d now k)
  unfolding offline_first
  first-unrun d now zero a l = Y
  first-unrun d now (suc k) a l =
      let u = offline_first s d now k in
      let m = first-keeps s S t d now k a (omega arith) in
      let h : Present u (slot d k) = present-on {i = slot d k} m.shape (record { domain = omega arith; vcpu = omega arith }) in
      let y = first-unrun d now k a (omega arith) in
      applied-unrun _ (m.shape.tables t) y h (offlined-stays-unrun (y.new (slot d k) h) now _ refl)

  pub offline-all-unrun : (d now : ℕ) → Unrun (offline_all s d now).system
  offline-all-unrun d now = offline-all_case s Unrun Y d now (λ a. first-unrun d now (vcpus s) a (omega arith))

  -- nobody lags before anybody has run, at any reading
  pub unrun-lag : (w : ℕ → ℕ) (lim now : ℕ) → Lag w lim s now
  unrun-lag w lim now =
      record {
        lag = λ i j hi hj h e. lag' i j hi (state_at s i) refl h;
        base = λ i j p hi hj h e. absurd ((Y.new i hi).rests p h);
        full = λ i p hi l h.
            ap (λ (m : ℕ). permits m p) (Y.new i hi).mask ∙ full-permits s.pcpu_count p (omega arith) (omega arith);
        past = λ i p hi h. absurd ((Y.new i hi).rests p h);
        early = λ i p hi h. absurd ((Y.new i hi).rests p h);
        spare = λ i hi h. omega (arith, (Y.new i hi).none);
      }
    where
      lag' : (i j : ℕ) → Present s i → (st : RunState) → state_at s i ≡ st → Pool (state_at s i)
          → raw_service s now i * w j ≤ raw_service s now j * w i + lim * w j
      lag' i j hi Offline e h = absurd (false≢true (sym (ap schedulable e) ∙ h))
      lag' i j hi Runnable e h =
          let z : raw_service s now i ≡ 0 = raw-waiting s now i e ∙ (Y.new i hi).none in
          rw z (omega arith)
      lag' i j hi (Running p) e h = absurd ((Y.new i hi).rests p e)
      lag' i j hi Blocked e h = absurd (false≢true (sym (ap schedulable e) ∙ h))
