-- A call leaves what every domain used up to the call's own clock as it was. Assumes nothing.
use Rattle.std.specs.Prelude.{Result, Ok, Err}
use Prim.Native.Nat.{ℕ, zero, suc, ◌/◌, ◌%◌, ◌≤◌, ◌<◌, min}
use mathlib.Core.Bool.{Bool, true, false, cond}
use mathlib.Core.Path.{◌≡◌, refl, ◌∙◌, ap₂}
use mathlib.Core.List.{List, [], ◌∷◌}
use native.Mathlib.Nat.{le_refl, le_trans}
use native.Mathlib.Decide.{ℕ_discrete}
use native.Mathlib.Omega.{arith}
use lib.Dec.{ltb}
use Rattle.system.specs.declared.VirtualCpu.{VirtualCpu}
use Rattle.system.specs.declared.Occupant.{Occupant}
use Rattle.system.specs.declared.Occupant.TheVariants.{Vcpu}
use Rattle.system.specs.declared.System.{System}
use Rattle.system.specs.declared.Answer.{Answer}
use Rattle.system.specs.declared.Answer.TheVariants.{PcpuBusy}
use Rattle.system.specs.Reads.{vcpu_at, occupant_at, is_idle, vcpu_count}
use Rattle.system.specs.Slots.{domains, vcpus, slot, slot-below}
use Rattle.system.specs.Writes.{Tables, SameShape, Wrote, shape-refl, shape-trans, put_vcpu, put_occupant, occupant-shape, wrote-vcpu}
use Rattle.verdict.specs.Violations.{invariants_hold}
use Rattle.verdict.specs.Sound.{sound_iff}
use Rattle.calls.specs.declared.Request.{Request}
use Rattle.changes.specs.declared.Change.{Change}
use Rattle.changes.specs.declared.Change.TheVariants.{Write, Enter, Leave}
use Rattle.sched.specs.Steps.{applied, done, tested, requested, offline_first, offline_all}
use Rattle.sched.proofs.Laws.{requested_case, offline-all_case}
use Rattle.moves.specs.declared.Choice.{Choice}
use Rattle.moves.specs.declared.Choice.TheVariants.{Run, Preempt, Rest}
use Rattle.policy.specs.declared.Scheduler.{Scheduler}
use Rattle.advance.specs.Advance.{advance}
use Rattle.advance.specs.Answered.{advance-answered}
use Rattle.advance.specs.Enacting.{called, after_calls}
use Rattle.advance.proofs.Laws.{advance-does}
use Rattle.host.specs.declared.Host.{Host}
use Rattle.calls.specs.declared.Call.{Call}
use Rattle.host.specs.Step.{step}
use Rattle.usage.specs.Sums.{sum_same, sum-most}
use Rattle.usage_calls.specs.AtItsClock.{AtRequest, At, LeavesUsage, EveryCall}
use Rattle.usage_calls.proofs.RecordTimes.{KeepsTime, Timed, changed-timed}

-- s' has the shape of s, and every vCPU has run for as long up to c, unless that is held
pub record Kept (c : ℕ) (s s' : System) : Type 0 where
  pub shape : SameShape s s'
  pub time : (j : ℕ) → KeepsTime c (vcpu_at s j) (vcpu_at s' j)

unchanged : (c : ℕ) (s : System) → Kept c s s
unchanged c s = record { shape = shape-refl s; time = λ j. (le_refl _, λ h. refl) }

and_then : {c : ℕ} {a b d : System} → Kept c a b → Kept c b d → Kept c a d
and_then x y =
    record {
      shape = shape-trans x.shape y.shape;
      time = λ j. (le_trans (y.time j).0 (x.time j).0, λ h. let e = (x.time j).1 h in (y.time j).1 (rw e h) ∙ e);
    }

-- ---- one change

module _ (c : ℕ) (s : System) (t : Tables s) where
  wrote : (i : ℕ) (v : VirtualCpu) → i < 128 → KeepsTime c (vcpu_at s i) v → Kept c s (put_vcpu s i v)
  wrote i v l k = record { shape = w.shape; time = λ j. go j (ℕ_discrete j i) }
    where
      w : Wrote s (put_vcpu s i v) i v 0 (occupant_at s 0)
      w = wrote-vcpu s i v 0 t l

      go : (j : ℕ) → Dec (j ≡ i) → KeepsTime c (vcpu_at s j) (vcpu_at (put_vcpu s i v) j)
      go j (yes e) = rw (e, w.here) k
      go j (no n) = rw (w.there j n) (le_refl _, λ h. refl)

  occupied : {s' : System} (p : ℕ) (o : Occupant) → Kept c s s' → Kept c s (put_occupant s' p o)
  unfolding vcpu_at put_occupant
  occupied {s'} p o k = record { shape = shape-trans k.shape (occupant-shape s' p o); time = k.time }

  applied-kept : (i : ℕ) → i < 128 → (x : Result Change Answer) → Timed c (vcpu_at s i) x → Kept c s (applied s i x).system
  unfolding applied
  applied-kept i l (Err a) k = unchanged c s
  applied-kept i l (Ok (Write v)) k = wrote i v l k
  applied-kept i l (Ok (Enter v p)) k = go (is_idle (occupant_at s p))
    where
      go : (b : Bool) → Kept c s (tested b PcpuBusy s (done (put_occupant (put_vcpu s i v) p (Vcpu (i / 8) (i % 8))))).system
      go true = occupied p _ (wrote i v l k)
      go false = unchanged c s
  applied-kept i l (Ok (Leave v p)) k = occupied p _ (wrote i v l k)

  -- ---- a call of the mechanism

  requested-kept : (d v : ℕ) (q : Request) → AtRequest q c → Kept c s (requested s d v q).system
  requested-kept d v q a =
      requested_case s (Kept c s) (unchanged c s) d v q
      (λ h r. applied-kept (slot d v) (slot-below h) _ (changed-timed c (vcpu_at s (slot d v)) q s.pcpu_count a))

offlined-kept : (c : ℕ) (s : System) → Tables s → (d k : ℕ) → d < domains s → k ≤ vcpus s → Kept c s (offline_first s d c k)
unfolding offline_first
offlined-kept c s t d zero a l = unchanged c s
offlined-kept c s t d (suc k) a l =
    let h = offlined-kept c s t d k a (omega arith) in
    let after = offline_first s d c k in
    and_then h
    (applied-kept c after (h.shape.tables t) (slot d k) (omega arith) _ (changed-timed c (vcpu_at after (slot d k)) (Request.Offline c) after.pcpu_count refl))

offline-all-kept : (c : ℕ) (s : System) → Tables s → (d : ℕ) → Kept c s (offline_all s d c).system
offline-all-kept c s t d = offline-all_case s (Kept c s) (unchanged c s) d c (λ a. offlined-kept c s t d (vcpus s) a (omega arith))

-- ---- an advance

called-kept : (c : ℕ) (s : System) → Tables s → (x : Choice) → Kept c s (called s c x).system
called-kept c s t (Run i p) = requested-kept c s t _ _ (Request.Run p c) refl
called-kept c s t (Preempt i p) = requested-kept c s t _ _ (Request.Preempt c) refl
called-kept c s t Rest = unchanged c s

moves-kept : (c : ℕ) (s : System) → Tables s → (cs : List Choice) → Kept c s (after_calls s c cs)
unfolding after_calls
moves-kept c s t [] = unchanged c s
moves-kept c s t (x ∷ cs) =
    let h = called-kept c s t x in
    and_then h (moves-kept c (called s c x).system (h.shape.tables t) cs)

advance-kept : (c : ℕ) (s : System) (π : Scheduler) → Tables s → Kept c s (advance s π c).system
advance-kept c s π t = go (invariants_hold s) refl
  where
    go : (b : Bool) → invariants_hold s ≡ b → Kept c s (advance s π c).system
    go true e =
        let does = advance-does s π c t ((sound_iff s).0 e) in
        rw does.system (moves-kept c s t _)
    go false e =
        let a = advance-answered s π c in
        rw (a.refused (λ f. omega (arith, f, a.tells.unsound e))).0 (unchanged c s)

-- ---- every call

step_kept : (c : ℕ) (h : Host) (x : Call) → Tables h.system → At x c → Kept c h.system (step h x).host.system
unfolding step
step_kept c h (Call.Ask d v q) t a = requested-kept c _ t d v q a
step_kept c h (Call.OfflineAll d now) t a = rw a (offline-all-kept c _ t d)
step_kept c h (Call.SetWeight d v w) t a = unchanged c _
step_kept c h (Call.SetWakeBoost on) t a = unchanged c _
step_kept c h (Call.Advance now) t a = rw a (advance-kept c _ _ t)

-- a domain has as many vCPUs as before, and each of them has run for as long
leaves-usage : {c : ℕ} {s s' : System} → Kept c s s' → LeavesUsage s s' c
leaves-usage {c} {s} {s'} k =
    record {
      same = λ d n. rw (counts d) (sum_same _ _ (vcpu_count s d) (λ v l. (k.time (slot d v)).1 (n v l)));
      most = λ d. rw (counts d) (sum-most _ _ (vcpu_count s d) (λ v l. (k.time (slot d v)).0));
    }
  where
    counts : (d : ℕ) → vcpu_count s' d ≡ vcpu_count s d
    counts d = ap₂ (λ (a b : ℕ). cond (ltb d (min a 16)) (min b 8) 0) k.shape.domains k.shape.vcpus

pub step-usage : EveryCall
step-usage h x c t a = leaves-usage (step_kept c h x t a)
