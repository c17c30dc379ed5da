-- On a sound system every request is a legal change. Assumes nothing.
use Prim.Native.Nat.{ℕ, ◌/◌, ◌%◌, ◌<◌}
use mathlib.Core.Bool.{Bool, true, false, cond}
use mathlib.Core.Path.{◌≡◌, refl, sym, subst}
use native.Mathlib.Omega.{arith}
use borrow.Author.Tests.{ltb-true}
use Rattle.std.specs.Prelude.{Result, Ok, Err}
use Rattle.masks.specs.Masks.{permits, clipped}
use Rattle.scans.specs.Booleans.{zero_one}
use Rattle.system.specs.declared.RunState.{RunState}
use Rattle.system.specs.declared.RunState.TheVariants.{Offline, Runnable, Running, Blocked}
use Rattle.system.specs.declared.VirtualCpu.{VirtualCpu}
use Rattle.system.specs.declared.Occupant.TheVariants.{Idle, Vcpu}
use Rattle.system.specs.declared.System.{System}
use Rattle.system.specs.declared.Answer.{Answer}
use Rattle.system.specs.declared.Answer.TheVariants.{PcpuBusy, NotAffine}
use Rattle.system.specs.Records.{with_mask}
use Rattle.system.specs.Reads.{vcpu_at, occupant_at, is_idle, is-idle, full_affinity}
use Rattle.system.specs.Writes.{put_vcpu, put_occupant, wrote-vcpu, wrote-both}
use Rattle.system.specs.Slots.{pcpus, Present, slot-below}
use Rattle.verdict.specs.Sound.{Sound}
use Rattle.changes.specs.Changes.{admitted, ran, preempted, blocked, woken, masked, offlined, reaches}
use Rattle.calls.specs.declared.Request.{Request}
use Rattle.changes.specs.declared.Change.{Change}
use Rattle.changes.specs.declared.Change.TheVariants.{Write, Enter, Leave}
use Rattle.changes.specs.Records.{dispatched, left}
use Rattle.sched.specs.Steps.{change_of, done, tested, applied, made}
use Rattle.sched.specs.CanRun.{CanRun}
use Rattle.sched.proofs.Legal.{NotRunning, StaysPut, Closed, Opened, Legal, stays, keeps, busy, goes_on, goes_off}

pub off_nr : NotRunning Offline
off_nr q e = zero_one cc

pub ready_nr : NotRunning Runnable
ready_nr q e = zero_one cc

pub blocked_nr : NotRunning Blocked
blocked_nr q e = zero_one cc

-- a record that did not run and does not run stays put
idle-put : (old new : VirtualCpu) → NotRunning old.state → NotRunning new.state → new.runtime ≡ old.runtime → StaysPut old new
idle-put old new n m e = record { time = e; was = λ q e. absurd (m q e); still = λ q e. absurd (n q e); affine = λ q e a. absurd (m q e) }

module _ (s : System) (i : ℕ) (S : Sound s) (h : Present s i) where
  abbrev old : VirtualCpu
  old = vcpu_at s i

  at : {st : RunState} → old.state ≡ st → NotRunning st → NotRunning old.state
  at e n = subst NotRunning (sym e) n

  -- a change of it that is legal, with what it leaves
  abbrev Fine : Result Change Answer → Type 0
  Fine c = Legal s i c (applied s i c)

  refuses : (a : Answer) → Fine (Err a)
  unfolding applied
  refuses a = stays a

  writes : {v : VirtualCpu} → StaysPut old v → Fine (Ok (Write v))
  unfolding applied
  writes {v} k = keeps k (λ t. wrote-vcpu s i v 0 t (slot-below h))

  enters : {v : VirtualCpu} {p : ℕ} → p < pcpus s → (is_idle (occupant_at s p) ≡ true → CanRun s i p) → Opened old v p → Fine (Ok (Enter v p))
  unfolding applied
  enters {v} {p} l f o = go (is_idle (occupant_at s p)) refl
    where
      go : (b : Bool) → is_idle (occupant_at s p) ≡ b
          → Legal s i (Ok (Enter v p)) (tested b PcpuBusy s (done (put_occupant (put_vcpu s i v) p (Vcpu (i / 8) (i % 8)))))
      go true e = goes_on (f e) o (λ t. wrote-both s i v p _ t (slot-below h) (omega arith))
      go false e = busy l e

  leaves : {v : VirtualCpu} {p : ℕ} (now : ℕ) → old.state ≡ Running p → Closed old v now → Fine (Ok (Leave v p))
  unfolding applied
  leaves {v} {p} now e k =
      let o = S.runs i p h e in
      goes_off now e k (λ t. wrote-both s i v p Idle t (slot-below h) (omega (arith, o.exists)))

  admitted_legal : (st : RunState) → old.state ≡ st → Fine (admitted old st)
  admitted_legal Offline e = writes (idle-put _ _ (at e off_nr) ready_nr refl)
  admitted_legal Runnable e = refuses _
  admitted_legal (Running p) e = refuses _
  admitted_legal Blocked e = refuses _

  preempted_legal : (now : ℕ) (st : RunState) → old.state ≡ st → Fine (preempted old now st)
  unfolding left
  preempted_legal now Offline e = refuses _
  preempted_legal now Runnable e = refuses _
  preempted_legal now (Running p) e = leaves now e (record { rests = ready_nr; time = refl })
  preempted_legal now Blocked e = refuses _

  blocked_legal : (now : ℕ) (st : RunState) → old.state ≡ st → Fine (blocked old now st)
  unfolding left
  blocked_legal now Offline e = refuses _
  blocked_legal now Runnable e = writes (idle-put _ _ (at e ready_nr) blocked_nr refl)
  blocked_legal now (Running p) e = leaves now e (record { rests = blocked_nr; time = refl })
  blocked_legal now Blocked e = refuses _

  woken_legal : (st : RunState) → old.state ≡ st → Fine (woken old st)
  woken_legal Offline e = refuses _
  woken_legal Runnable e = refuses _
  woken_legal (Running p) e = refuses _
  woken_legal Blocked e = writes (idle-put _ _ (at e blocked_nr) ready_nr refl)

  masked_legal : (m : ℕ) (st : RunState) → old.state ≡ st → Fine (masked old m st)
  masked_legal m Offline e = writes (idle-put _ _ (at e off_nr) (at e off_nr) refl)
  masked_legal m Runnable e = writes (idle-put _ _ (at e ready_nr) (at e ready_nr) refl)
  masked_legal m (Running p) e = go (permits m p) refl
    where
      go : (t : Bool) → permits m p ≡ t → Fine (cond t (Ok (Write (with_mask old m))) (Err NotAffine))
      go true a = writes {v = with_mask old m} (record { time = refl; was = λ q r. r; still = λ q r. r; affine = λ q r k. let x : p ≡ q = cc in cc })
      go false a = refuses _
  masked_legal m Blocked e = writes (idle-put _ _ (at e blocked_nr) (at e blocked_nr) refl)

  offlined_legal : (full now : ℕ) (st : RunState) → old.state ≡ st → Fine (offlined old full now st)
  unfolding left
  offlined_legal full now Offline e = refuses _
  offlined_legal full now Runnable e = writes (idle-put _ _ (at e ready_nr) off_nr refl)
  offlined_legal full now (Running p) e = leaves now e (record { rests = off_nr; time = refl })
  offlined_legal full now Blocked e = writes (idle-put _ _ (at e blocked_nr) off_nr refl)

  ran_legal : (p now : ℕ) → p < pcpus s → (st : RunState) → old.state ≡ st → Fine (ran old p now st)
  unfolding dispatched
  ran_legal p now l Offline e = refuses _
  ran_legal p now l Runnable e = go (permits old.affinity p) refl
    where
      go : (t : Bool) → permits old.affinity p ≡ t → Fine (cond t (Ok (Enter (dispatched old p now) p)) (Err NotAffine))
      go true a =
          enters l (λ b. record { present = h; ready = e; exists = l; free = is-idle _ b; affine = a })
          (record { on = refl; affine = a; time = refl })
      go false a = refuses _
  ran_legal p now l (Running q) e = refuses _
  ran_legal p now l Blocked e = refuses _

  pub made_legal : (q : Request) → reaches q (pcpus s) ≡ true → Legal s i (change_of s i q) (made s i q)
  made_legal Request.Admit r = admitted_legal old.state refl
  made_legal (Request.Run p now) r = ran_legal p now (ltb-true p (pcpus s) r) old.state refl
  made_legal (Request.Preempt now) r = preempted_legal now old.state refl
  made_legal (Request.Block now) r = blocked_legal now old.state refl
  made_legal Request.Wake r = woken_legal old.state refl
  made_legal (Request.SetAffinity m) r = masked_legal (clipped m s.pcpu_count) old.state refl
  made_legal (Request.Offline now) r = offlined_legal (full_affinity s) now old.state refl
