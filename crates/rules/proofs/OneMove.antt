-- A move that may be made is not refused; what it leaves is sound. Assumes nothing.
use Prim.Native.Nat.{ℕ, ◌/◌, ◌%◌}
use mathlib.Core.Path.{◌≡◌, refl, sym, ap, subst}
use native.Mathlib.Omega.{arith}
use borrow.Author.Tests.{lt-ltb}
use Rattle.system.specs.declared.RunState.{RunState}
use Rattle.system.specs.declared.RunState.TheVariants.{Runnable, Running}
use Rattle.system.specs.declared.Occupant.TheVariants.{Idle, Vcpu}
use Rattle.system.specs.declared.System.{System}
use Rattle.system.specs.Reads.{vcpu_at, is_idle, state_at}
use Rattle.system.specs.Writes.{put_vcpu, put_occupant, Tables, Wrote, wrote-both}
use Rattle.system.specs.Slots.{pcpus, Present, slot-below}
use Rattle.verdict.specs.Sound.{Sound}
use Rattle.changes.specs.Records.{dispatched, left}
use Rattle.sched.specs.Steps.{applied, done}
use Rattle.sched.specs.CanRun.{CanRun}
use Rattle.sched.specs.Invariants.{Keeps}
use Rattle.sched.proofs.Laws.{made-keeps}
use Rattle.calls.specs.declared.Request.{Request}
use Rattle.moves.specs.declared.Choice.TheVariants.{Run, Preempt}
use Rattle.changes.specs.Changes.{preempted, ran}
use Rattle.rules.specs.Settle.{enacted}

module _ (s : System) (now i p : ℕ) where
  -- a dispatch that may be made is made
  pub run-enacted : CanRun s i p → enacted s now (Run i p) ≡ done (put_occupant (put_vcpu s i (dispatched (vcpu_at s i) p now)) p (Vcpu (i / 8) (i % 8)))
  unfolding enacted applied
  run-enacted c =
      subst
      (λ (st : RunState). applied s i (ran (vcpu_at s i) p now st)
      ≡ done (put_occupant (put_vcpu s i (dispatched (vcpu_at s i) p now)) p (Vcpu (i / 8) (i % 8))))
      (sym c.ready) (rw (c.affine, ap is_idle c.free))

  pub run-wrote : Tables s → CanRun s i p
      → Wrote s (enacted s now (Run i p)).system i (dispatched (vcpu_at s i) p now) p (Vcpu (i / 8) (i % 8))
  run-wrote t c = rw (run-enacted c) (wrote-both s i _ p _ t (slot-below c.present) (omega (arith, c.exists)))

  pub run-keeps : Tables s → Sound s → CanRun s i p → Keeps s (enacted s now (Run i p)).system
  unfolding enacted
  run-keeps t S c = made-keeps t S c.present (Request.Run p now) (lt-ltb p (pcpus s) c.exists)

  -- and so is the preemption of a runner
  pub preempt-enacted : state_at s i ≡ Running p → enacted s now (Preempt i p) ≡ done (put_occupant (put_vcpu s i (left (vcpu_at s i) Runnable now)) p Idle)
  unfolding enacted applied
  preempt-enacted on =
      subst
      (λ (st : RunState). applied s i (preempted (vcpu_at s i) now st) ≡ done (put_occupant (put_vcpu s i (left (vcpu_at s i) Runnable now)) p Idle))
      (sym on) refl

  pub preempt-wrote : Tables s → Sound s → Present s i → state_at s i ≡ Running p
      → Wrote s (enacted s now (Preempt i p)).system i (left (vcpu_at s i) Runnable now) p Idle
  preempt-wrote t S h on =
      let o = S.runs i p h on in
      rw (preempt-enacted on) (wrote-both s i _ p _ t (slot-below h) (omega (arith, o.exists)))

  pub preempt-keeps : Tables s → Sound s → Present s i → Keeps s (enacted s now (Preempt i p)).system
  unfolding enacted
  preempt-keeps t S h = made-keeps t S h (Request.Preempt now) refl
