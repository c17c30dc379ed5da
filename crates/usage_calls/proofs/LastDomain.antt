-- Every call, at its clock, leaves what the last domain used as it was: written out, so that a law of fewer domains, calls or clocks would
-- not give it. Assumes nothing.
use Prim.Native.Nat.{ℕ, ◌^◌, ◌≤◌, ◌<◌}
use mathlib.Core.Bool.{Bool}
use mathlib.Core.Path.{◌≡◌, refl}
use Rattle.system.specs.Records.{runtime_until}
use Rattle.system.specs.Reads.{vcpu_at, vcpu_count}
use Rattle.system.specs.Slots.{slot}
use Rattle.system.specs.Writes.{Tables}
use Rattle.host.specs.declared.Host.{Host}
use Rattle.calls.specs.declared.Call.{Call}
use Rattle.calls.specs.declared.Request.{Request}
use Rattle.host.specs.Step.{step}
use Rattle.usage.specs.Usage.{usage}
use Rattle.usage_calls.specs.AtItsClock.{At}
use Rattle.usage_calls.proofs.AtItsClock.{step-usage}

-- any host, sound or not, whose tables are as long as the code's, and any clock
module _ (h : Host) (t : Tables h.system) (c : ℕ) where
  -- the usage of domain 15 up to c is the same after the call, unless a run time of it is held; then it may fall, and never rises
  abbrev Leaves : Call → Type 0
  Leaves x =
      (((v : ℕ) → v < vcpu_count h.system 15 → runtime_until (vcpu_at h.system (slot 15 v)) c < 2 ^ 64)
      → usage (step h x).host.system 15 c ≡ usage h.system 15 c)
      × (usage (step h x).host.system 15 c ≤ usage h.system 15 c)

  leaves : (x : Call) → At x c → Leaves x
  leaves x a = let y = step-usage h x c t a in (y.same 15, y.most 15)

  module _ (d v p m w : ℕ) (on : Bool) where
    abbrev Asks : Request → Type 0
    Asks q = Leaves (Call.Ask d v q)

    pub clocked-leaves : Asks (Request.Run p c) × Asks (Request.Preempt c) × Asks (Request.Block c) × Asks (Request.Offline c)
        × Leaves (Call.OfflineAll d c) × Leaves (Call.Advance c)
    clocked-leaves = (leaves _ refl, leaves _ refl, leaves _ refl, leaves _ refl, leaves _ refl, leaves _ refl)

    pub others-leave : Asks Request.Admit × Asks Request.Wake × Asks (Request.SetAffinity m) × Leaves (Call.SetWeight d v w)
        × Leaves (Call.SetWakeBoost on)
    others-leave = (leaves _ tt, leaves _ tt, leaves _ tt, leaves _ tt, leaves _ tt)
