-- A call leaves what every domain used up to the call's own clock as it was: a bill at that reading is the same before and after it.
-- It is proved as `step-usage`.
use Rattle.std.specs.Prelude.{ℕ, ◌^◌, ◌≤◌, ◌<◌, ◌≡◌}
use Rattle.system.specs.declared.System.{System}
use Rattle.system.specs.Records.{runtime_until}
use Rattle.system.specs.Reads.{vcpu_at, vcpu_count}
use Rattle.system.specs.Slots.{slot}
use Rattle.system.specs.Writes.{Tables}
use Rattle.host.specs.declared.Host.{Host}
use Rattle.calls.specs.declared.Call.{Call}
use Rattle.calls.specs.declared.Request.{Request}
use Rattle.host.specs.Step.{step}
use Rattle.usage.specs.Usage.{usage}

-- the reading is the request's clock; one without a clock may stand at any reading
abbrev pub AtRequest : Request → ℕ → Type 0
AtRequest Request.Admit c = Unit {0}
AtRequest (Request.Run p now) c = now ≡ c
AtRequest (Request.Preempt now) c = now ≡ c
AtRequest (Request.Block now) c = now ≡ c
AtRequest Request.Wake c = Unit {0}
AtRequest (Request.SetAffinity m) c = Unit {0}
AtRequest (Request.Offline now) c = now ≡ c

-- and so of every call
abbrev pub At : Call → ℕ → Type 0
At (Call.Ask d v q) c = AtRequest q c
At (Call.OfflineAll d now) c = now ≡ c
At (Call.SetWeight d v w) c = Unit {0}
At (Call.SetWakeBoost on) c = Unit {0}
At (Call.Advance now) c = now ≡ c

-- no run time of domain d would be held at 2^64 − 1 if its interval were closed at c
abbrev pub NoneHeld : System → ℕ → ℕ → Type 0
NoneHeld s d c = (v : ℕ) → v < vcpu_count s d → runtime_until (vcpu_at s (slot d v)) c < 2 ^ 64

pub record LeavesUsage (s s' : System) (c : ℕ) : Type 0 where
  pub same : (d : ℕ) → NoneHeld s d c → usage s' d c ≡ usage s d c
  -- where one is held, the figure may fall, and never rises
  pub most : (d : ℕ) → usage s' d c ≤ usage s d c

-- for every host whose tables are as long as the code's, sound or not, and every call, refused or not
abbrev pub EveryCall : Type 0
EveryCall = (h : Host) (x : Call) (c : ℕ) → Tables h.system → At x c → LeavesUsage h.system (step h x).host.system c
