-- The numbers that a call can carry: every call that is handed to `Host::step` fits its types.
use Rattle.std.specs.Prelude.{◌^◌, ◌<◌}
use Rattle.calls.specs.declared.Request.{Request}
use Rattle.calls.specs.declared.Call.{Call}

-- clocks and masks of 64 bits, a pCPU's id of 32
abbrev pub TypedRequest : Request → Type 0
TypedRequest Request.Admit = Unit {0}
TypedRequest (Request.Run p now) = (p < 2 ^ 32) × (now < 2 ^ 64)
TypedRequest (Request.Preempt now) = now < 2 ^ 64
TypedRequest (Request.Block now) = now < 2 ^ 64
TypedRequest Request.Wake = Unit {0}
TypedRequest (Request.SetAffinity m) = m < 2 ^ 64
TypedRequest (Request.Offline now) = now < 2 ^ 64

-- a domain's id of 16 bits, a vCPU's and a weight of 32
abbrev pub Typed : Call → Type 0
Typed (Call.Ask d v r) = (d < 2 ^ 16) × (v < 2 ^ 32) × TypedRequest r
Typed (Call.OfflineAll d now) = (d < 2 ^ 16) × (now < 2 ^ 64)
Typed (Call.SetWeight d v w) = (d < 2 ^ 16) × (v < 2 ^ 32) × (w < 2 ^ 32)
Typed (Call.SetWakeBoost on) = Unit {0}
Typed (Call.Advance now) = now < 2 ^ 64
