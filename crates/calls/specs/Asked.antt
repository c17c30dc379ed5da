-- The calls of one vCPU by upstream's names.
use Rattle.std.specs.Prelude.{ℕ}
use Rattle.calls.specs.declared.Request.{Request}
use Rattle.calls.specs.declared.Call.{Call}

abbrev pub admit : ℕ → ℕ → Call
admit d v = Call.Ask d v Request.Admit

abbrev pub run : ℕ → ℕ → ℕ → ℕ → Call
run d v p now = Call.Ask d v (Request.Run p now)

abbrev pub preempt : ℕ → ℕ → ℕ → Call
preempt d v now = Call.Ask d v (Request.Preempt now)

abbrev pub block : ℕ → ℕ → ℕ → Call
block d v now = Call.Ask d v (Request.Block now)

abbrev pub wake : ℕ → ℕ → Call
wake d v = Call.Ask d v Request.Wake

abbrev pub set_affinity : ℕ → ℕ → ℕ → Call
set_affinity d v m = Call.Ask d v (Request.SetAffinity m)

abbrev pub offline : ℕ → ℕ → ℕ → Call
offline d v now = Call.Ask d v (Request.Offline now)
