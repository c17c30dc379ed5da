-- After every list of calls of a fresh host, a vCPU that none of them sets a weight for, and one outside the policy's
-- shape, ranks as one set to 256. It is proved as `unset-ranks`.
use Rattle.std.specs.Prelude.{ℕ, ◌/◌, ◌%◌, false, ◌≡◌, List}
use Rattle.system.specs.declared.System.{System}
use Rattle.policy.specs.Accounts.{in_shape}
use Rattle.policy.specs.Defaults.{RanksAt}
use Rattle.calls.specs.declared.Call.{Call}
use Rattle.demand3.specs.Weights.{weight_through}
use Rattle.demand3.specs.Fresh.{Fresh, host_at}

-- no weight is set for d/v: whatever weight it had, the calls would leave it; or the policy, of e domains of u vCPUs, does
-- not have it
pub data Unset (e u d v : ℕ) (cs : List Call) : Type 0 where
  none : ((w : ℕ) → weight_through d v w cs ≡ w) → Unset e u d v cs
  outside : in_shape e u d v ≡ false → Unset e u d v cs

-- on any system: what of the host enters is its policy
abbrev pub UnsetRanks : Type 0
UnsetRanks = (f : Fresh) (cs : List Call) (i : ℕ) → Unset f.domains f.vcpus (i / 8) (i % 8) cs
    → (s : System) (now : ℕ) → RanksAt 256 s (host_at f cs).scheduler now i
