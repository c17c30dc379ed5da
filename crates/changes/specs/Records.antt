-- A vCPU's record made anew: with `with_mask` of system, the only ways in which one changes. The pCPU that it was last on changes
-- where it is dispatched and where it goes Offline, and nowhere else.
use Rattle.std.specs.Prelude.{ℕ, ◌+◌, ◌-◌, ◌^◌, min}
use Rattle.system.specs.declared.RunState.{RunState}
use Rattle.system.specs.declared.RunState.TheVariants.{Running}
use Rattle.system.specs.declared.VirtualCpu.{VirtualCpu}
use Rattle.system.specs.Records.{no_pcpu, elapsed}

abbrev pub with_state : VirtualCpu → RunState → VirtualCpu
with_state v st =
    record { state = st; runtime = v.runtime; dispatched_at = v.dispatched_at; affinity = v.affinity; last = v.last }

-- onto pCPU p: the interval opens, and p is the one that it was last on
unfoldable pub dispatched : VirtualCpu → ℕ → ℕ → VirtualCpu
dispatched v p now = record { state = Running p; runtime = v.runtime; dispatched_at = now; affinity = v.affinity; last = p }

-- off its pCPU into state st: the interval closes, held at 2^64 − 1
unfoldable pub left : VirtualCpu → RunState → ℕ → VirtualCpu
left v st now =
    record {
      state = st;
      runtime = min (v.runtime + elapsed v now) (2 ^ 64 - 1);
      dispatched_at = v.dispatched_at;
      affinity = v.affinity;
      last = v.last;
    }

-- as one that goes Offline is left for whoever is admitted there later: every pCPU admitted, dispatched onto none
abbrev pub forgotten : VirtualCpu → ℕ → VirtualCpu
forgotten v full =
    record { state = v.state; runtime = v.runtime; dispatched_at = v.dispatched_at; affinity = full; last = no_pcpu }
