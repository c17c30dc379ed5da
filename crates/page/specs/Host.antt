-- A host's counts and records, and the scan by domain, then vCPU. The page begins here: it rests on the records and enums that the
-- code declares, on numbers and on lists, and on no definition of any crate. That the crates' definitions say the same is proved.
use Rattle.std.specs.Prelude.{ℕ, zero, suc, ◌+◌, ◌*◌, min, Bool, cond, ◌&&◌, get_or}
use Rattle.system.specs.declared.RunState.TheVariants.{Offline}
use Rattle.system.specs.declared.VirtualCpu.{VirtualCpu}
use Rattle.system.specs.declared.Occupant.{Occupant}
use Rattle.system.specs.declared.Occupant.TheVariants.{Idle}
use Rattle.system.specs.declared.System.{System}

-- ---- How large a host. A count that is read is held at its size.
abbrev pub domains : System → ℕ
domains s = min s.domain_count 16

abbrev pub vcpus : System → ℕ
vcpus s = min s.vcpus_per_domain 8

abbrev pub pcpus : System → ℕ
pcpus s = min s.pcpu_count 64

-- vCPU d/v stands at d × 8 + v
abbrev pub vcpu : System → ℕ → ℕ → VirtualCpu
vcpu s d v = get_or s.vcpus (d * 8 + v) (record { state = Offline; runtime = 0; dispatched_at = 0; affinity = 0; last = 0 })

abbrev pub holder : System → ℕ → Occupant
holder s p = (get_or s.pcpus p (record { occupant = Idle })).occupant

-- f 0 is done, then f 1, .. then f (n - 1)
unfoldable pub times : {A : Type 0} → (ℕ → A → A) → ℕ → A → A
times f zero a = a
times f (suc n) a = f n (times f n a)

-- by domain, then vCPU
abbrev pub each : {A : Type 0} → System → (ℕ → ℕ → A → A) → A → A
each s f = times (λ d. times (f d) (vcpus s)) (domains s)

-- ---- The best of a scan: of those that pass, one gives way only to a strictly better one
-- No Option of a pair: `nobody` and `one d v` say what None and a pair would not.
pub data Found : Type 0 where
  nobody : Found
  one : ℕ → ℕ → Found

abbrev pub over : (ℕ → ℕ → Bool) → (ℕ → ℕ → ℕ → ℕ → Bool) → ℕ → ℕ → Found → Found
over passes better d v nobody = cond (passes d v) (one d v) nobody
over passes better d v (one e u) = cond (passes d v && better d v e u) (one d v) (one e u)

abbrev pub best : System → (ℕ → ℕ → Bool) → (ℕ → ℕ → ℕ → ℕ → Bool) → Found
best s passes better = each s (over passes better) nobody
