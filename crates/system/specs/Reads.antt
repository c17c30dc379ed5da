-- What can be read of a system, damaged or not.
use Rattle.std.specs.Prelude.{ℕ, zero, suc, ◌+◌, ◌<◌, min, Bool, true, false, cond, not, ◌&&◌, ◌≡◌, refl, List, Option, None, Some, ltb, get_or}
use Rattle.std.proofs.lemmas.Bool.{false≢true}
use Rattle.std.proofs.Common.{ap, ap₂, arith}
use Rattle.masks.specs.Masks.{permits, full_mask}
use Rattle.system.specs.declared.RunState.{RunState}
use Rattle.system.specs.declared.VirtualCpu.{VirtualCpu}
use Rattle.system.specs.declared.Occupant.{Occupant}
use Rattle.system.specs.declared.Occupant.TheVariants.{Idle, Vcpu}
use Rattle.system.specs.declared.PhysicalCpu.{PhysicalCpu}
use Rattle.system.specs.declared.System.{System}
use Rattle.system.specs.States.{while_running, schedulable}
use Rattle.system.specs.Shape.{no_vcpu, idle}
use Rattle.system.specs.Slots.{domains, vcpus, pcpus, slot}

-- what stands at a slot, and who holds a pCPU; past the tables nothing does, and nobody
unfoldable pub vcpu_at : System → ℕ → VirtualCpu
vcpu_at s i = get_or s.vcpus i no_vcpu

unfoldable pub occupant_at : System → ℕ → Occupant
occupant_at s p = (get_or s.pcpus p idle).occupant

abbrev pub state_at : System → ℕ → RunState
state_at s i = (vcpu_at s i).state

abbrev pub runtime_at : System → ℕ → ℕ
runtime_at s i = (vcpu_at s i).runtime

-- the mask of the vCPU at slot i admits pCPU p
abbrev pub admits : System → ℕ → ℕ → Bool
admits s i p = permits (vcpu_at s i).affinity p

-- the pCPU that it was last on
abbrev pub last_at : System → ℕ → ℕ
last_at s i = (vcpu_at s i).last

-- it is in the pool
abbrev pub pooled : System → ℕ → Bool
pooled s i = schedulable (state_at s i)

abbrev pub is_idle : Occupant → Bool
is_idle Idle = true
is_idle (Vcpu d v) = false

pub is-idle : (o : Occupant) → is_idle o ≡ true → o ≡ Idle
is-idle Idle e = refl
is-idle (Vcpu d v) e = absurd (false≢true e)

-- pCPU p exists and is idle
abbrev pub idle_at : System → ℕ → Bool
idle_at s p = ltb p (pcpus s) && is_idle (occupant_at s p)

-- an id at or above its count is absent
unfoldable pub vcpu_of : System → ℕ → ℕ → Option VirtualCpu
vcpu_of s d v = cond (ltb d (domains s) && ltb v (vcpus s)) (Some (vcpu_at s (slot d v))) None

abbrev pub vcpu_count : System → ℕ → ℕ
vcpu_count s d = cond (ltb d (domains s)) (vcpus s) 0

abbrev pub state_in : Option VirtualCpu → Option RunState
state_in None = None
state_in (Some v) = Some v.state

abbrev pub state_of : System → ℕ → ℕ → Option RunState
state_of s d v = state_in (vcpu_of s d v)

abbrev pub runs : Option RunState → Bool
runs None = false
runs (Some st) = while_running st (λ p. true) false

abbrev pub is_running : System → ℕ → ℕ → Bool
is_running s d v = runs (state_of s d v)

abbrev pub runtime_in : Option VirtualCpu → Option ℕ
runtime_in None = None
runtime_in (Some v) = Some v.runtime

abbrev pub runtime_of : System → ℕ → ℕ → Option ℕ
runtime_of s d v = runtime_in (vcpu_of s d v)

-- the clock of a Running vCPU's dispatch
abbrev pub since : RunState → ℕ → Option ℕ
since st t = while_running st (λ p. Some t) None

abbrev pub since_in : Option VirtualCpu → Option ℕ
since_in None = None
since_in (Some v) = since v.state v.dispatched_at

abbrev pub on_cpu_since : System → ℕ → ℕ → Option ℕ
on_cpu_since s d v = since_in (vcpu_of s d v)

abbrev pub occupant_of : System → ℕ → Occupant
occupant_of s p = cond (ltb p (pcpus s)) (occupant_at s p) Idle

abbrev pub affinity_in : Option VirtualCpu → Option ℕ
affinity_in None = None
affinity_in (Some v) = Some v.affinity

abbrev pub affinity_of : System → ℕ → ℕ → Option ℕ
affinity_of s d v = affinity_in (vcpu_of s d v)

abbrev pub permits_in : Option VirtualCpu → ℕ → Bool
permits_in None p = false
permits_in (Some v) p = permits v.affinity p

abbrev pub affinity_permits : System → ℕ → ℕ → ℕ → Bool
affinity_permits s d v p = ltb p (pcpus s) && permits_in (vcpu_of s d v) p

abbrev pub full_affinity : System → ℕ
full_affinity s = full_mask s.pcpu_count

-- how many numbers below n have f
unfoldable pub count : (ℕ → Bool) → ℕ → ℕ
count f zero = 0
count f (suc n) = count f n + cond (f n) 1 0

-- it depends only on what f says of these
pub count_same : (f g : ℕ → Bool) (n : ℕ) → ((i : ℕ) → i < n → f i ≡ g i) → count f n ≡ count g n
unfolding count
count_same f g zero h = refl
count_same f g (suc n) h =
    ap₂ ◌+◌ (count_same f g n (λ i l. h i (omega arith))) (ap (λ (b : Bool). cond b 1 0) (h n (omega arith)))

-- how many of the first n pCPUs of a table somebody holds
abbrev pub busy_in : List PhysicalCpu → ℕ → ℕ
busy_in held n = count (λ p. not (is_idle (get_or held p idle).occupant)) (min n 64)

abbrev pub busy_pcpus : System → ℕ
busy_pcpus s = busy_in s.pcpus s.pcpu_count
