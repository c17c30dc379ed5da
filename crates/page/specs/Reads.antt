-- The reads of document 01, with 2.1 and 2.6 of document 02: never told 8; an id at or above its count, or its size, is absent.
use Rattle.std.specs.Prelude.{ℕ, ◌+◌, ◌-◌, ◌^◌, Bool, true, false, cond, ◌&&◌, ltb, Option, None, Some}
use Rattle.system.specs.declared.RunState.{RunState}
use Rattle.system.specs.declared.RunState.TheVariants.{Offline, Runnable, Running, Blocked}
use Rattle.system.specs.declared.Occupant.{Occupant}
use Rattle.system.specs.declared.Occupant.TheVariants.{Idle}
use Rattle.system.specs.declared.System.{System}
use Rattle.page.specs.Host.{domains, vcpus, pcpus, vcpu, holder, times}
use Rattle.page.specs.Standing.{in_flight}
use Rattle.page.specs.Next.{admits, is_idle}
use Rattle.system.specs.declared.VirtualCpu.{VirtualCpu}

abbrev pub there : System → ℕ → ℕ → Bool
there s d v = ltb d (domains s) && ltb v (vcpus s)

abbrev pub vcpu_count : System → ℕ → ℕ
vcpu_count s d = cond (ltb d (domains s)) (vcpus s) 0

abbrev pub vcpu_of : System → ℕ → ℕ → Option VirtualCpu
vcpu_of s d v = cond (there s d v) (Some (vcpu s d v)) None

abbrev pub state_of : System → ℕ → ℕ → Option RunState
state_of s d v = cond (there s d v) (Some (vcpu s d v).state) None

abbrev pub running : RunState → Bool
running (Running p) = true
running Offline = false
running Runnable = false
running Blocked = false

abbrev pub is_running : System → ℕ → ℕ → Bool
is_running s d v = there s d v && running (vcpu s d v).state

abbrev pub runtime : System → ℕ → ℕ → Option ℕ
runtime s d v = cond (there s d v) (Some (vcpu s d v).runtime) None

-- the clock of its dispatch, while Running
abbrev pub on_cpu_since : System → ℕ → ℕ → Option ℕ
on_cpu_since s d v = cond (is_running s d v) (Some (vcpu s d v).dispatched_at) None

abbrev pub occupant : System → ℕ → Occupant
occupant s p = cond (ltb p (pcpus s)) (holder s p) Idle

abbrev pub affinity_of : System → ℕ → ℕ → Option ℕ
affinity_of s d v = cond (there s d v) (Some (vcpu s d v).affinity) None

abbrev pub affinity_permits : System → ℕ → ℕ → ℕ → Bool
affinity_permits s d v p = ltb p (pcpus s) && (there s d v && admits (vcpu s d v).affinity p)

abbrev pub full_affinity : System → ℕ
full_affinity s = 2 ^ pcpus s - 1

abbrev pub busy_pcpus : System → ℕ
busy_pcpus s = times (λ p n. n + cond (is_idle (holder s p)) 0 1) (pcpus s) 0

-- 2.1: what a domain used up to a reading, 0 for a bad id
abbrev pub usage : System → ℕ → ℕ → ℕ
usage s d now =
    times (λ v n. let x = vcpu s d v in n + (x.runtime + in_flight x.state (now - x.dispatched_at))) (vcpu_count s d) 0
