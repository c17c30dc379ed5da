-- The calls of the mechanism: tests in their order, numbers as the papers list them, what is left.
use Rattle.std.specs.Prelude.{ℕ, ◌+◌, ◌-◌, ◌*◌, ◌%◌, ◌^◌, min, Bool, cond, ◌&&◌, ltb, leb, set, replicate}
use Rattle.system.specs.declared.RunState.{RunState}
use Rattle.system.specs.declared.RunState.TheVariants.{Offline, Runnable, Running, Blocked}
use Rattle.system.specs.declared.VirtualCpu.{VirtualCpu}
use Rattle.system.specs.declared.Occupant.{Occupant}
use Rattle.system.specs.declared.Occupant.TheVariants.{Idle, Vcpu}
use Rattle.system.specs.declared.System.{System}
use Rattle.calls.specs.declared.Request.{Request}
use Rattle.page.specs.Host.{domains, vcpus, pcpus, vcpu, holder, times}
use Rattle.page.specs.Next.{admits, is_idle}
use Rattle.page.specs.Verdict.{sound}

-- ---- What a call is told, and the system that it leaves
pub record Told : Type 0 where
  pub number : ℕ
  pub system : System

abbrev pub refused : ℕ → System → Told
refused n s = record { number = n; system = s }

abbrev pub done : System → Told
done s = record { number = 0; system = s }

abbrev pub test : Bool → ℕ → System → Told → Told
test b n s rest = cond b rest (refused n s)

-- ---- What is written
abbrev pub put_vcpu : System → ℕ → ℕ → VirtualCpu → System
put_vcpu s d v x =
    record {
      domain_count = s.domain_count;
      vcpus_per_domain = s.vcpus_per_domain;
      pcpu_count = s.pcpu_count;
      vcpus = set s.vcpus (d * 8 + v) x;
      pcpus = s.pcpus;
    }

abbrev pub put_holder : System → ℕ → Occupant → System
put_holder s p o =
    record {
      domain_count = s.domain_count;
      vcpus_per_domain = s.vcpus_per_domain;
      pcpu_count = s.pcpu_count;
      vcpus = s.vcpus;
      pcpus = set s.pcpus p (record { occupant = o });
    }

-- state, run time, clock, mask and last pCPU
abbrev pub vc : RunState → ℕ → ℕ → ℕ → ℕ → VirtualCpu
vc st time clock mask last = record { state = st; runtime = time; dispatched_at = clock; affinity = mask; last = last }

abbrev pub full : System → ℕ
full s = 2 ^ min s.pcpu_count 64 - 1

abbrev pub into : VirtualCpu → RunState → VirtualCpu
into x st = vc st x.runtime x.dispatched_at x.affinity x.last

-- off its pCPU: the interval is added, held at 2^64 − 1
abbrev pub ran_for : VirtualCpu → ℕ → ℕ
ran_for x now = min (x.runtime + (now - x.dispatched_at)) (2 ^ 64 - 1)

abbrev pub off : System → ℕ → ℕ → RunState → ℕ → ℕ → System
off s d v st p now =
    let x = vcpu s d v in put_holder (put_vcpu s d v (vc st (ran_for x now) x.dispatched_at x.affinity x.last)) p Idle

-- ---- The calls, by the state in which the vCPU is found. 2.2: a wrong one is told 4 Runnable, 10 Offline, 11 Running, 12 Blocked.
abbrev pub admitting : System → ℕ → ℕ → RunState → Told
admitting s d v Offline = done (put_vcpu s d v (into (vcpu s d v) Runnable))
admitting s d v Runnable = refused 4 s
admitting s d v (Running p) = refused 11 s
admitting s d v Blocked = refused 12 s

-- the mask before the holder
abbrev pub dispatching : System → ℕ → ℕ → ℕ → ℕ → RunState → Told
dispatching s d v p now Runnable =
    let x = vcpu s d v in
    test (admits x.affinity p) 6 s
    (test (is_idle (holder s p)) 5 s (done (put_holder (put_vcpu s d v (vc (Running p) x.runtime now x.affinity p)) p (Vcpu d v))))
dispatching s d v p now Offline = refused 10 s
dispatching s d v p now (Running q) = refused 11 s
dispatching s d v p now Blocked = refused 12 s

abbrev pub preempting : System → ℕ → ℕ → ℕ → RunState → Told
preempting s d v now (Running p) = done (off s d v Runnable p now)
preempting s d v now Offline = refused 10 s
preempting s d v now Runnable = refused 4 s
preempting s d v now Blocked = refused 12 s

abbrev pub blocking : System → ℕ → ℕ → ℕ → RunState → Told
blocking s d v now Runnable = done (put_vcpu s d v (into (vcpu s d v) Blocked))
blocking s d v now (Running p) = done (off s d v Blocked p now)
blocking s d v now Offline = refused 10 s
blocking s d v now Blocked = refused 12 s

abbrev pub waking : System → ℕ → ℕ → RunState → Told
waking s d v Blocked = done (put_vcpu s d v (into (vcpu s d v) Runnable))
waking s d v Offline = refused 10 s
waking s d v Runnable = refused 4 s
waking s d v (Running p) = refused 11 s

-- the mask is filled again, no pCPU is the last, the run time is kept
abbrev pub offlining : System → ℕ → ℕ → ℕ → RunState → Told
offlining s d v now (Running p) =
    let x = vcpu s d v in done (put_holder (put_vcpu s d v (vc Offline (ran_for x now) x.dispatched_at (full s) 64)) p Idle)
offlining s d v now Runnable =
    let x = vcpu s d v in done (put_vcpu s d v (vc Offline x.runtime x.dispatched_at (full s) 64))
offlining s d v now Blocked =
    let x = vcpu s d v in done (put_vcpu s d v (vc Offline x.runtime x.dispatched_at (full s) 64))
offlining s d v now Offline = refused 10 s

-- clipped; not one that excludes the pCPU that it is Running on
abbrev pub masking : System → ℕ → ℕ → ℕ → RunState → Told
masking s d v m st =
    let x = vcpu s d v in
    let stored = done (put_vcpu s d v (vc x.state x.runtime x.dispatched_at m x.last)) in
    while_running st (λ p. test (admits m p) 6 s stored) stored
  where
    while_running : RunState → (ℕ → Told) → Told → Told
    while_running (Running p) f x = f p
    while_running Offline f x = x
    while_running Runnable f x = x
    while_running Blocked f x = x

-- 8 first; `run` then tests 3; all test 1, then 2
abbrev pub asked : System → ℕ → ℕ → Told → Told
asked s d v r = test (ltb d (domains s)) 1 s (test (ltb v (vcpus s)) 2 s r)

abbrev pub admit : System → ℕ → ℕ → Told
admit s d v = test (sound s) 8 s (asked s d v (admitting s d v (vcpu s d v).state))

abbrev pub run : System → ℕ → ℕ → ℕ → ℕ → Told
run s d v p now = test (sound s) 8 s (test (ltb p (pcpus s)) 3 s (asked s d v (dispatching s d v p now (vcpu s d v).state)))

abbrev pub preempt : System → ℕ → ℕ → ℕ → Told
preempt s d v now = test (sound s) 8 s (asked s d v (preempting s d v now (vcpu s d v).state))

abbrev pub block : System → ℕ → ℕ → ℕ → Told
block s d v now = test (sound s) 8 s (asked s d v (blocking s d v now (vcpu s d v).state))

abbrev pub wake : System → ℕ → ℕ → Told
wake s d v = test (sound s) 8 s (asked s d v (waking s d v (vcpu s d v).state))

abbrev pub offline : System → ℕ → ℕ → ℕ → Told
offline s d v now = test (sound s) 8 s (asked s d v (offlining s d v now (vcpu s d v).state))

abbrev pub set_affinity : System → ℕ → ℕ → ℕ → Told
set_affinity s d v m =
    test (sound s) 8 s (asked s d v (masking s d v (m % 2 ^ min s.pcpu_count 64) (vcpu s d v).state))

-- what is asked of d/v
abbrev pub called : System → ℕ → ℕ → Request → Told
called s d v Request.Admit = admit s d v
called s d v (Request.Run p now) = run s d v p now
called s d v (Request.Preempt now) = preempt s d v now
called s d v (Request.Block now) = block s d v now
called s d v Request.Wake = wake s d v
called s d v (Request.SetAffinity m) = set_affinity s d v m
called s d v (Request.Offline now) = offline s d v now

-- a bad domain changes nothing and is told 0
abbrev pub offline_all : System → ℕ → ℕ → Told
offline_all s d now =
    test (sound s) 8 s
    (done (times (λ v t. (offlining t d v now (vcpu t d v).state).system) (cond (ltb d (domains s)) (vcpus s) 0) s))

-- ---- As built: Offline, run time 0, every pCPU admitted, no last pCPU
unfoldable pub new_system : ℕ → ℕ → ℕ → System
new_system d v p =
    record {
      domain_count = d;
      vcpus_per_domain = v;
      pcpu_count = p;
      vcpus = replicate 128 (vc Offline 0 0 (2 ^ min p 64 - 1) 64);
      pcpus = replicate 64 (record { occupant = Idle });
    }

-- 7 above the sizes, beside the one of nothing
abbrev pub new_system_told : ℕ → ℕ → ℕ → Told
new_system_told d v p =
    cond (leb d 16 && (leb v 8 && leb p 64)) (done (new_system d v p)) (refused 7 (new_system 0 0 0))
