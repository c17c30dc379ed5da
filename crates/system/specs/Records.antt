-- One vCPU's record, and how long it has run. Assumes nothing.
use Rattle.std.specs.Prelude.{ℕ, ◌+◌, ◌-◌, ◌^◌, ◌≤◌, ◌<◌}
use Rattle.std.proofs.Common.{arith}
use Rattle.system.specs.declared.RunState.{RunState}
use Rattle.system.specs.declared.RunState.TheVariants.{Offline, Runnable, Running, Blocked}
use Rattle.system.specs.declared.VirtualCpu.{VirtualCpu}
use Rattle.system.specs.States.{while_running}

-- what stands for no pCPU: a mask admits none from 64 up
abbrev pub no_pcpu : ℕ
no_pcpu = 64

-- with another mask
abbrev pub with_mask : VirtualCpu → ℕ → VirtualCpu
with_mask v m =
    record { state = v.state; runtime = v.runtime; dispatched_at = v.dispatched_at; affinity = m; last = v.last }

-- max(0, now − dispatched)
abbrev pub elapsed : VirtualCpu → ℕ → ℕ
elapsed v now = now - v.dispatched_at

-- the part in flight: max(0, now − dispatched) while Running
abbrev pub flight : VirtualCpu → ℕ → RunState → ℕ
flight v now st = while_running st (λ p. elapsed v now) 0

unfoldable pub in_flight : VirtualCpu → ℕ → ℕ
in_flight v now = flight v now v.state

-- it is never longer than the clock has run
in_flight-most : (v : VirtualCpu) (now : ℕ) → in_flight v now ≤ now
unfolding in_flight
in_flight-most v now = go v.state
  where
    go : (st : RunState) → flight v now st ≤ now
    go Offline = omega arith
    go Runnable = omega arith
    go (Running p) = omega arith
    go Blocked = omega arith

-- run time up to a reading: over closed intervals, and the part in flight
abbrev pub runtime_until : VirtualCpu → ℕ → ℕ
runtime_until v now = v.runtime + in_flight v now

-- of numbers of 64 bits it has at most 65
pub until-below : (v : VirtualCpu) (now : ℕ) → v.runtime < 2 ^ 64 → now < 2 ^ 64 → runtime_until v now < 2 ^ 65
until-below v now a b = omega (arith, a, b, in_flight-most v now)
