-- What a domain used, as the reading changes. That the figure is exact is promised by the function itself. Assumes nothing.
use Rattle.std.specs.Prelude.{ℕ, ◌+◌, ◌≤◌, ◌<◌, ◌≡◌, refl}
use Rattle.std.proofs.Common.{arith}
use Rattle.system.specs.declared.RunState.{RunState}
use Rattle.system.specs.declared.RunState.TheVariants.{Offline, Runnable, Running, Blocked}
use Rattle.system.specs.declared.VirtualCpu.{VirtualCpu}
use Rattle.system.specs.declared.System.{System}
use Rattle.system.specs.Records.{flight, in_flight, runtime_until}
use Rattle.system.specs.Reads.{vcpu_at, vcpu_count, state_at, runtime_at}
use Rattle.system.specs.Slots.{slot}
use Rattle.usage.specs.Usage.{sum, usage}
use Rattle.usage.specs.Sums.{sum_same, sum-most}

-- ---- one vCPU

-- of one that is not Running the reading does not matter
pub closed-alone : (v : VirtualCpu) (now : ℕ) → ((p : ℕ) → v.state ≡ Running p → ⊥) → runtime_until v now ≡ v.runtime
unfolding in_flight
closed-alone v now rests = go v.state rests
  where
    go : (st : RunState) → ((p : ℕ) → st ≡ Running p → ⊥) → v.runtime + flight v now st ≡ v.runtime
    go Offline n = omega arith
    go Runnable n = omega arith
    go (Running p) n = absurd (n p refl)
    go Blocked n = omega arith

-- it never falls as the reading grows
pub until-grows : (v : VirtualCpu) (now later : ℕ) → now ≤ later → runtime_until v now ≤ runtime_until v later
unfolding in_flight
until-grows v now later l = go v.state
  where
    go : (st : RunState) → v.runtime + flight v now st ≤ v.runtime + flight v later st
    go Offline = omega arith
    go Runnable = omega arith
    go (Running p) = omega arith
    go Blocked = omega arith

-- ---- a domain

module _ (s : System) (d : ℕ) where
  -- with none of its vCPUs Running, it is the sum of the run times over closed intervals, whatever the reading
  pub usage-closed : (now : ℕ) → ((v p : ℕ) → v < vcpu_count s d → state_at s (slot d v) ≡ Running p → ⊥)
      → usage s d now ≡ sum (λ v. runtime_at s (slot d v)) (vcpu_count s d)
  usage-closed now rests = sum_same _ _ (vcpu_count s d) (λ v l. closed-alone (vcpu_at s (slot d v)) now (λ p. rests v p l))

  -- it never falls as the reading grows
  pub usage-grows : (now later : ℕ) → now ≤ later → usage s d now ≤ usage s d later
  usage-grows now later l = sum-most _ _ (vcpu_count s d) (λ v m. until-grows (vcpu_at s (slot d v)) now later l)
