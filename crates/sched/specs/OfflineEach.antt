-- `offline_all` is `offline` of each vCPU of the domain, in order.
use Rattle.std.specs.Prelude.{ℕ, zero, suc, ◌<◌, ◌≡◌}
use Rattle.system.specs.declared.RunState.TheVariants.{Offline}
use Rattle.system.specs.declared.System.{System}
use Rattle.system.specs.declared.Answer.TheVariants.{Done}
use Rattle.system.specs.Answers.{told}
use Rattle.system.specs.Reads.{state_at, vcpu_count}
use Rattle.system.specs.Slots.{slot}
use Rattle.system.specs.Writes.{Tables}
use Rattle.verdict.specs.Sound.{Sound}
use Rattle.changes.specs.Changes.{found_in}
use Rattle.sched.specs.Steps.{refused, done, offline, offline_all}

-- the system after the call `offline` of the first k vCPUs of domain d, one after another
unfoldable pub offlined_each : System → ℕ → ℕ → ℕ → System
offlined_each s d now zero = s
offlined_each s d now (suc k) = (offline (offlined_each s d now k) d k now).system

pub record OfflinesEach (s : System) (d now : ℕ) : Type 0 where
  -- it is told 0, and leaves what these calls leave; a bad domain has no vCPUs
  pub is : offline_all s d now ≡ done (offlined_each s d now (vcpu_count s d))
  -- each of a vCPU that was not Offline is told 0
  pub live : (k : ℕ) → k < vcpu_count s d → (state_at s (slot d k) ≡ Offline → ⊥)
      → (offline (offlined_each s d now k) d k now).number ≡ told Done
  -- one of a vCPU that was is refused, and changes nothing
  pub down : (k : ℕ) → k < vcpu_count s d → state_at s (slot d k) ≡ Offline
      → offline (offlined_each s d now k) d k now ≡ refused (found_in Offline) (offlined_each s d now k)
  -- then all are Offline
  pub all : (k : ℕ) → k < vcpu_count s d → state_at (offline_all s d now).system (slot d k) ≡ Offline

-- of every sound system; it is proved as `offline-all-each`
abbrev pub OfflineAllEach : Type 0
OfflineAllEach = (s : System) → Tables s → Sound s → (d now : ℕ) → OfflinesEach s d now
