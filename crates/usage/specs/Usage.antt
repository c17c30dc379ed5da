-- What a domain used up to a clock reading.
use Rattle.std.specs.Prelude.{ℕ, zero, suc, ◌+◌}
use Rattle.system.specs.declared.System.{System}
use Rattle.system.specs.Records.{runtime_until}
use Rattle.system.specs.Reads.{vcpu_at, vcpu_count}
use Rattle.system.specs.Slots.{slot}

-- f summed over the numbers below n
unfoldable pub sum : (ℕ → ℕ) → ℕ → ℕ
sum f zero = 0
sum f (suc n) = sum f n + f n

-- the run times of its vCPUs up to the reading; a bad domain has none
abbrev pub usage : System → ℕ → ℕ → ℕ
usage s d now = sum (λ v. runtime_until (vcpu_at s (slot d v)) now) (vcpu_count s d)
