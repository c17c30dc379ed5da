-- The figures of a host that are written at a reading, and the usage that a file says.
use Rattle.std.specs.Prelude.{ℕ, List}
use Rattle.system.specs.declared.System.{System}
use Rattle.system.specs.Records.{runtime_until}
use Rattle.system.specs.Reads.{vcpu_at}
use Rattle.system.specs.Slots.{domains, vcpus, slot}
use Rattle.policy.specs.declared.Scheduler.{Scheduler}
use Rattle.policy.specs.Accounts.{weight_of}
use Rattle.usage.specs.Usage.{sum}
use Rattle.usage_layout.specs.Layout.{Figures}
use Rattle.usage_layout.specs.Reading.{vcpus_in, body_in, service_in}

-- as reads see the host: its counts held at the sizes, weights as looked up, run times up to the reading
unfoldable pub figures_of : System → Scheduler → ℕ → Figures
figures_of s π now =
    record {
      domains = domains s;
      vcpus = vcpus s;
      weight = weight_of π;
      service = λ d v. runtime_until (vcpu_at s (slot d v)) now;
    }

-- the services that the body of domain d says, added up
abbrev pub usage_in : List ℕ → ℕ → ℕ
usage_in l d = sum (service_in (body_in l d)) (vcpus_in l d)
