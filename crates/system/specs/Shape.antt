-- How large a host can be, and a system as built.
use Rattle.std.specs.Prelude.{ℕ, Bool, cond, ◌&&◌, leb, replicate, Result, Ok, Err}
use Rattle.masks.specs.Masks.{full_mask}
use Rattle.system.specs.declared.RunState.TheVariants.{Offline}
use Rattle.system.specs.declared.VirtualCpu.{VirtualCpu}
use Rattle.system.specs.declared.Occupant.TheVariants.{Idle}
use Rattle.system.specs.declared.PhysicalCpu.{PhysicalCpu}
use Rattle.system.specs.declared.System.{System}
use Rattle.system.specs.declared.Answer.{Answer}
use Rattle.system.specs.declared.Answer.TheVariants.{Done, TooLarge}
use Rattle.system.specs.Answers.{told, SystemOutcome}
use Rattle.system.specs.Records.{no_pcpu, with_mask}

-- what every vCPU record starts from
abbrev pub offline_vcpu : VirtualCpu
offline_vcpu = record { state = Offline; runtime = 0; dispatched_at = 0; affinity = 0; last = no_pcpu }

-- what is read past the table of vCPUs
abbrev pub no_vcpu : VirtualCpu
no_vcpu = record { state = Offline; runtime = 0; dispatched_at = 0; affinity = 0; last = 0 }

-- a pCPU that nobody holds
abbrev pub idle : PhysicalCpu
idle = record { occupant = Idle }

-- 0 to 16 domains, 0 to 8 vCPUs in each, 0 to 64 pCPUs
abbrev pub within_sizes : ℕ → ℕ → ℕ → Bool
within_sizes d v p = leb d 16 && (leb v 8 && leb p 64)

-- a vCPU as built on a host of p pCPUs: Offline, every pCPU admitted, dispatched onto none
abbrev pub blank : ℕ → VirtualCpu
blank p = with_mask offline_vcpu (full_mask p)

-- a system as built
unfoldable pub fresh : ℕ → ℕ → ℕ → System
fresh d v p =
    record {
      domain_count = d;
      vcpus_per_domain = v;
      pcpu_count = p;
      vcpus = replicate 128 (blank p);
      pcpus = replicate 64 idle;
    }

-- what building hands back: beside a refusal stands the system of no domains, vCPUs and pCPUs
abbrev pub built_outcome : Result System Answer → SystemOutcome
built_outcome (Ok s) = record { number = told Done; system = s }
built_outcome (Err a) = record { number = told a; system = fresh 0 0 0 }

-- a shape above the sizes is told 7, beside the system of no domains, vCPUs and pCPUs
abbrev pub built_system : ℕ → ℕ → ℕ → SystemOutcome
built_system d v p =
    cond (within_sizes d v p) (record { number = told Done; system = fresh d v p }) (record { number = told TooLarge; system = fresh 0 0 0 })
