-- What each read of a system gives by the book alone, for ids and readings of any size.
use Rattle.std.specs.Prelude.{ℕ, ◌+◌, ◌-◌, ◌*◌, ◌^◌, ◌≤◌, ◌<◌, true, false, cond, ◌&&◌, ◌≡◌, ◌⊎◌, ltb, None, Some}
use Rattle.masks.specs.Masks.{bit}
use Rattle.system.specs.declared.VirtualCpu.{VirtualCpu}
use Rattle.system.specs.declared.Occupant.TheVariants.{Idle}
use Rattle.system.specs.declared.System.{System}
use Rattle.system.specs.States.{while_running}
use Rattle.system.specs.Slots as slots
use Rattle.system.specs.Reads.{vcpu_of, state_of, is_running, runtime_of, on_cpu_since, affinity_of, affinity_permits}
use Rattle.system.specs.Reads.{occupant_of, vcpu_count, full_affinity, busy_pcpus, count}
use Rattle.verdict.specs.Violations.{first_violation}
use Rattle.scans.specs.Scan.{some}
use Rattle.usage.specs.Usage.{sum, usage}
use Rattle.demand3.specs.Book.{Line, Book, Shape, holder, occupant_by}
use Rattle.demand3.specs.Agreement.{LineSays}
use Rattle.demand3.specs.Lists.{book_service}

-- the reads of d/v, which is there, on a host of n pCPUs: what its line says
pub record ReadsLine (s : System) (d v n : ℕ) (l : Line) : Type 0 where
  -- its record
  pub read : VirtualCpu
  pub vcpu : vcpu_of s d v ≡ Some read
  pub says : LineSays l read
  -- its parts
  pub state : state_of s d v ≡ Some l.state
  pub running : is_running s d v ≡ while_running l.state (λ p. true) false
  pub runtime : runtime_of s d v ≡ Some l.time
  -- the clock of its run, while Running
  pub since : on_cpu_since s d v ≡ while_running l.state (λ p. Some l.clock) None
  pub affinity : affinity_of s d v ≡ Some l.mask
  -- bit p of its mask, for a pCPU that is there
  pub permits : (p : ℕ) → affinity_permits s d v p ≡ (ltb p n && bit l.mask p)

-- the reads of d/v, which is not there
pub record ReadsAbsent (s : System) (d v : ℕ) : Type 0 where
  pub vcpu : vcpu_of s d v ≡ None
  pub state : state_of s d v ≡ None
  pub running : is_running s d v ≡ false
  pub runtime : runtime_of s d v ≡ None
  pub since : on_cpu_since s d v ≡ None
  pub affinity : affinity_of s d v ≡ None
  pub permits : (p : ℕ) → affinity_permits s d v p ≡ false

-- every read of a system, by a book of the shape k
pub record ReadsAgree (k : Shape) (b : Book) (s : System) : Type 0 where
  -- a vCPU
  pub line : (d v : ℕ) → d < k.domains → v < k.vcpus → ReadsLine s d v k.pcpus (b (d * 8 + v))
  pub absent : (d v : ℕ) → (k.domains ≤ d) ⊎ (k.vcpus ≤ v) → ReadsAbsent s d v
  -- what a domain used up to a reading: the services of its vCPUs there
  pub used : (d r : ℕ) → d < k.domains → usage s d r ≡ sum (λ v. book_service b r (d * 8 + v)) k.vcpus
  pub unused : (d r : ℕ) → k.domains ≤ d → usage s d r ≡ 0
  -- who holds a pCPU
  pub occupant : (p : ℕ) → p < k.pcpus → occupant_of s p ≡ occupant_by (holder k b p)
  pub no_occupant : (p : ℕ) → k.pcpus ≤ p → occupant_of s p ≡ Idle
  -- counts
  pub domains : slots.domains s ≡ k.domains
  pub vcpus : (d : ℕ) → vcpu_count s d ≡ cond (ltb d k.domains) k.vcpus 0
  pub pcpus : slots.pcpus s ≡ k.pcpus
  pub busy : busy_pcpus s ≡ count (λ p. some (holder k b p)) k.pcpus
  -- the full mask, and the verdict
  pub full : full_affinity s ≡ 2 ^ k.pcpus - 1
  pub verdict : first_violation s ≡ None
