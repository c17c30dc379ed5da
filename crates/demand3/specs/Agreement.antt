-- When the book and the system agree, and when they are in step.
use Rattle.std.specs.Prelude.{ℕ, ◌/◌, ◌%◌, ◌<◌, ◌≡◌}
use Rattle.system.specs.declared.RunState.TheVariants.{Running}
use Rattle.system.specs.declared.VirtualCpu.{VirtualCpu}
use Rattle.system.specs.declared.System.{System}
use Rattle.system.specs.Reads.{vcpu_at, occupant_at}
use Rattle.system.specs.Slots.{Present}
use Rattle.system.specs.Writes.{Tables}
use Rattle.verdict.specs.Sound.{Sound}
use Rattle.demand3.specs.Book.{Line, Book, Shape, holder, occupant_by}

-- a line says what a record has; the clock counts only while Running
pub record LineSays (l : Line) (v : VirtualCpu) : Type 0 where
  pub state : l.state ≡ v.state
  pub time : l.time ≡ v.runtime
  pub mask : l.mask ≡ v.affinity
  pub clock : (p : ℕ) → v.state ≡ Running p → l.clock ≡ v.dispatched_at

-- slot i has a vCPU on a host of that shape
pub record PresentIn (k : Shape) (i : ℕ) : Type 0 where
  pub domain : i / 8 < k.domains
  pub vcpu : i % 8 < k.vcpus

-- the system's counts are those of the shape
pub record Shaped (k : Shape) (s : System) : Type 0 where
  pub domains : s.domain_count ≡ k.domains
  pub vcpus : s.vcpus_per_domain ≡ k.vcpus
  pub pcpus : s.pcpu_count ≡ k.pcpus

-- the book and the system agree: on the shape, on the state, run time, mask and clock of each vCPU, and on who holds each pCPU
pub record Agrees (k : Shape) (b : Book) (s : System) : Type 0 where
  pub shape : Shaped k s
  pub lines : (i : ℕ) → PresentIn k i → LineSays (b i) (vcpu_at s i)
  pub holders : (p : ℕ) → p < k.pcpus → occupant_at s p ≡ occupant_by (holder k b p)

-- ---- what every call keeps

-- what the book says of each vCPU that the system has
pub record Lines (b : Book) (s : System) : Type 0 where
  pub says : (i : ℕ) → Present s i → LineSays (b i) (vcpu_at s i)

-- a system in step with its book: whole, sound, of the shape, and as its lines say
pub record InStep (k : Shape) (b : Book) (s : System) : Type 0 where
  pub tables : Tables s
  pub sound : Sound s
  pub shaped : Shaped k s
  pub lines : Lines b s
