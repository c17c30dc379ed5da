-- The counts of a system, each held at its size, and where its vCPUs stand. Assumes nothing.
use Rattle.std.specs.Prelude.{ℕ, ◌+◌, ◌*◌, ◌/◌, ◌%◌, ◌<◌, min, Bool, true, ◌≡◌, ltb}
use Rattle.std.proofs.Common.{arith, ltb-true, lt-ltb}
use Rattle.system.specs.declared.Occupant.TheVariants.{Vcpu}
use Rattle.system.specs.declared.System.{System}

abbrev pub domains : System → ℕ
domains s = min s.domain_count 16

abbrev pub vcpus : System → ℕ
vcpus s = min s.vcpus_per_domain 8

abbrev pub pcpus : System → ℕ
pcpus s = min s.pcpu_count 64

-- vCPU d/v stands at d × 8 + v
abbrev pub slot : ℕ → ℕ → ℕ
slot d v = d * 8 + v

-- where a record is read by ids that may be out of range: always in the table, and at the slot if they are in range
abbrev pub slot_read : ℕ → ℕ → ℕ
slot_read d v = d % 16 * 8 + v % 8

pub slot_read_lem : (d v : ℕ) → d < 16 → v < 8 → slot_read d v ≡ slot d v
slot_read_lem d v a b = omega arith

-- the slots of a system, by domain, then vCPU; not every slot has a vCPU
abbrev pub slots : System → ℕ
slots s = domains s * 8

-- whether one of them has
abbrev pub present : System → ℕ → Bool
present s i = ltb (i % 8) (vcpus s)

-- slot i has a vCPU
pub record Present (s : System) (i : ℕ) : Type 0 where
  pub domain : i / 8 < domains s
  pub vcpu : i % 8 < vcpus s

pub is-present : (s : System) (i : ℕ) → i < slots s → present s i ≡ true → Present s i
is-present s i l e = record { domain = omega arith; vcpu = ltb-true _ _ e }

pub present-is : {s : System} {i : ℕ} → Present s i → (i < slots s) × (present s i ≡ true)
present-is {s} {i} h = (omega (arith, h.domain), lt-ltb _ _ h.vcpu)

-- slots are below 128, and a slot is that of one pair of ids
pub slot-below : {s : System} {i : ℕ} → Present s i → i < 128
slot-below h = omega (arith, h.domain)

pub slot_of : (i : ℕ) → slot (i / 8) (i % 8) ≡ i
slot_of i = omega arith

pub slot-who : (d v : ℕ) → v < 8 → Vcpu (slot d v / 8) (slot d v % 8) ≡ Vcpu d v
slot-who d v l =
    let x : slot d v / 8 ≡ d = omega arith in
    let y : slot d v % 8 ≡ v = omega arith in
    rw (x, y)
