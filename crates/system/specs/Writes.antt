-- What a write of one vCPU record, and of one pCPU's occupant, leaves. Assumes nothing.
use Rattle.std.specs.Prelude.{ℕ, ◌<◌, min, ◌≡◌, refl, ◌≢◌, length, set}
use Rattle.std.proofs.Common.{ap, ◌∙◌, arith, length-set, get_or-set_same, get_or-set_other}
use Rattle.system.specs.declared.VirtualCpu.{VirtualCpu}
use Rattle.system.specs.declared.Occupant.{Occupant}
use Rattle.system.specs.declared.PhysicalCpu.{PhysicalCpu}
use Rattle.system.specs.declared.System.{System}
use Rattle.system.specs.Shape.{no_vcpu, idle}
use Rattle.system.specs.Slots.{pcpus, Present}
use Rattle.system.specs.Reads.{vcpu_at, occupant_at}

-- the system with another record at slot i
unfoldable pub put_vcpu : System → ℕ → VirtualCpu → System
put_vcpu s i v =
    record {
      domain_count = s.domain_count;
      vcpus_per_domain = s.vcpus_per_domain;
      pcpu_count = s.pcpu_count;
      vcpus = set s.vcpus i v;
      pcpus = s.pcpus;
    }

-- the system with another occupant of pCPU p
unfoldable pub put_occupant : System → ℕ → Occupant → System
put_occupant s p o =
    record {
      domain_count = s.domain_count;
      vcpus_per_domain = s.vcpus_per_domain;
      pcpu_count = s.pcpu_count;
      vcpus = s.vcpus;
      pcpus = set s.pcpus p (record { occupant = o });
    }

-- the arrays are as long as the code's
pub record Tables (s : System) : Type 0 where
  pub vcpus : length s.vcpus ≡ 128
  pub pcpus : length s.pcpus ≡ 64

-- the shape of s' is that of s
pub record SameShape (s s' : System) : Type 0 where
  pub domains : s'.domain_count ≡ s.domain_count
  pub vcpus : s'.vcpus_per_domain ≡ s.vcpus_per_domain
  pub pcpus : s'.pcpu_count ≡ s.pcpu_count
  pub tables : Tables s → Tables s'

pub shape-refl : (s : System) → SameShape s s
shape-refl s = record { domains = refl; vcpus = refl; pcpus = refl; tables = λ t. t }

pub shape-trans : {a b c : System} → SameShape a b → SameShape b c → SameShape a c
shape-trans x y =
    record {
      domains = y.domains ∙ x.domains;
      vcpus = y.vcpus ∙ x.vcpus;
      pcpus = y.pcpus ∙ x.pcpus;
      tables = λ t. y.tables (x.tables t);
    }

-- a system of the same shape has the same vCPUs and pCPUs
pub same-pcpus : {s s' : System} → SameShape s s' → pcpus s' ≡ pcpus s
same-pcpus h = ap (λ (n : ℕ). min n 64) h.pcpus

pub present-back : {s s' : System} {i : ℕ} → SameShape s s' → Present s' i → Present s i
present-back h k = record { domain = omega (arith, h.domains, k.domain); vcpu = omega (arith, h.vcpus, k.vcpu) }

pub present-on : {s s' : System} {i : ℕ} → SameShape s s' → Present s i → Present s' i
present-on h k = record { domain = omega (arith, h.domains, k.domain); vcpu = omega (arith, h.vcpus, k.vcpu) }

-- neither write changes the shape
pub vcpu-shape : (s : System) (i : ℕ) (v : VirtualCpu) → SameShape s (put_vcpu s i v)
unfolding put_vcpu
vcpu-shape s i v =
    record {
      domains = refl;
      vcpus = refl;
      pcpus = refl;
      tables = λ t. record { vcpus = length-set s.vcpus i v ∙ t.vcpus; pcpus = t.pcpus };
    }

pub occupant-shape : (s : System) (p : ℕ) (o : Occupant) → SameShape s (put_occupant s p o)
unfolding put_occupant
occupant-shape s p o =
    record {
      domains = refl;
      vcpus = refl;
      pcpus = refl;
      tables = λ t. record { vcpus = t.vcpus; pcpus = length-set s.pcpus p (record { occupant = o }) ∙ t.pcpus };
    }

-- s' is s but for what stands at slot i and who holds pCPU p
pub record Wrote (s s' : System) (i : ℕ) (v : VirtualCpu) (p : ℕ) (o : Occupant) : Type 0 where
  pub shape : SameShape s s'
  pub here : vcpu_at s' i ≡ v
  pub there : (j : ℕ) → j ≢ i → vcpu_at s' j ≡ vcpu_at s j
  pub onto : occupant_at s' p ≡ o
  pub others : (q : ℕ) → q ≢ p → occupant_at s' q ≡ occupant_at s q

pub wrote-vcpu : (s : System) (i : ℕ) (v : VirtualCpu) (p : ℕ) → Tables s → i < 128 → Wrote s (put_vcpu s i v) i v p (occupant_at s p)
unfolding vcpu_at occupant_at put_vcpu
wrote-vcpu s i v p t hi =
    record {
      shape = vcpu-shape s i v;
      here = get_or-set_same s.vcpus i v no_vcpu (omega (arith, t.vcpus));
      there = λ j n. get_or-set_other s.vcpus i j v no_vcpu n;
      onto = refl;
      others = λ q n. refl;
    }

abbrev occ : PhysicalCpu → Occupant
occ c = c.occupant

pub wrote-both : (s : System) (i : ℕ) (v : VirtualCpu) (p : ℕ) (o : Occupant) → Tables s → i < 128 → p < 64
    → Wrote s (put_occupant (put_vcpu s i v) p o) i v p o
unfolding vcpu_at occupant_at put_vcpu put_occupant
wrote-both s i v p o t hi hp =
    let w = wrote-vcpu s i v p t hi in
    record {
      shape = shape-trans w.shape (occupant-shape (put_vcpu s i v) p o);
      here = w.here;
      there = w.there;
      onto = ap occ (get_or-set_same s.pcpus p (record { occupant = o }) idle (omega (arith, t.pcpus)));
      others = λ q n. ap occ (get_or-set_other s.pcpus p q (record { occupant = o }) idle n);
    }
