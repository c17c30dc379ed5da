-- A system as built is sound. Assumes nothing.
use Prim.Native.Nat.{ℕ, ◌≤◌, ◌<◌}
use mathlib.Core.Path.{◌≡◌, sym, ◌∙◌, ap}
use native.Mathlib.Omega.{arith}
use lib.ListN.{length-replicate, get_or-replicate}
use Rattle.scans.specs.Booleans.{zero_one}
use Rattle.system.specs.declared.RunState.TheVariants.{Offline, Running}
use Rattle.system.specs.declared.VirtualCpu.{VirtualCpu}
use Rattle.system.specs.declared.Occupant.TheVariants.{Idle, Vcpu}
use Rattle.system.specs.declared.PhysicalCpu.{PhysicalCpu}
use Rattle.system.specs.Shape.{no_vcpu, idle, blank, fresh}
use Rattle.system.specs.Reads.{vcpu_at, occupant_at}
use Rattle.system.specs.Writes.{Tables}
use Rattle.system.specs.Slots.{slot-below}
use Rattle.verdict.specs.Sound.{Sound}

pub fresh-tables : (d v p : ℕ) → Tables (fresh d v p)
unfolding fresh
fresh-tables d v p = record { vcpus = length-replicate 128 (blank p); pcpus = length-replicate 64 idle }

pub fresh-vcpu : (d v p i : ℕ) → i < 128 → vcpu_at (fresh d v p) i ≡ blank p
unfolding fresh vcpu_at
fresh-vcpu d v p i h = get_or-replicate 128 i (blank p) no_vcpu h

pub fresh-occupant : (d v p q : ℕ) → q < 64 → occupant_at (fresh d v p) q ≡ Idle
unfolding fresh occupant_at
fresh-occupant d v p q h = ap (λ (c : PhysicalCpu). c.occupant) (get_or-replicate 64 q idle idle h)

pub fresh-sound : (d v p : ℕ) → d ≤ 16 → v ≤ 8 → p ≤ 64 → Sound (fresh d v p)
unfolding fresh
fresh-sound d v p hd hv hp =
    record {
      domains = hd;
      vcpus = hv;
      pcpus = hp;
      runs = λ i q h e. absurd (off (sym (ap (λ (x : VirtualCpu). x.state) (fresh-vcpu d v p i (slot-below h))) ∙ e));
      occupied = λ q e u l o. absurd (free (sym (fresh-occupant d v p q (omega arith)) ∙ o));
    }
  where
    off : {q : ℕ} → Offline ≡ Running q → ⊥
    off e = zero_one cc

    free : {a b : ℕ} → Idle ≡ Vcpu a b → ⊥
    free e = zero_one cc
