-- The first violation is the page's, of any system. Assumes nothing.
use Rattle.std.specs.Prelude.{Option, None, Some, is_none}
use Rattle.std.specs.Option.{option_or}
use Prim.Native.Nat.{ℕ, zero, suc, ◌*◌, ◌/◌, ◌%◌, ◌≤◌}
use mathlib.Core.Bool.{Bool, true, false, cond, ◌&&◌}
use mathlib.Core.Path.{◌≡◌, refl, sym, ◌∙◌, ap, ap₂}
use native.Mathlib.Omega.{arith}
use lib.Dec.{ltb, leb}
use Rattle.system.specs.declared.RunState.{RunState}
use Rattle.system.specs.declared.RunState.TheVariants.{Offline, Runnable, Running, Blocked}
use Rattle.system.specs.declared.VirtualCpu.{VirtualCpu}
use Rattle.system.specs.declared.Occupant.{Occupant}
use Rattle.system.specs.declared.Occupant.TheVariants.{Idle, Vcpu}
use Rattle.system.specs.declared.System.{System}
use Rattle.system.specs.States as states
use Rattle.system.specs.Reads.{vcpu_at, occupant_at}
use Rattle.verdict.specs.declared.Violation.{Violation}
use Rattle.verdict.specs.declared.Violation.TheVariants.{Oversize, OccupantGhost, OccupantNotRunning}
use Rattle.verdict.specs.declared.Violation.TheVariants.{RunningGhostPcpu, OccupancyBroken, RunningOffAffinity}
use Rattle.verdict.specs.Violations as verdict
use Rattle.verdict.specs.Violations.{earliest, slot_violation, pcpu_violation, vcpu_violation, holder_violation, invariants_hold}
use Rattle.page.specs.Page as page
use Rattle.page.specs.Page.{times, vcpu, holder, admits}
use Rattle.page.specs.Page.{first, vcpu_wrong, pcpu_wrong, sound}
use Rattle.page.proofs.Loops.{by_slot, by_slots}
use Rattle.page.proofs.Standing.{vcpu-is}

or_is : (a w : Option Violation) → option_or a w ≡ first a w
or_is None w = refl
or_is (Some v) w = refl

or_none : (a : Option Violation) → first a None ≡ a
or_none None = refl
or_none (Some v) = refl

or_or : (a b c : Option Violation) → first a (first b c) ≡ first (first a b) c
or_or None b c = refl
or_or (Some v) b c = refl

-- from what was found before
from : (f : ℕ → Option Violation) (n : ℕ) (a : Option Violation) → first a (earliest f n) ≡ times (λ p found. first found (f p)) n a
unfolding earliest times
from f zero a = or_none a
from f (suc n) a = ap (first a) (or_is (earliest f n) (f n)) ∙ (or_or a (earliest f n) (f n) ∙ ap (λ (x : Option Violation). first x (f n)) (from f n a))

names-is : (o : Occupant) (d v : ℕ) → verdict.names o d v ≡ page.names o d v
names-is Idle d v = refl
names-is (Vcpu e u) d v = refl

pub runs-on-is : (st : RunState) (p : ℕ) → states.runs_on p st ≡ page.runs_on st p
runs-on-is Offline p = refl
runs-on-is Runnable p = refl
runs-on-is (Running q) p = refl
runs-on-is Blocked p = refl

module _ (s : System) where
  small : page.vcpus s ≤ 8
  small = omega arith

  vcpu_wrong_lem : (d v : ℕ) (st : RunState) → vcpu_violation s d v (vcpu s d v).affinity st ≡ vcpu_wrong s d v st
  unfolding occupant_at
  vcpu_wrong_lem d v Offline = refl
  vcpu_wrong_lem d v Runnable = refl
  vcpu_wrong_lem d v (Running p) =
      ap (λ (b : Bool). cond (ltb p (page.pcpus s)) (cond b (cond (admits (vcpu s d v).affinity p) None (Some (RunningOffAffinity d v))) (Some (OccupancyBroken d v))) (Some (RunningGhostPcpu d v)))
      (names-is (holder s p) d v)
  vcpu_wrong_lem d v Blocked = refl

  abbrev wrong_at : ℕ → ℕ → Option Violation
  wrong_at d v = vcpu_wrong s d v (vcpu s d v).state

  slot_wrong : (i : ℕ) → slot_violation s i ≡ cond (ltb (i % 8) (page.vcpus s)) (wrong_at (i / 8) (i % 8)) None
  unfolding slot_violation
  slot_wrong i =
      ap (λ (x : Option Violation). cond (ltb (i % 8) (page.vcpus s)) x None)
      (ap (λ (x : VirtualCpu). vcpu_violation s (i / 8) (i % 8) x.affinity x.state) (vcpu-is s i)
      ∙ vcpu_wrong_lem (i / 8) (i % 8) (vcpu s (i / 8) (i % 8)).state)

  holder_wrong : (p : ℕ) (o : Occupant) → holder_violation s p o ≡ pcpu_wrong s p o
  unfolding vcpu_at
  holder_wrong p Idle = refl
  holder_wrong p (Vcpu d v) =
      ap (λ (b : Bool). cond (ltb d (page.domains s) && ltb v (page.vcpus s)) (cond b None (Some (OccupantNotRunning p))) (Some (OccupantGhost p)))
      (runs-on-is (vcpu s d v).state p)

  pcpu_wrong_lem : (p : ℕ) → pcpu_violation s p ≡ pcpu_wrong s p (holder s p)
  unfolding pcpu_violation occupant_at
  pcpu_wrong_lem p = holder_wrong p (holder s p)

  slots_wrong : (n : ℕ) → earliest (slot_violation s) n ≡ times (by_slot (λ d v found. first found (wrong_at d v)) (page.vcpus s) small) n None
  unfolding earliest times
  slots_wrong zero = refl
  slots_wrong (suc n) =
      or_is (earliest (slot_violation s) n) (slot_violation s n)
      ∙ (ap₂ first (slots_wrong n) (slot_wrong n) ∙ turn (ltb (n % 8) (page.vcpus s)) (times (by_slot (λ d v found. first found (wrong_at d v)) (page.vcpus s) small) n None) (wrong_at (n / 8) (n % 8)))
    where
      turn : (t : Bool) (a w : Option Violation) → first a (cond t w None) ≡ cond t (first a w) a
      turn true a w = refl
      turn false a w = or_none a

  pcpus_wrong : (n : ℕ) (a : Option Violation)
      → times (λ p found. first found (pcpu_violation s p)) n a ≡ times (λ p found. first found (pcpu_wrong s p (holder s p))) n a
  unfolding times
  pcpus_wrong zero a = refl
  pcpus_wrong (suc n) a = ap₂ first (pcpus_wrong n a) (pcpu_wrong_lem n)

  pub first_violation_is : verdict.first_violation s ≡ page.first_violation s
  unfolding verdict.first_violation page.first_violation
  first_violation_is =
      let before = earliest (slot_violation s) (page.domains s * 8) in
      ap (λ (x : Option Violation). cond (leb s.domain_count 16 && (leb s.vcpus_per_domain 8 && leb s.pcpu_count 64)) x (Some Oversize))
      (or_is before (earliest (pcpu_violation s) (page.pcpus s)) ∙ (from (pcpu_violation s) (page.pcpus s) before ∙ (pcpus_wrong (page.pcpus s) before
      ∙ ap (times (λ p found. first found (pcpu_wrong s p (holder s p))) (page.pcpus s))
      (slots_wrong (page.domains s * 8) ∙ sym (by_slots (λ d v found. first found (wrong_at d v)) (page.vcpus s) small (page.domains s) None)))))

  pub sound-is : invariants_hold s ≡ sound s
  unfolding invariants_hold sound
  sound-is = ap is_none first_violation_is
