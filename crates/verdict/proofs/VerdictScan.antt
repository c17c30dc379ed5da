-- One turn of a scan, and that a record read at an index that is always in the table serves as the record named. Assumes nothing.
use Rattle.std.specs.Prelude.{Option, None, Some, is_none}
use Rattle.std.specs.Option.{option_or, is_some}
use Rattle.std.proofs.Common.{ℕ, zero, suc, ◌+◌, ◌*◌, ◌/◌, ◌%◌, ◌≤◌, ◌<◌, Bool, true, false, ◌≡◌, refl, sym, ◌∙◌, ap, ⊎_elim, eq-or-lt_of_le, arith, ltb, ltb-true, lt-ltb, le-ltb}
use Rattle.std.proofs.lemmas.Bool.{false≢true}
use Rattle.system.specs.declared.RunState.{RunState}
use Rattle.system.specs.declared.RunState.TheVariants.{Offline, Runnable, Running, Blocked}
use Rattle.system.specs.declared.Occupant.{Occupant}
use Rattle.system.specs.declared.Occupant.TheVariants.{Idle, Vcpu}
use Rattle.system.specs.declared.System.{System}
use Rattle.system.specs.Shape.{within_sizes}
use Rattle.system.specs.Reads.{vcpu_at, occupant_at}
use Rattle.system.specs.Slots.{domains, vcpus, pcpus}
use Rattle.verdict.specs.declared.Violation.{Violation}
use Rattle.verdict.specs.Violations.{running_violation, vcpu_violation, slot_violation, occupant_violation, holder_violation}
use Rattle.verdict.specs.Violations.{pcpu_violation, earliest}
use Rattle.verdict.specs.Sound.{within-sizes}
use Rattle.verdict.specs.OneViolation.{pcpu_index, vcpu_violation_at, holder_slot, holder_violation_at}

-- nothing is wrong so far, nor here
pub step : (f : ℕ → Option Violation) (i : ℕ) → earliest f i ≡ None → f i ≡ None → earliest f (suc i) ≡ None
unfolding earliest
step f i e h = rw (e, h)

-- what the code tests of a verdict
pub is-found : (v : Option Violation) → is_some v ≡ true → is_none v ≡ false
is-found None e = absurd (false≢true e)
is-found (Some w) e = refl

pub is-clean : (v : Option Violation) → is_some v ≡ false → v ≡ None
is-clean None e = refl
is-clean (Some w) e = absurd (false≢true (sym e))

pub or_keeps : (a b : Option Violation) → is_none a ≡ false → option_or a b ≡ a
or_keeps None b e = absurd (false≢true (sym e))
or_keeps (Some v) b e = refl

-- nothing is wrong so far, but v is here: it is the first, however far the scan goes
pub stop : (f : ℕ → Option Violation) (i n : ℕ) {v : Option Violation} → earliest f i ≡ None → v ≡ f i → is_some v ≡ true → i < n → v ≡ earliest f n
unfolding earliest
stop f i zero e q h l = absurd (omega arith)
stop f i (suc n) {v} e q h l =
    ⊎_elim
    (λ m. let j : n ≡ i = omega arith in rw (j, e) q)
    (λ m. rw (sym (stop f i n e q h (omega arith))) (sym (or_keeps v (f n) (is-found v h))))
    (eq-or-lt_of_le l)

-- the index of a vCPU's pCPU is that of the one it runs on, if that exists
stands_at : (s : System) (d v mask : ℕ) (st : RunState)
    → vcpu_violation_at (pcpus s) (occupant_at s (pcpu_index st)) d v mask st ≡ vcpu_violation s d v mask st
stands_at s d v mask Offline = refl
stands_at s d v mask Runnable = refl
stands_at s d v mask (Running p) = go (ltb p (pcpus s)) refl
  where
    go : (t : Bool) → ltb p (pcpus s) ≡ t
        → running_violation (pcpus s) (occupant_at s (p % 64)) d v mask p ≡ running_violation (pcpus s) (occupant_at s p) d v mask p
    go true e =
        let q : p % 64 ≡ p = omega (arith, ltb-true p (pcpus s) e) in
        ap (λ (j : ℕ). running_violation (pcpus s) (occupant_at s j) d v mask p) q
    go false e = rw e
stands_at s d v mask Blocked = refl

-- the vCPU of a pCPU's holder slot is its holder, if that exists
holding : (s : System) (p : ℕ) (o : Occupant)
    → holder_violation_at (domains s) (vcpus s) (vcpu_at s (holder_slot o)).state p o ≡ holder_violation s p o
holding s p Idle = refl
holding s p (Vcpu d v) = go (ltb d (domains s)) (ltb v (vcpus s)) refl refl
  where
    go : (a b : Bool) → ltb d (domains s) ≡ a → ltb v (vcpus s) ≡ b
        → occupant_violation (domains s) (vcpus s) (vcpu_at s (d % 16 * 8 + v % 8)).state p d v
        ≡ occupant_violation (domains s) (vcpus s) (vcpu_at s (d * 8 + v)).state p d v
    go true true e f =
        let q : d % 16 * 8 + v % 8 ≡ d * 8 + v = omega (arith, ltb-true d (domains s) e, ltb-true v (vcpus s) f) in
        ap (λ (j : ℕ). occupant_violation (domains s) (vcpus s) (vcpu_at s j).state p d v) q
    go true false e f = rw (e, f)
    go false b e f = rw e

-- of a system whose counts fit: what one turn of a loop is told is what the definition says
module _ (s : System) (fit : within_sizes s.domain_count s.vcpus_per_domain s.pcpu_count ≡ true) where
  pub counts : (domains s ≡ s.domain_count) × (vcpus s ≡ s.vcpus_per_domain) × (pcpus s ≡ s.pcpu_count)
  counts =
      let z = within-sizes s.domain_count s.vcpus_per_domain s.pcpu_count fit in
      (omega arith, omega arith, omega arith)

  pub slot-told : (i q : ℕ) (r : Option Violation) → i % 8 < s.vcpus_per_domain → q ≡ pcpu_index (vcpu_at s i).state
      → r ≡ vcpu_violation_at s.pcpu_count (occupant_at s q) (i / 8) (i % 8) (vcpu_at s i).affinity (vcpu_at s i).state
      → r ≡ slot_violation s i
  unfolding slot_violation vcpu_at occupant_at
  slot-told i q r l e w =
      rw (lt-ltb (i % 8) (vcpus s) (omega (arith, counts)))
      (rw (sym counts.2, e) at w ∙ stands_at s (i / 8) (i % 8) (vcpu_at s i).affinity (vcpu_at s i).state)

  pub slot-absent : (i : ℕ) → s.vcpus_per_domain ≤ i % 8 → slot_violation s i ≡ None
  unfolding slot_violation
  slot-absent i l = rw (le-ltb (i % 8) (vcpus s) (omega (arith, counts)))

  pub pcpu-told : (p j : ℕ) (r : Option Violation) → j ≡ holder_slot (occupant_at s p)
      → r ≡ holder_violation_at s.domain_count s.vcpus_per_domain (vcpu_at s j).state p (occupant_at s p)
      → r ≡ pcpu_violation s p
  unfolding pcpu_violation vcpu_at occupant_at
  pcpu-told p j r e w = rw (sym counts.0, sym counts.1, e) at w ∙ holding s p (occupant_at s p)
