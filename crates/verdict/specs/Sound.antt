-- A sound system, and that the verdict finds exactly these. Assumes nothing.
use Rattle.std.specs.Prelude.{ℕ, zero, suc, ◌*◌, ◌/◌, ◌%◌, ◌≤◌, ◌<◌, Bool, true, false, cond, ◌≡◌, refl, ◌↔◌, Option, None, Some, is_none, ltb}
use Rattle.std.specs.Option.{option_or}
use Rattle.std.proofs.lemmas.Bool.{false≢true}
use Rattle.std.proofs.Common.{sym, ◌∙◌, ap, subst, ⊎_elim, eq-or-lt_of_le, arith, ltb-true, leb-true, eqb-true, eq-eqb, lt-ltb, le-leb}
use Rattle.scans.specs.Booleans.{both}
use Rattle.masks.specs.Masks.{permits}
use Rattle.system.specs.declared.RunState.{RunState}
use Rattle.system.specs.declared.RunState.TheVariants.{Offline, Runnable, Running, Blocked}
use Rattle.system.specs.declared.Occupant.{Occupant}
use Rattle.system.specs.declared.Occupant.TheVariants.{Idle, Vcpu}
use Rattle.system.specs.declared.System.{System}
use Rattle.system.specs.States.{runs_on, runs_on_lem}
use Rattle.system.specs.Shape.{within_sizes}
use Rattle.system.specs.Reads.{vcpu_at, occupant_at}
use Rattle.system.specs.Slots.{domains, vcpus, pcpus, slot, Present}
use Rattle.verdict.specs.declared.Violation.{Violation}
use Rattle.verdict.specs.declared.Violation.TheVariants.{Oversize, OccupantGhost, OccupantNotRunning}
use Rattle.verdict.specs.declared.Violation.TheVariants.{RunningGhostPcpu, OccupancyBroken, RunningOffAffinity}
use Rattle.verdict.specs.Violations.{names, vcpu_violation, slot_violation, holder_violation}
use Rattle.verdict.specs.Violations.{pcpu_violation, earliest, first_violation, invariants_hold}

-- the vCPU of slot i may stand on pCPU p: p exists, names it back, and its mask admits p
pub record OnPcpu (s : System) (i p : ℕ) : Type 0 where
  pub exists : p < pcpus s
  pub back : occupant_at s p ≡ Vcpu (i / 8) (i % 8)
  pub admits : permits (vcpu_at s i).affinity p ≡ true

-- d/v may hold pCPU p: it exists and is Running there
pub record Occupies (s : System) (p d v : ℕ) : Type 0 where
  pub domain : d < domains s
  pub vcpu : v < vcpus s
  pub on : (vcpu_at s (slot d v)).state ≡ Running p

-- no count is above its size; a vCPU is Running on p if and only if p's occupant is that vCPU
pub record Sound (s : System) : Type 0 where
  pub domains : s.domain_count ≤ 16
  pub vcpus : s.vcpus_per_domain ≤ 8
  pub pcpus : s.pcpu_count ≤ 64
  pub runs : (i p : ℕ) → Present s i → (vcpu_at s i).state ≡ Running p → OnPcpu s i p
  pub occupied : (p d v : ℕ) → p < Rattle.system.specs.Slots.pcpus s → occupant_at s p ≡ Vcpu d v → Occupies s p d v

-- nothing is found where nothing is wrong, and something where something is
pub earliest-none : (f : ℕ → Option Violation) (n : ℕ) → ((i : ℕ) → i < n → f i ≡ None) → earliest f n ≡ None
unfolding earliest
earliest-none f zero h = refl
earliest-none f (suc n) h = rw (earliest-none f n (λ i l. h i (omega arith)), h n (omega arith))

or_none : (a b : Option Violation) → option_or a b ≡ None → (a ≡ None) × (b ≡ None)
or_none None b e = (refl, e)
or_none (Some v) b e = absurd (false≢true (ap is_none e))

earliest-all : (f : ℕ → Option Violation) (n : ℕ) → earliest f n ≡ None → (i : ℕ) → i < n → f i ≡ None
unfolding earliest
earliest-all f zero e i l = absurd (omega arith)
earliest-all f (suc n) e i l =
    let h = or_none (earliest f n) (f n) e in
    ⊎_elim (λ q. let j : i ≡ n = omega arith in ap f j ∙ h.1) (λ m. earliest-all f n h.0 i (omega arith)) (eq-or-lt_of_le l)

-- a test whose failure is a violation has passed
passed : (b : Bool) (x w : Option Violation) → is_none w ≡ false → cond b x w ≡ None → (b ≡ true) × (x ≡ None)
passed true x w n e = (refl, e)
passed false x w n e = absurd (false≢true (sym n ∙ ap is_none e))

named : (o : Occupant) (d v : ℕ) → names o d v ≡ true → o ≡ Vcpu d v
named Idle d v e = absurd (false≢true e)
named (Vcpu e u) d v h = let k = both _ _ h in rw (eqb-true e d k.0, eqb-true u v k.1)

pub within-sizes : (d v p : ℕ) → within_sizes d v p ≡ true → (d ≤ 16) × (v ≤ 8) × (p ≤ 64)
within-sizes d v p e =
    let a = both _ _ e in
    let b = both _ _ a.1 in
    (leb-true d 16 a.0, leb-true v 8 b.0, leb-true p 64 b.1)

-- where no vCPU is in violation, each that is Running may stand where it does
pub clean-runs : (s : System) → earliest (slot_violation s) (domains s * 8) ≡ None
    → (i p : ℕ) → Present s i → (vcpu_at s i).state ≡ Running p → OnPcpu s i p
unfolding slot_violation
clean-runs s clean i p h r =
    let f = earliest-all (slot_violation s) (domains s * 8) clean i (omega (arith, h.domain)) in
    let g = rw (lt-ltb (i % 8) (vcpus s) h.vcpu) at f in
    let k = subst (λ (st : RunState). vcpu_violation s (i / 8) (i % 8) (vcpu_at s i).affinity st ≡ None) r g in
    let a = passed _ _ (Some (RunningGhostPcpu (i / 8) (i % 8))) refl k in
    let b = passed _ _ (Some (OccupancyBroken (i / 8) (i % 8))) refl a.1 in
    let c = passed _ _ (Some (RunningOffAffinity (i / 8) (i % 8))) refl b.1 in
    record { exists = ltb-true _ _ a.0; back = named _ _ _ b.0; admits = c.0 }

pub none-sound : (s : System) → first_violation s ≡ None → Sound s
unfolding first_violation pcpu_violation
none-sound s e =
    record { domains = size.0; vcpus = size.1; pcpus = size.2; runs = clean-runs s clean.0; occupied = occupied' }
  where
    test : (within_sizes s.domain_count s.vcpus_per_domain s.pcpu_count ≡ true)
        × (option_or (earliest (slot_violation s) (domains s * 8)) (earliest (pcpu_violation s) (pcpus s)) ≡ None)
    test = passed _ _ (Some Oversize) refl e

    size : (s.domain_count ≤ 16) × (s.vcpus_per_domain ≤ 8) × (s.pcpu_count ≤ 64)
    size = within-sizes _ _ _ test.0

    clean : (earliest (slot_violation s) (domains s * 8) ≡ None) × (earliest (pcpu_violation s) (pcpus s) ≡ None)
    clean = or_none _ _ test.1

    occupied' : (p d v : ℕ) → p < pcpus s → occupant_at s p ≡ Vcpu d v → Occupies s p d v
    occupied' p d v l o =
        let f = earliest-all (pcpu_violation s) (pcpus s) clean.1 p l in
        let g = subst (λ (h : Occupant). holder_violation s p h ≡ None) o f in
        let a = passed _ _ (Some (OccupantGhost p)) refl g in
        let b = passed _ _ (Some (OccupantNotRunning p)) refl a.1 in
        let c = both _ _ a.0 in
        record { domain = ltb-true _ _ c.0; vcpu = ltb-true _ _ c.1; on = runs_on_lem p _ b.0 }

-- a pCPU whose holder may hold it is in no violation
pub occupies-none : (s : System) (p d v : ℕ) → Occupies s p d v → holder_violation s p (Vcpu d v) ≡ None
occupies-none s p d v h =
    let r : runs_on p (vcpu_at s (slot d v)).state ≡ true = ap (runs_on p) h.on ∙ eq-eqb p p refl in
    rw (lt-ltb d (domains s) h.domain, lt-ltb v (vcpus s) h.vcpu, r)

pub sound_none : (s : System) → Sound s → first_violation s ≡ None
unfolding first_violation slot_violation pcpu_violation
sound_none s S =
    rw (le-leb _ 16 S.domains, le-leb _ 8 S.vcpus, le-leb _ 64 S.pcpus)
    (rw (earliest-none (slot_violation s) (domains s * 8) (λ i l. slot_ok i l)) (earliest-none (pcpu_violation s) (pcpus s) pcpu_ok))
  where
    vcpu_ok : (i : ℕ) → i < domains s * 8 → i % 8 < vcpus s → (st : RunState) → (vcpu_at s i).state ≡ st
        → vcpu_violation s (i / 8) (i % 8) (vcpu_at s i).affinity st ≡ None
    vcpu_ok i l k Offline e = refl
    vcpu_ok i l k Runnable e = refl
    vcpu_ok i l k (Running p) e =
        let o = S.runs i p (record { domain = omega arith; vcpu = k }) e in
        let n : names (occupant_at s p) (i / 8) (i % 8) ≡ true =
        ap (λ (h : Occupant). names h (i / 8) (i % 8)) o.back ∙ rw (eq-eqb (i / 8) (i / 8) refl, eq-eqb (i % 8) (i % 8) refl) in
        rw (lt-ltb p (pcpus s) o.exists, n, o.admits)
    vcpu_ok i l k Blocked e = refl

    slot_ok : (i : ℕ) → i < domains s * 8 → slot_violation s i ≡ None
    slot_ok i l = go (ltb (i % 8) (vcpus s)) refl
      where
        go : (t : Bool) → ltb (i % 8) (vcpus s) ≡ t
            → cond t (vcpu_violation s (i / 8) (i % 8) (vcpu_at s i).affinity (vcpu_at s i).state) None ≡ None
        go true e = vcpu_ok i l (ltb-true _ _ e) (vcpu_at s i).state refl
        go false e = refl

    holder_ok : (p : ℕ) → p < pcpus s → (o : Occupant) → occupant_at s p ≡ o → holder_violation s p o ≡ None
    holder_ok p l Idle e = refl
    holder_ok p l (Vcpu d v) e = occupies-none s p d v (S.occupied p d v l e)

    pcpu_ok : (p : ℕ) → p < pcpus s → pcpu_violation s p ≡ None
    pcpu_ok p l = holder_ok p l (occupant_at s p) refl

pub is-none : (v : Option Violation) → is_none v ≡ true → v ≡ None
is-none None e = refl
is-none (Some w) e = absurd (false≢true e)

-- the test is true exactly of sound systems
pub sound_iff : (s : System) → (invariants_hold s ≡ true) ↔ Sound s
unfolding invariants_hold
sound_iff s = ((λ e. none-sound s (is-none (first_violation s) e)), (λ S. ap is_none (sound_none s S)))
