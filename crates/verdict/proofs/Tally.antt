-- The tally of Running vCPUs against held pCPUs: where no vCPU is in violation, it is even exactly on sound systems.
-- Assumes nothing.
use Rattle.std.specs.Prelude.{None, is_none}
use Rattle.std.proofs.Common.{ℕ, suc, ◌+◌, ◌*◌, ◌/◌, ◌%◌, ◌<◌, Bool, true, false, cond, not, ◌≡◌, refl, sym, ◌∙◌, ap, subst, arith, eqb, ltb, ltb-true, lt-ltb, eqb-true, eq-eqb}
use Rattle.std.proofs.lemmas.Bool.{false≢true}
use Rattle.system.specs.declared.RunState.{RunState}
use Rattle.system.specs.declared.RunState.TheVariants.{Offline, Runnable, Running, Blocked}
use Rattle.system.specs.declared.Occupant.{Occupant}
use Rattle.system.specs.declared.Occupant.TheVariants.{Idle, Vcpu}
use Rattle.system.specs.declared.System.{System}
use Rattle.system.specs.Shape.{within_sizes}
use Rattle.system.specs.Reads.{vcpu_at, occupant_at, is_idle, count, busy_pcpus}
use Rattle.system.specs.Slots.{domains, vcpus, pcpus, slot, Present}
use Rattle.system.specs.States.{onto}
use Rattle.verdict.specs.Violations.{vcpu_violation, slot_violation, holder_violation, pcpu_violation}
use Rattle.verdict.specs.Violations.{earliest, first_violation, invariants_hold}
use Rattle.verdict.specs.OneViolation.{runs_within, running_at}
use Rattle.verdict.specs.Sound.{OnPcpu, Sound, earliest-none, clean-runs, occupies-none, is-none, sound_iff}
use Rattle.verdict.proofs.VerdictScan.{counts}
use Rattle.verdict.proofs.Pigeonhole.{Into, into_le, into_lt}

-- the slot that an occupant names, of meaning only where there is one
abbrev holder : Occupant → ℕ
holder Idle = 0
holder (Vcpu d v) = slot d v

runs_on_lem : (k v : ℕ) (st : RunState) → runs_within k v st ≡ true → (v < k) × (st ≡ Running (onto st))
runs_on_lem k v Offline e = absurd (false≢true e)
runs_on_lem k v Runnable e = absurd (false≢true e)
runs_on_lem k v (Running p) e = (ltb-true v k e, refl)
runs_on_lem k v Blocked e = absurd (false≢true e)

module _ (s : System) where
  abbrev held : ℕ → Bool
  held p = not (is_idle (occupant_at s p))

  -- each Running vCPU to its pCPU
  stands_at : ((i p : ℕ) → Present s i → (vcpu_at s i).state ≡ Running p → OnPcpu s i p)
      → Into (running_at s) held (domains s * 8) (pcpus s) (λ i. onto (vcpu_at s i).state)
  unfolding running_at
  stands_at runs =
      record {
        below = λ i l e. (on i l e).exists;
        lands = λ i l e. ap (λ (o : Occupant). not (is_idle o)) (on i l e).back;
        apart = λ i j k l e d w. one i j (sym (on i k e).back ∙ (ap (occupant_at s) w ∙ (on j l d).back));
      }
    where
      on : (i : ℕ) → i < domains s * 8 → running_at s i ≡ true → OnPcpu s i (onto (vcpu_at s i).state)
      on i l e =
          let h = runs_on_lem (vcpus s) (i % 8) (vcpu_at s i).state e in
          runs i _ (record { domain = omega arith; vcpu = h.0 }) h.1

      one : (i j : ℕ) → Vcpu (i / 8) (i % 8) ≡ Vcpu (j / 8) (j % 8) → i ≡ j
      one i j e =
          let d : i / 8 ≡ j / 8 = cc in
          let v : i % 8 ≡ j % 8 = cc in
          omega arith

  -- each held pCPU to its holder
  holding : Sound s → Into held (running_at s) (pcpus s) (domains s * 8) (λ p. holder (occupant_at s p))
  unfolding running_at
  holding S =
      record {
        below = λ p l e. below' p l (occupant_at s p) refl e;
        lands = λ p l e. lands' p l (occupant_at s p) refl e;
        apart = λ p q l k e d w. one p q (sym (at p l (occupant_at s p) refl e) ∙ (ap (λ (i : ℕ). (vcpu_at s i).state) w ∙ at q k (occupant_at s q) refl d));
      }
    where
      below' : (p : ℕ) → p < pcpus s → (o : Occupant) → occupant_at s p ≡ o → not (is_idle o) ≡ true → holder o < domains s * 8
      below' p l Idle q e = absurd (false≢true e)
      below' p l (Vcpu d v) q e = let h = S.occupied p d v l q in omega (arith, h.domain, h.vcpu)

      at : (p : ℕ) → p < pcpus s → (o : Occupant) → occupant_at s p ≡ o → not (is_idle o) ≡ true → (vcpu_at s (holder o)).state ≡ Running p
      at p l Idle q e = absurd (false≢true e)
      at p l (Vcpu d v) q e = (S.occupied p d v l q).on

      lands' : (p : ℕ) → p < pcpus s → (o : Occupant) → occupant_at s p ≡ o → not (is_idle o) ≡ true → running_at s (holder o) ≡ true
      lands' p l Idle q e = absurd (false≢true e)
      lands' p l (Vcpu d v) q e =
          let h = S.occupied p d v l q in
          ap (runs_within (vcpus s) (slot d v % 8)) h.on ∙ lt-ltb (slot d v % 8) (vcpus s) (omega (arith, h.vcpu))

      one : (p q : ℕ) → Running p ≡ Running q → p ≡ q
      one p q e = cc

  -- a held pCPU in violation is missed by every Running vCPU, so fewer run than are held
  module _ (runs : (i p : ℕ) → Present s i → (vcpu_at s i).state ≡ Running p → OnPcpu s i p) where
    met : (i p : ℕ) → i < domains s * 8 → running_at s i ≡ true → onto (vcpu_at s i).state ≡ p → pcpu_violation s p ≡ None
    unfolding running_at pcpu_violation
    met i p l e w =
        let h = runs_on_lem (vcpus s) (i % 8) (vcpu_at s i).state e in
        let r : (vcpu_at s i).state ≡ Running p = h.1 ∙ ap Running w in
        let o = runs i p (record { domain = omega arith; vcpu = h.0 }) r in
        let j : i ≡ slot (i / 8) (i % 8) = omega arith in
        let on = subst (λ (n : ℕ). (vcpu_at s n).state ≡ Running p) j r in
        ap (holder_violation s p) o.back
        ∙ occupies-none s p (i / 8) (i % 8) (record { domain = omega arith; vcpu = h.0; on = on })

    clean : count (running_at s) (domains s * 8) ≡ busy_pcpus s → (p : ℕ) → p < pcpus s → pcpu_violation s p ≡ None
    unfolding pcpu_violation occupant_at
    clean even p l = go (occupant_at s p) refl (is_none (pcpu_violation s p)) refl
      where
        go : (o : Occupant) → occupant_at s p ≡ o → (b : Bool) → is_none (pcpu_violation s p) ≡ b → pcpu_violation s p ≡ None
        go o q true e = is-none _ e
        go Idle q false e = ap (holder_violation s p) q
        go (Vcpu d v) q false e =
            let less = into_lt (running_at s) held (domains s * 8) (pcpus s) p _ (stands_at runs) l
            (ap (λ (h : Occupant). not (is_idle h)) q)
            (λ i k r w. false≢true (sym e ∙ ap is_none (met i p k r w))) in
            absurd (omega arith)

-- one more is looked at
pub counted : (f : ℕ → Bool) (i n : ℕ) {b : Bool} → n ≡ count f i → f i ≡ b → n + cond b 1 0 ≡ count f (suc i)
unfolding count
counted f i n e h = rw (e, h)

-- ---- of a system whose counts fit: what the loop finds
module _ (s : System) (fit : within_sizes s.domain_count s.vcpus_per_domain s.pcpu_count ≡ true) where
  pub running-told : (i : ℕ) → runs_within s.vcpus_per_domain (i % 8) (vcpu_at s i).state ≡ running_at s i
  unfolding running_at
  running-told i = ap (λ (k : ℕ). runs_within k (i % 8) (vcpu_at s i).state) (sym (counts s fit).1)

  pub running-present : (i : ℕ) → running_at s i ≡ true → i % 8 < s.vcpus_per_domain
  unfolding running_at
  running-present i e = omega (arith, counts s fit, (runs_on_lem (vcpus s) (i % 8) (vcpu_at s i).state e).0)

  pub rests : (i : ℕ) → running_at s i ≡ false → slot_violation s i ≡ None
  unfolding running_at slot_violation
  rests i e = go (ltb (i % 8) (vcpus s)) (vcpu_at s i).state refl e
    where
      go : (b : Bool) (st : RunState) → ltb (i % 8) (vcpus s) ≡ b → runs_within (vcpus s) (i % 8) st ≡ false
          → cond b (vcpu_violation s (i / 8) (i % 8) (vcpu_at s i).affinity st) None ≡ None
      go false st q e = refl
      go true Offline q e = refl
      go true Runnable q e = refl
      go true (Running p) q e = absurd (false≢true (sym e ∙ q))
      go true Blocked q e = refl

-- the verdict of the tally
pub tally : (s : System) → within_sizes s.domain_count s.vcpus_per_domain s.pcpu_count ≡ true
    → earliest (slot_violation s) (domains s * 8) ≡ None
    → eqb (count (running_at s) (domains s * 8)) (busy_pcpus s) ≡ invariants_hold s
unfolding first_violation invariants_hold occupant_at
tally s fit none = go (eqb (count (running_at s) (domains s * 8)) (busy_pcpus s)) refl (invariants_hold s) refl
  where
    even : count (running_at s) (domains s * 8) ≡ busy_pcpus s → invariants_hold s ≡ true
    even e = rw (fit, none) (ap is_none (earliest-none (pcpu_violation s) (pcpus s) (clean s (clean-runs s none) e)))

    sound : invariants_hold s ≡ true → count (running_at s) (domains s * 8) ≡ busy_pcpus s
    sound e =
        let S = (sound_iff s).0 e in
        omega (arith, into_le _ _ _ _ _ (stands_at s S.runs), into_le _ _ _ _ _ (holding s S))

    go : (a : Bool) → eqb (count (running_at s) (domains s * 8)) (busy_pcpus s) ≡ a → (b : Bool) → invariants_hold s ≡ b → a ≡ b
    go true e b f = sym (even (eqb-true _ _ e)) ∙ f
    go false e true f = sym e ∙ eq-eqb _ _ (sound f)
    go false e false f = refl
