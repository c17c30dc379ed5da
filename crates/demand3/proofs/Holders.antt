-- Who holds a pCPU follows from the lines of the book. Assumes nothing.
use Prim.Native.Nat.{ℕ, ◌*◌, ◌%◌, ◌≤◌, ◌<◌}
use mathlib.Core.Bool.{Bool, true, not, ◌&&◌}
use mathlib.Core.Path.{◌≡◌, refl, sym, ◌∙◌, ap}
use native.Mathlib.Nat.{min-eq_left}
use native.Mathlib.Omega.{arith}
use lib.Dec.{ltb}
use borrow.Author.Tests.{ltb-true, lt-ltb, eq-eqb}
use Rattle.scans.specs.Booleans.{both}
use Rattle.system.specs.declared.RunState.TheVariants.{Running}
use Rattle.system.specs.declared.Occupant.{Occupant}
use Rattle.system.specs.declared.Occupant.TheVariants.{Idle, Vcpu}
use Rattle.system.specs.declared.System.{System}
use Rattle.system.specs.Reads.{occupant_at, is_idle}
use Rattle.system.specs.Slots.{domains, vcpus, pcpus, slot, Present}
use Rattle.system.specs.States.{runs_on, runs_on_lem}
use Rattle.verdict.specs.Sound.{Sound}
use Rattle.scans.specs.Scan.{Pick, nobody, at, some, scan, scan-sound, scan_complete, never}
use Rattle.demand3.specs.Book.{Book, Shape, holder, occupant_by}
use Rattle.demand3.specs.Agreement.{PresentIn, Shaped, Agrees, Lines}

-- in a sound system whoever is Running on a pCPU holds it, and only that one
pub holder-agrees : (k : Shape) (b : Book) (s : System) (p : ℕ) → Shaped k s → Sound s → Lines b s → p < k.pcpus
    → occupant_at s p ≡ occupant_by (holder k b p)
unfolding holder
holder-agrees k b s p h S L l = go (scan test never (k.domains * 8)) refl
  where
    test : ℕ → Bool
    test i = ltb (i % 8) k.vcpus && runs_on p (b i).state

    sizes : (k.domains ≤ 16) × (k.vcpus ≤ 8) × (k.pcpus ≤ 64)
    sizes = (omega (arith, h.domains, S.domains), omega (arith, h.vcpus, S.vcpus), omega (arith, h.pcpus, S.pcpus))

    within : p < pcpus s
    within = omega (arith, sizes.2, h.pcpus)

    nobody-on : scan test never (k.domains * 8) ≡ nobody → (o : Occupant) → occupant_at s p ≡ o → o ≡ Idle
    nobody-on e Idle f = refl
    nobody-on e (Vcpu d v) f =
        let x = S.occupied p d v within f in
        let a : d < k.domains = omega (arith, x.domain, h.domains) in
        let c : v < k.vcpus = omega (arith, x.vcpu, h.vcpus) in
        let y = L.says (slot d v) (record { domain = omega (arith, x.domain, x.vcpu); vcpu = omega (arith, x.domain, x.vcpu) }) in
        let r : runs_on p (b (slot d v)).state ≡ true = ap (runs_on p) (y.state ∙ x.on) ∙ eq-eqb p p refl in
        let z : slot d v % 8 < k.vcpus = omega (arith, sizes.1) in
        absurd (scan_complete test never (k.domains * 8) (slot d v) (omega (arith, sizes.1)) (rw (lt-ltb (slot d v % 8) k.vcpus z, r)) e)

    go : (r : Pick) → scan test never (k.domains * 8) ≡ r → occupant_at s p ≡ occupant_by r
    go nobody e = nobody-on e (occupant_at s p) refl
    go (at i) e =
        let f = scan-sound test never (k.domains * 8) i e in
        let g = both _ _ f.1 in
        let a = f.0 in
        let c = ltb-true (i % 8) k.vcpus g.0 in
        let q : Present s i = record { domain = omega (arith, h.domains, S.domains); vcpu = omega (arith, h.vcpus, S.vcpus) } in
        (S.runs i p q (sym (L.says i q).state ∙ runs_on_lem p _ g.1)).back

-- the book's holder of a pCPU is Running there
pub holder-runs : (k : Shape) (b : Book) (p i : ℕ) → holder k b p ≡ at i → PresentIn k i × ((b i).state ≡ Running p)
unfolding holder
holder-runs k b p i e =
    let f = scan-sound (λ j. ltb (j % 8) k.vcpus && runs_on p (b j).state) never (k.domains * 8) i e in
    let l = f.0 in
    let g = both (ltb (i % 8) k.vcpus) (runs_on p (b i).state) f.1 in
    (record { domain = omega arith; vcpu = ltb-true (i % 8) k.vcpus g.0 }, runs_on_lem p _ g.1)

-- and where there is none, nobody is
pub nobody-runs : (k : Shape) (b : Book) (p i : ℕ) → holder k b p ≡ nobody → PresentIn k i
    → (b i).state ≡ Running p → ⊥
unfolding holder
nobody-runs k b p i e x on =
    let r : runs_on p (b i).state ≡ true = ap (runs_on p) on ∙ eq-eqb p p refl in
    scan_complete (λ j. ltb (j % 8) k.vcpus && runs_on p (b j).state) never (k.domains * 8) i (omega (arith, x.domain))
    (rw (lt-ltb (i % 8) k.vcpus x.vcpu, r)) e

-- a pCPU that somebody holds by the book is not idle
pub held-busy : (r : Pick) → not (is_idle (occupant_by r)) ≡ some r
held-busy nobody = refl
held-busy (at i) = refl

-- the counts of a sound system are those of the shape
module _ {k : Shape} {s : System} (h : Shaped k s) (S : Sound s) where
  pub shaped-domains : domains s ≡ k.domains
  shaped-domains = min-eq_left S.domains ∙ h.domains

  pub shaped-vcpus : vcpus s ≡ k.vcpus
  shaped-vcpus = min-eq_left S.vcpus ∙ h.vcpus

  pub shaped-pcpus : pcpus s ≡ k.pcpus
  shaped-pcpus = min-eq_left S.pcpus ∙ h.pcpus

pub shaped-present : {k : Shape} {s : System} {i : ℕ} → Shaped k s → Sound s → PresentIn k i → Present s i
shaped-present h S e =
    record { domain = omega (arith, h.domains, S.domains, e.domain); vcpu = omega (arith, h.vcpus, S.vcpus, e.vcpu) }

pub agrees : {k : Shape} {b : Book} {s : System} → Shaped k s → Sound s → Lines b s → Agrees k b s
agrees {k} {b} {s} h S L =
    record { shape = h; lines = λ i e. L.says i (shaped-present h S e); holders = λ p l. holder-agrees k b s p h S L l }
