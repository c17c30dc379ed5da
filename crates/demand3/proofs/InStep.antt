-- A request of a system in step with its book, and `offline_all`: both tell the same, and what they leave agrees.
-- Assumes nothing.
use Prim.Native.Nat.{ℕ, zero, suc, ◌≤◌, ◌<◌}
use mathlib.Core.Bool.{Bool, true, false, cond, not, true≢false, false≢true}
use mathlib.Core.Path.{◌≡◌, refl, sym, ◌∙◌, ap, subst}
use native.Mathlib.Omega.{arith}
use lib.Dec.{ltb}
use borrow.Author.Tests.{ltb-true}
use Rattle.system.specs.declared.Occupant.{Occupant}
use Rattle.system.specs.declared.System.{System}
use Rattle.system.specs.declared.Answer.{Answer}
use Rattle.system.specs.declared.Answer.TheVariants.{Done, BadDomain, BadVcpu, BadPcpu, Unsound}
use Rattle.system.specs.Answers.{told, SystemOutcome}
use Rattle.system.specs.Reads.{vcpu_at, occupant_at, is_idle, vcpu_count}
use Rattle.system.specs.Writes.{present-on}
use Rattle.system.specs.Slots.{domains, vcpus, pcpus, slot, Present}
use Rattle.verdict.specs.Sound.{sound_iff}
use Rattle.verdict.specs.Violations.{invariants_hold}
use Rattle.calls.specs.declared.Request.{Request}
use Rattle.sched.specs.Steps.{change_of, refused, done, tested, made, requested, offline_first, offline_all}
use Rattle.sched.proofs.Laws.{made_legal, first-keeps}
use Rattle.scans.specs.Scan.{some}
use Rattle.changes.specs.Changes.{changed, reaches}
use Rattle.demand3.specs.Book.{Book, Shape, holder, Entry, unwritten, entered, identified, note_of, offline_lines}
use Rattle.demand3.specs.Agreement.{InStep}
use Rattle.demand3.proofs.Holders.{holder-agrees, held-busy, shaped-domains, shaped-vcpus, shaped-pcpus}
use Rattle.demand3.proofs.Notes.{Match, request_match, offline-noted, Alike, legal_alike}

-- ---- tests

tested-alike : (R : SystemOutcome → Entry → Type 0) (x y : Bool) {r r' : SystemOutcome} {e e' : Entry} → x ≡ y
    → (x ≡ true → R r e) → R r' e' → R (cond x r r') (cond y e e')
tested-alike R true true f g h = g refl
tested-alike R true false f g h = absurd (true≢false f)
tested-alike R false true f g h = absurd (false≢true f)
tested-alike R false false f g h = h

module _ {k : Shape} {b : Book} {s : System} (K : InStep k b s) where
  told-alike : (a : Answer) → Alike (refused a s) (unwritten (told a) b)
  told-alike a = record { number = refl; lines = K.lines }

  same-domains : domains s ≡ k.domains
  same-domains = shaped-domains K.shaped K.sound

  same-vcpus : vcpus s ≡ k.vcpus
  same-vcpus = shaped-vcpus K.shaped K.sound

  same-pcpus : pcpus s ≡ k.pcpus
  same-pcpus = shaped-pcpus K.shaped K.sound

  -- a sound system passes the first test
  unguarded : (r : SystemOutcome) → tested (invariants_hold s) Unsound s r ≡ r
  unguarded r = rw ((sound_iff s).1 K.sound)

  -- a pCPU that somebody runs on in the book is busy in the system
  busy-alike : (p : ℕ) → p < k.pcpus → some (holder k b p) ≡ not (is_idle (occupant_at s p))
  busy-alike p l = sym (ap (λ (o : Occupant). not (is_idle o)) (holder-agrees k b s p K.shaped K.sound K.lines l) ∙ held-busy (holder k b p))

  pub made_match : (d v : ℕ) (q : Request) → Present s (slot d v) → reaches q (pcpus s) ≡ true
      → Match s (change_of s (slot d v) q) (note_of k b (slot d v) q)
  made_match d v q h r =
      subst (λ (n : ℕ). Match s (changed q n (vcpu_at s (slot d v))) (note_of k b (slot d v) q)) (sym K.shaped.pcpus)
      (request_match k b (slot d v) s (K.lines.says (slot d v) h) q (sym (ap (reaches q) same-pcpus) ∙ r) busy-alike)

  -- the book tests as the system does: what relates all that is refused, and the two sides of what is made, relates what they tell and leave
  module _ (R : SystemOutcome → Entry → Type 0) (refuses : (a : Answer) → R (refused a s) (unwritten (told a) b)) where
    pub requested-by : (d v : ℕ) (q : Request)
        → (Present s (slot d v) → reaches q (pcpus s) ≡ true → R (made s (slot d v) q) (entered b (slot d v) (note_of k b (slot d v) q)))
        → R (requested s d v q) (cond (reaches q k.pcpus) (identified k b d v (note_of k b (slot d v) q)) (unwritten 3 b))
    unfolding requested
    requested-by d v q f =
        rw (unguarded _)
        (tested-alike R (reaches q (pcpus s)) (reaches q k.pcpus) (ap (reaches q) same-pcpus)
        (λ r. tested-alike R (ltb d (domains s)) (ltb d k.domains) (ap (ltb d) same-domains)
        (λ x. tested-alike R (ltb v (vcpus s)) (ltb v k.vcpus) (ap (ltb v) same-vcpus)
        (λ y.
        let m = ltb-true d (domains s) x in
        let n = ltb-true v (vcpus s) y in
        f (record { domain = omega arith; vcpu = omega arith }) r)
        (refuses BadVcpu))
        (refuses BadDomain))
        (refuses BadPcpu))

    pub offline-all-by : (d now : ℕ)
        → (d < domains s → R (done (offline_first s d now (vcpus s))) (offline_lines k b d now (vcpus s)))
        → R (offline_all s d now) (cond (ltb d k.domains) (offline_lines k b d now k.vcpus) (unwritten 0 b))
    unfolding offline_all offline_first
    offline-all-by d now f =
        rw (unguarded (done (offline_first s d now (vcpu_count s d)))) (go (ltb d (domains s)) (ltb d k.domains) refl (ap (ltb d) same-domains))
      where
        go : (x y : Bool) → ltb d (domains s) ≡ x → x ≡ y
            → R (done (offline_first s d now (cond x (vcpus s) 0))) (cond y (offline_lines k b d now k.vcpus) (unwritten 0 b))
        go true true e g =
            subst (λ (n : ℕ). R (done (offline_first s d now (vcpus s))) (offline_lines k b d now n)) same-vcpus (f (ltb-true d (domains s) e))
        go true false e g = absurd (true≢false g)
        go false true e g = absurd (false≢true g)
        go false false e g = refuses Done

  pub requested-alike : (d v : ℕ) (q : Request)
      → Alike (requested s d v q) (cond (reaches q k.pcpus) (identified k b d v (note_of k b (slot d v) q)) (unwritten 3 b))
  requested-alike d v q =
      requested-by Alike told-alike d v q
      (λ h r. legal_alike K.tables (made_legal s (slot d v) K.sound h q r) K.lines (made_match d v q h r))

  -- one vCPU after another
  pub first_alike : (d now n : ℕ) → d < domains s → n ≤ vcpus s
      → Alike (done (offline_first s d now n)) (offline_lines k b d now n)
  unfolding offline_first offline_lines
  first_alike d now zero a l = record { number = refl; lines = K.lines }
  first_alike d now (suc n) a l =
      let u = offline_first s d now n in
      let c = (offline_lines k b d now n).book in
      let L = (first_alike d now n a (omega arith)).lines in
      let m = first-keeps s K.sound K.tables d now n a (omega arith) in
      let h : Present u (slot d n) = present-on {i = slot d n} m.shape (record { domain = omega arith; vcpu = omega arith }) in
      let r =
      legal_alike (m.shape.tables K.tables) (made_legal u (slot d n) m.sound h (Request.Offline now) refl) L
      (subst (λ (f : ℕ). Match u (changed (Request.Offline now) f (vcpu_at u (slot d n))) (note_of k c (slot d n) (Request.Offline now)))
      (sym (m.shape.pcpus ∙ K.shaped.pcpus)) (offline-noted u (L.says (slot d n) h) k.pcpus now)) in
      record { number = refl; lines = r.lines }

  pub offline-all-alike : (d now : ℕ)
      → Alike (offline_all s d now) (cond (ltb d k.domains) (offline_lines k b d now k.vcpus) (unwritten 0 b))
  offline-all-alike d now = offline-all-by Alike told-alike d now (λ a. first_alike d now (vcpus s) a (omega arith))
