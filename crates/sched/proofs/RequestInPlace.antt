-- A request is what its stores leave, by the records that it reads; a refusal hands them back. Assumes nothing.
use Prim.Native.Nat.{ℕ, ◌/◌, ◌%◌}
use mathlib.Core.Path.{◌≡◌, sym, ◌∙◌, ap}
use native.Mathlib.Nat.{min-eq_left}
use native.Mathlib.Omega.{arith}
use lib.Dec.{ltb}
use borrow.Author.Tests.{ltb-true}
use Rattle.system.specs.declared.Occupant.TheVariants.{Vcpu}
use Rattle.system.specs.declared.System.{System}
use Rattle.system.specs.declared.Answer.TheVariants.{BadDomain, BadVcpu, BadPcpu, Unsound}
use Rattle.system.specs.Reads.{vcpu_at}
use Rattle.system.specs.Slots.{slot, slot_read, slot-who}
use Rattle.verdict.specs.Sound.{sound_iff}
use Rattle.verdict.specs.Violations.{invariants_hold}
use Rattle.changes.specs.Changes.{changed, reaches}
use Rattle.changes.proofs.Laws.{tested-hands-back, stored-hands-back}
use Rattle.calls.specs.declared.Request.{Request}
use Rattle.sched.specs.Steps.{change_of, made, requested}
use Rattle.sched.specs.RequestInPlace.{pcpu_read, framed, effect_of, in_place, RequestedByStores, EffectHandsBack}
use Rattle.sched.proofs.About.{read_about}
use Rattle.sched.proofs.Stores.{stores-tested, stores-applied}

module _ (s : System) (d v : ℕ) (q : Request) where
  abbrev i : ℕ
  i = slot_read d v

  abbrev p : ℕ
  p = pcpu_read q (vcpu_at s i)

  -- in its own frame a request in place is the call
  pub by-stores : in_place s (framed s (invariants_hold s)) d v q ≡ requested s d v q
  unfolding requested effect_of vcpu_at
  by-stores = stores-tested s i p (invariants_hold s) Unsound _ _ λ e.
      let S = (sound_iff s).0 e in
      rw (min-eq_left S.domains, min-eq_left S.vcpus, min-eq_left S.pcpus)
      (stores-tested s i p (reaches q s.pcpu_count) BadPcpu _ _ λ r.
      stores-tested s i p (ltb d s.domain_count) BadDomain _ _ λ a.
      stores-tested s i p (ltb v s.vcpus_per_domain) BadVcpu _ _ λ b.
      let l = ltb-true d _ a in
      let m = ltb-true v _ b in
      let at : i ≡ slot d v = omega arith in
      let who : Vcpu d v ≡ Vcpu (i / 8) (i % 8) = sym (rw at (slot-who d v (omega arith))) in
      let h = read_about S (record { domain = omega arith; vcpu = omega arith }) q (rw (min-eq_left S.pcpus) r) in
      let stored-all = stores-applied s i p (change_of s i q) h ∙ ap (λ (j : ℕ). made s j q) at in
      rw who stored-all)

pub requested-by-stores : RequestedByStores
unfolding vcpu_at
requested-by-stores s d v q sound i p r eb ei ep er = rw (er, ep, ei, eb) (by-stores s d v q)

pub effect_hands-back : EffectHandsBack
unfolding effect_of
effect_hands-back f d v q x c =
    tested-hands-back x c f.sound Unsound
    (tested-hands-back x c (reaches q f.pcpu_count) BadPcpu
    (tested-hands-back x c (ltb d f.domain_count) BadDomain
    (tested-hands-back x c (ltb v f.vcpus_per_domain) BadVcpu
    (stored-hands-back (changed q f.pcpu_count x) (Vcpu d v) x c))))
