-- What `sched::offline_all` leaves to show. Assumes nothing.
use Rattle.std.proofs.Common.{true, false, not, ◌≡◌, ◌<◌, refl, sym, ◌∙◌, ap, add-one, arith, rules, lt-ltb, le-ltb, lt_of_le_of_lt, lit<}
use Rattle.std.proofs.lemmas.Bool.{not-true, not-false}
use Rattle.system.specs.Answers.{SystemOutcome}
use Rattle.system.specs.declared.System.{System}
use Rattle.system.specs.Slots.{domains, vcpus}
use Rattle.system.specs.Writes.{Tables}
use Rattle.verdict.specs.Sound.{sound_iff}
use Rattle.verdict.specs.Violations.{invariants_hold}
use Rattle.sched.specs.declared.Frame.{Frame}
use Rattle.sched.specs.Steps.{done, offline_first, offline_all}
use Rattle.sched.specs.RequestInPlace.{framed}
use Rattle.sched.proofs.OfflineAllLoop.{next-turn, turned}
use Rattle.sched.proofs.offline_all.Goals as goal

-- in what follows the system was found sound
sound : {f : Frame} (s : System) → f ≡ framed s (invariants_hold s) → not f.sound ≡ false → invariants_hold s ≡ true
sound s e t = sym (ap (λ (f : Frame). f.sound) e) ∙ not-false _ t

pub returns-then-not-tested : goal.returns-then-not-tested
unfolding offline_all
returns-then-not-tested c = rw (sym (ap (λ (f : Frame). f.sound) c.frame_of-tested.ensures) ∙ not-true _ c.if-not-tested.true)

pub returns-then-s-dom : goal.returns-then-s-dom
unfolding offline_all offline_first
returns-then-s-dom c =
    let l = c.if-s-dom.true in
    rw (sound c.args.s.now c.frame_of-tested.ensures c.if-not-tested.false, le-ltb c.args.dom (domains c.args.s.now) (omega arith))

pub loop-vcpu-init : goal.loop-vcpu-init
unfolding offline_first
loop-vcpu-init c = refl

pub overflow_cast-vcpu-end : goal.overflow_cast-vcpu-end
overflow_cast-vcpu-end c =
    let S = (sound_iff c.args.s.now).0 (sound c.args.s.now c.frame_of-tested.ensures c.if-not-tested.false) in
    record { fits = lt_of_le_of_lt S.vcpus (lit< tt) }

pub loop-vcpu-preserved : goal.loop-vcpu-preserved
loop-vcpu-preserved c =
    let s₀ = c.args.s.now in
    let holds = sound c.args.s.now c.frame_of-tested.ensures c.if-not-tested.false in
    let S = (sound_iff s₀).0 holds in
    let tables : Tables s₀ = record { vcpus = search rules; pcpus = search rules } in
    let domain : c.args.dom < domains s₀ = omega (arith, S.domains, c.if-s-dom.false) in
    let vcpu : c.loop-vcpu.vcpu < vcpus s₀ = omega (arith, S.vcpus, c.loop-vcpu-test.true) in
    let frame : c.frame_of-tested.result ≡ framed s₀ true = c.frame_of-tested.ensures ∙ ap (framed s₀) holds in
    rw add-one
    (ap (λ (r : SystemOutcome). r.system) (rw frame at c.request_in_place.ensures) ∙ turned (next-turn c.loop-vcpu.invariant tables S domain vcpu))

pub returns : goal.returns
unfolding offline_all
returns c =
    let a = c.args in
    let s₀ = a.s.now in
    let holds = sound c.args.s.now c.frame_of-tested.ensures c.if-not-tested.false in
    let S = (sound_iff s₀).0 holds in
    let domain : a.dom < domains s₀ = omega (arith, S.domains, c.if-s-dom.false) in
    let all : c.loop-vcpu.vcpu ≡ vcpus s₀ = omega (arith, S.vcpus, c.loop-vcpu-test.false, c.loop-vcpu.auto.vcpu-end) in
    rw (holds, lt-ltb a.dom (domains s₀) domain) (ap done (c.loop-vcpu.invariant ∙ ap (offline_first s₀ a.dom a.now) all))
