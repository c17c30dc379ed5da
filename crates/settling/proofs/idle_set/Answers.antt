-- `settling::idle_set` meets its contract. Assumes nothing.
use Rattle.std.proofs.Common.{◌≡◌, ◌<◌, ◌∙◌, min, sym, refl, ap, add-one, arith}
use Rattle.masks.specs.Sets.{set_of}
use Rattle.settling.specs.IdleSet.{idle_in}
use Rattle.settling.proofs.IdleSet.{joins, joins-below, passes, whole}
use Rattle.settling.proofs.idle_set.Goals as goal
use Rattle.settling.proofs.idle_set.Goals.{then-is_idle, else-is_idle}

pub loop-q-init : goal.loop-q-init
unfolding set_of
loop-q-init c = refl

pub overflow_add-set : goal.overflow_add-set
overflow_add-set c =
    let exists : c.loop-q.q < min c.args.pcpu_count 64 = omega arith in
    rw (c.loop-q.invariant, c.pcpu_bit-set.ensures)
    (record { fits = joins-below c.args.pcpus.now c.args.pcpu_count c.loop-q.q exists (sym c.is_idle.ensures ∙ c.if-is_idle.true) })

pub loop-q-preserved : goal.loop-q-preserved
loop-q-preserved c =
    let held = c.args.pcpus.now in
    let m = c.args.pcpu_count in
    let q = c.loop-q.q in
    let exists : c.loop-q.q < min c.args.pcpu_count 64 = omega arith in
    rw
    add-one
    (elim c.if-is_idle.branch [
      | then-is_idle w ↦
          rw (w.set-is, c.loop-q.invariant, w.pcpu_bit-set.ensures)
          (joins held m q exists (sym c.is_idle.ensures ∙ w.if-is_idle.true))
      | else-is_idle w ↦ w.set-is ∙ c.loop-q.invariant ∙ passes held m q exists (sym c.is_idle.ensures ∙ w.if-is_idle.false)
    ])

pub returns : goal.returns
returns c =
    let e : c.loop-q.q ≡ min c.args.pcpu_count 64 = omega arith in
    c.loop-q.invariant ∙ ap (set_of (idle_in c.args.pcpus.now c.args.pcpu_count)) e ∙ whole c.args.pcpus.now c.args.pcpu_count
