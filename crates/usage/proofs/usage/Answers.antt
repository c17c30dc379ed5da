-- `usage::usage` meets its contract: all that is added is far below what would be held. Assumes nothing.
use Rattle.std.proofs.Common.{ℕ, ◌+◌, ◌^◌, ◌<◌, ◌≡◌, ◌∙◌, ap, zero-le, suc-mul, lt_of_le_of_lt, mul-le-mul_right}
use Rattle.std.proofs.Common.{add-one, arith, lit≤}
use Rattle.service.specs.Service.{value, held}
use Rattle.service.specs.Laws.{exactly, held-sum}
use Rattle.system.specs.declared.System.{System}
use Rattle.system.specs.Records.{runtime_until}
use Rattle.system.specs.Reads.{vcpu_at, vcpu_count}
use Rattle.system.specs.Slots.{slot}
use Rattle.usage.specs.Usage.{sum, usage}
use Rattle.usage.proofs.Bounds.{few}
use Rattle.usage.proofs.usage.Invariants.{so_far, Bounded}
use Rattle.usage.proofs.usage.Goals as goal

pub loop-u-init : goal.loop-u-init
unfolding sum Bounded
loop-u-init c = (c.from_u64-total.ensures, zero-le)

pub loop-u-preserved : goal.loop-u-preserved
unfolding sum vcpu_at Bounded
loop-u-preserved c =
    let a = c.args in
    let s = a.s.now in
    let u = c.loop-u.u in
    let r = runtime_until (vcpu_at s (slot a.dom u)) a.now in (
      rw add-one
          (c.sum-sum.ensures
          ∙ (rw c.runtime_until.ensures.exact (ap (λ x. held (value x + r)) c.loop-u.invariant.0 ∙ held-sum (so_far s a.dom a.now u) r))),
      rw add-one (omega (arith, c.loop-u.invariant.1, c.runtime_until.ensures.bound, suc-mul u (2 ^ 65))),
    )

-- so that all of them are far below 2^128
far-below : (s : System) (d now k : ℕ) → k ≡ vcpu_count s d → Bounded s d now k → usage s d now < 2 ^ 128
unfolding Bounded
far-below s d now k e b = lt_of_le_of_lt (rw e at b) (lt_of_le_of_lt (mul-le-mul_right (2 ^ 65) (few s d)) (lit≤ tt))

pub returns-clause-exact : goal.returns-clause-exact
returns-clause-exact c =
    let a = c.args in
    let s = a.s.now in
    let all : c.loop-u.u ≡ vcpu_count s a.dom = omega (arith, c.loop-u.auto.u-end, c.loop-u-test.false, c.vcpu_count-u-end.ensures) in
    let exact =
    exactly (far-below s a.dom a.now c.loop-u.u all c.loop-u.invariant.1)
    (c.loop-u.invariant.0 ∙ ap (λ k. held (so_far s a.dom a.now k)) all) in
    exact.1
