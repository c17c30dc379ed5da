-- `policy::Scheduler::floor` meets its contract. Assumes nothing.
use Rattle.std.proofs.Common.{ℕ, refl, sym, ◌∙◌, ◌≡◌, ap, add-one, arith}
use Rattle.scans.specs.Scan.{scan}
use Rattle.system.specs.Reads.{vcpu_at}
use Rattle.system.specs.Slots.{slots}
use Rattle.policy.specs.Accounting.{floor}
use Rattle.policy.specs.OneAccount.{share_of}
use Rattle.policy.proofs.Ids.{vcpu-below, vcpu-beyond}
use Rattle.policy.proofs.FloorLoop.{floor_of, floor-turned, floor-absent}
use Rattle.policy.proofs.Scheduler.floor.Goals as goal
use Rattle.policy.proofs.Scheduler.floor.Goals.{then-i-s, else-i-s}

pub loop-i-init : goal.loop-i-init
unfolding scan
loop-i-init c = refl

pub loop-i-preserved : goal.loop-i-preserved
unfolding vcpu_at
loop-i-preserved c =
    let s = c.args.s.now in
    let π = c.args.self.now in
    let now = c.args.now in
    let i = c.loop-i.i in
    let before = c.loop-i.invariant in
    rw add-one
    (elim c.if-i-s.branch [
      | then-i-s w ↦
          w.best-is
          ∙ rw (w.leader-best.ensures, w.account_at.ensures, before) (floor-turned s π now i (vcpu-below i _ w.if-i-s.true))
      | else-i-s w ↦ w.best-is ∙ before ∙ sym (ap (share_of s π now) (floor-absent s π now i (vcpu-beyond i _ w.if-i-s.false)))
    ])

pub returns : goal.returns
unfolding floor
returns c =
    let a = c.args in
    let e : c.loop-i.i ≡ slots c.args.s.now = omega arith in
    c.loop-i.invariant
    ∙ ap (λ (n : ℕ). share_of a.s.now a.self.now a.now (floor_of a.s.now a.self.now a.now n)) e
