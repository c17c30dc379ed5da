-- `policy::Scheduler::some_joined` meets its contract. Assumes nothing.
use Rattle.std.proofs.Common.{refl, sym, ◌∙◌, ◌<◌, add-one, arith}
use Rattle.system.specs.Reads.{vcpu_at}
use Rattle.system.specs.Slots.{slots}
use Rattle.policy.specs.OneAccount.{some_join}
use Rattle.policy.proofs.Ids.{vcpu-below, vcpu-beyond}
use Rattle.policy.proofs.JoinedLoop.{join-found, join-turned, join-absent}
use Rattle.policy.proofs.Scheduler.some_joined.Goals as goal
use Rattle.policy.proofs.Scheduler.some_joined.Goals.{else-i-s-via-then-i-s+else-joins, else-i-s-via-else-i-s}

pub loop-i-init : goal.loop-i-init
unfolding some_join
loop-i-init c = refl

pub returns-then-joins : goal.returns-then-joins
unfolding vcpu_at
returns-then-joins c =
    let i = c.loop-i.i in
    let l : c.loop-i.i < slots c.args.s.now = omega arith in
    join-found c.args.s.now c.args.self.now (record { accounts = omega arith }) i (omega arith) (vcpu-below i _ c.if-i-s.true)
    (slots c.args.s.now) l (sym c.joins.ensures ∙ c.if-joins.true)

pub loop-i-preserved : goal.loop-i-preserved
unfolding vcpu_at
loop-i-preserved c =
    let i = c.loop-i.i in
    let before = c.loop-i.invariant in
    rw add-one
    (elim c.else-i-s.branch [
      | else-i-s-via-then-i-s+else-joins w ↦
          join-turned c.args.s.now c.args.self.now (record { accounts = omega arith }) i (omega arith) (vcpu-below i _ w.if-i-s.true)
          (sym w.joins.ensures ∙ w.if-joins.false) before
      | else-i-s-via-else-i-s w ↦ join-absent c.args.s.now c.args.self.now i (vcpu-beyond i _ w.if-i-s.false) before
    ])
