-- `policy::Scheduler::renew` meets its contract. Assumes nothing.
use Rattle.std.proofs.Common.{refl, sym, ◌∙◌, ◌≡◌, ap, add-one, arith, set}
use Rattle.system.specs.Reads.{vcpu_at}
use Rattle.system.specs.Slots.{slots}
use Rattle.policy.specs.declared.Account.{Account}
use Rattle.policy.specs.Accounts.{with_accounts}
use Rattle.policy.specs.OneAccount.{renew_by}
use Rattle.policy.proofs.Ids.{vcpu-below, vcpu-beyond}
use Rattle.policy.proofs.RenewalLoop.{renews, outside-system, outside-policy}
use Rattle.policy.proofs.Scheduler.renew.Goals as goal
use Rattle.policy.proofs.Scheduler.renew.Goals.{then-i-s+then-covers, else-i-s}
use Rattle.policy.proofs.Scheduler.renew.Goals.{else-i-s-via-then-i-s+else-covers, else-i-s-via-else-i-s}

pub loop-i-init : goal.loop-i-init
unfolding renew_by
loop-i-init c = refl

pub loop-i-preserved : goal.loop-i-preserved
unfolding vcpu_at
loop-i-preserved c =
    let s = c.args.s.now in
    let π = c.args.self.now in
    let f = c.args.floor in
    let i = c.loop-i.i in
    let q = c.loop-i.self in
    let before = c.loop-i.invariant in
    rw add-one
    (elim c.if-i-s.branch [
      | then-i-s+then-covers w ↦
          w.self-is ∙ ap (λ (a : Account). with_accounts q (set q.accounts i a)) w.renew.ensures
          ∙ renews s π f i q before (record { accounts = omega arith }) (omega arith) (vcpu-below i _ w.if-i-s.true)
          (sym w.covers.ensures ∙ w.if-covers.true)
      | else-i-s w ↦
          w.self-is
          ∙ elim w.else-i-s.branch [
            | else-i-s-via-then-i-s+else-covers u ↦ outside-policy s π f i q before (sym u.covers.ensures ∙ u.if-covers.false)
            | else-i-s-via-else-i-s u ↦ outside-system s π f i q before (vcpu-beyond i _ u.if-i-s.false)
          ]
    ])

pub returns : goal.returns
returns c =
    let e : c.loop-i.i ≡ slots c.args.s.now = omega arith in
    c.loop-i.invariant ∙ ap (renew_by c.args.s.now c.args.self.now c.args.floor) e
