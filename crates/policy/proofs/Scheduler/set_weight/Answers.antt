-- `policy::Scheduler::set_weight` meets its contract. Assumes nothing.
use Rattle.std.proofs.Common.{◌<◌, ◌∙◌, sym, ap, arith, set}
use Rattle.system.specs.Slots.{slot}
use Rattle.policy.specs.declared.Account.{Account}
use Rattle.policy.specs.Accounts.{raised, account_of, with_accounts, put_account, with_weight, set_weight}
use Rattle.policy.proofs.AccountPuts.{covers_below}
use Rattle.policy.proofs.AccountReads.{stored}
use Rattle.policy.proofs.Scheduler.set_weight.Goals as goal

pub returns-then-covers : goal.returns-then-covers
unfolding account_of put_account set_weight
returns-then-covers c =
    let a = c.args in
    let π = a.self.now in
    let e = sym c.covers.ensures ∙ c.if-covers.true in
    let h : slot c.args.dom c.args.vcpu < 128 = omega (arith, covers_below π a.dom a.vcpu e) in
    rw (e, c.raised.ensures)
    (ap (λ (x : Account). with_accounts π (set π.accounts (slot a.dom a.vcpu) (with_weight x (raised a.weight))))
    (stored π (record { accounts = omega arith }) _ h))

pub returns-else-covers : goal.returns-else-covers
unfolding put_account set_weight
returns-else-covers c = rw (sym c.covers.ensures ∙ c.if-covers.false)
