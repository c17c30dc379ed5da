-- `policy::Scheduler::account_of` meets its contract. Assumes nothing.
use Rattle.std.proofs.Common.{◌<◌, ◌∙◌, sym, arith}
use Rattle.system.specs.Slots.{slot}
use Rattle.policy.specs.Accounts.{account_of}
use Rattle.policy.proofs.AccountPuts.{covers_below}
use Rattle.policy.proofs.AccountReads.{stored}
use Rattle.policy.proofs.Scheduler.account_of.Goals as goal

pub returns-then-covers : goal.returns-then-covers
unfolding account_of
returns-then-covers c =
    let a = c.args in
    let e = sym c.covers.ensures ∙ c.if-covers.true in
    let h : slot c.args.dom c.args.vcpu < 128 = omega (arith, covers_below a.self.now a.dom a.vcpu e) in
    rw e (stored a.self.now (record { accounts = omega arith }) _ h)

pub returns-else-covers : goal.returns-else-covers
unfolding account_of
returns-else-covers c = rw (sym c.covers.ensures ∙ c.if-covers.false)
