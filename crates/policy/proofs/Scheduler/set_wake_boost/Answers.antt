-- `policy::Scheduler::set_wake_boost` meets its contract. Assumes nothing.
use Rattle.std.proofs.Common.{◌≡◌, List, length, get_or, set, ◌∙◌, sym, ap, add-one, arith}
use Rattle.policy.specs.declared.Account.{Account}
use Rattle.policy.specs.Accounts.{unboosted, set_wake_boost}
use Rattle.policy.proofs.AccountReads.{zeros}
use Rattle.policy.proofs.ClearLoop.{clear_first, clear_none, clear_all, clear_next}
use Rattle.policy.proofs.Scheduler.set_wake_boost.Goals as goal

pub loop-a-init : goal.loop-a-init
loop-a-init c = sym (clear_none c.args.self.now.accounts)

pub loop-a-preserved : goal.loop-a-preserved
loop-a-preserved c =
    let i = c.loop-a.a-index in
    rw add-one
    (ap (λ (l : List Account). set l i (unboosted (get_or l i zeros))) c.loop-a.invariant
    ∙ clear_next c.args.self.now.accounts i zeros (omega arith))

pub returns : goal.returns
unfolding set_wake_boost
returns c =
    let π = c.args.self.now in
    let e : c.loop-a.a-index ≡ length c.args.self.now.accounts = omega arith in
    ap (λ (l : List Account). record {
      domain_count = π.domain_count;
      vcpus_per_domain = π.vcpus_per_domain;
      accounts = l;
      quantum = π.quantum;
      wake_boost = c.args.enabled;
    }) (c.loop-a.invariant ∙ ap (clear_first π.accounts) e ∙ clear_all π.accounts)
