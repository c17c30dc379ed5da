-- `policy::Scheduler::account` meets its contract. Assumes nothing.
use Rattle.std.proofs.Common.{sym, ◌∙◌, subst, arith}
use Rattle.scans.specs.Booleans.{both}
use Rattle.policy.proofs.RenewalLoop.{Places, places-floor, places-nobody, renews-all}
use Rattle.policy.proofs.Scheduler.account.Goals as goal
use Rattle.policy.proofs.Scheduler.account.Goals.{then-wants_floor, else-wants_floor}

pub returns : goal.returns
returns c =
    let s = c.args.s.now in
    let π = c.args.self.now in
    let now = c.args.now in
    let wanted = sym c.wants_floor.ensures in
    c.renew.ensures
    ∙ renews-all s π now (record { accounts = omega arith }) c.if-wants_floor.floor
    (elim c.if-wants_floor.branch [
      | then-wants_floor w ↦
          subst (Places s π now) (sym (w.floor-is ∙ w.floor-floor.ensures))
          (places-floor s π now (both _ _ (wanted ∙ w.if-wants_floor.true)).0)
      | else-wants_floor w ↦ subst (Places s π now) (sym w.floor-is) (places-nobody s π now (wanted ∙ w.if-wants_floor.false))
    ])
