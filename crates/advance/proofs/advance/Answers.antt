-- What `advance::advance` leaves to show. Assumes nothing.
use Rattle.std.proofs.Common.{◌≡◌, length, sym, ◌∙◌, ap}
use Rattle.policy.specs.Accounting.{accounted}
use Rattle.rules.specs.Settle.{Settled, limit}
use Rattle.settling.proofs.Laws.{idle-set-is, settle-none}
use Rattle.advance.specs.ServiceRule.{rule_of}
use Rattle.advance.proofs.Enacting.{accounted-slice}
use Rattle.advance.proofs.AdvanceResult.{settled, untouched}
use Rattle.advance.proofs.SurveyLoop.{not-renewed, nothing-moves}
use Rattle.advance.proofs.advance.Goals as goal
use Rattle.advance.proofs.advance.Goals.{then-survey, else-survey, Joined-survey}

pub returns-then-not-invariants_hold : goal.returns-then-not-invariants_hold
returns-then-not-invariants_hold c =
    untouched c.args.s.now c.args.p.now c.args.now (sym c.invariants_hold.ensures ∙ c.if-not-invariants_hold.true)

pub settle-count-requires-clause-idle : goal.settle-count-requires-clause-idle
settle-count-requires-clause-idle c = c.idle_set-idle.ensures ∙ idle-set-is c.args.s.now

-- the policy is the accounted one: where the pool is as it was, accounting changes nothing
accounts : (c : Joined-survey) → c.if-survey.p ≡ accounted c.args.s.now c.args.p.now c.args.now
accounts c =
    elim c.if-survey.branch [
      | then-survey w ↦ w.p-is ∙ w.account.ensures
      | else-survey w ↦
          let seen = c.surveyed-survey.ensures in
          w.p-is
          ∙ sym (not-renewed c.args.s.now c.args.p.now c.args.now seen.seen (record { accounts = seen.long }) w.if-survey.false)
    ]

pub returns-then-may_move : goal.returns-then-may_move
returns-then-may_move c =
    settled c.args.s.now c.args.p.now c.args.now (sym c.invariants_hold.ensures ∙ c.if-not-invariants_hold.false)
    (accounts (goal.at.returns-then-may_move c).Joined-survey) c.settle-count.ensures.system c.settle-count.ensures.count

pub returns-else-may_move : goal.returns-else-may_move
returns-else-may_move c =
    let s = c.args.s.now in
    let p = c.args.p.now in
    let now = c.args.now in
    let π = c.if-survey.p in
    let accounts = accounts (goal.at.returns-else-may_move c).Joined-survey in
    let e =
    settle-none (rule_of π) now (limit s) s
    (nothing-moves s p now c.surveyed-survey.ensures.seen (rule_of π) (rw accounts (accounted-slice s p now))
    (rw (← idle-set-is s, ← c.idle_set-idle.ensures) (sym c.may_move.ensures ∙ c.if-may_move.false))) in
    settled s p now (sym c.invariants_hold.ensures ∙ c.if-not-invariants_hold.false) accounts (sym (ap (λ (r : Settled). r.system) e))
    (sym (ap (λ (r : Settled). length r.moves) e))
