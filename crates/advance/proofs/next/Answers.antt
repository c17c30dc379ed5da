-- What `advance::next` leaves to show. Assumes nothing.
use Rattle.std.proofs.Common.{true, ◌*◌, min, ◌≡◌, sym, ◌∙◌, ap, ap₂, arith, ℕ}
use Rattle.system.specs.Slots.{slots}
use Rattle.verdict.specs.Sound.{sound_iff}
use Rattle.verdict.specs.Violations.{invariants_hold}
use Rattle.moves.specs.Decide.{decide}
use Rattle.moves.specs.Table.{tabled}
use Rattle.settling.proofs.Laws.{decided-choice, idle-set-is}
use Rattle.advance.specs.Advance.{next, named}
use Rattle.advance.specs.ServiceRule.{rule_of}
use Rattle.advance.proofs.Recommendations.{names}
use Rattle.advance.proofs.next.Goals as goal

pub returns-then-not-invariants_hold-clause-recommended : goal.returns-then-not-invariants_hold-clause-recommended
unfolding next
returns-then-not-invariants_hold-clause-recommended c = rw (sym c.invariants_hold.ensures ∙ c.if-not-invariants_hold.true)

pub returns-clause-recommended : goal.returns-clause-recommended
unfolding next
returns-clause-recommended c =
    let s = c.args.s.now in
    let now = c.args.now in
    let ρ = rule_of c.args.p.now in
    let t = c.tabulate.new.table in
    let hold : invariants_hold c.args.s.now ≡ true = sym c.invariants_hold.ensures ∙ c.if-not-invariants_hold.false in
    let n : min (c.domain_count.result * 8) 128 ≡ slots c.args.s.now = omega arith in
    let x =
    c.decide-choice.ensures ∙ ap₂ (λ (z m : ℕ). decide (tabled t z) m) (c.idle_set-idle.ensures ∙ idle-set-is s) n
    ∙ decided-choice s ρ now t ((sound_iff s).0 hold) c.tabulate.ensures in
    rw (hold, c.from.ensures ∙ (names s c.args.p.now now c.decide-choice.result (sym x) ∙ ap named x))
