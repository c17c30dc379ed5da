-- What `advance::settle` leaves to show. Assumes nothing.
use Rattle.std.proofs.Common.{ℕ, ◌<◌, ◌^◌, ◌*◌, min, List, ◌≡◌, ◌∙◌, arith, rules}
use Rattle.system.specs.Reads.{vcpu_at, runtime_at}
use Rattle.system.specs.Slots.{slots}
use Rattle.verdict.specs.Sound.{sound_iff}
use Rattle.moves.specs.declared.Row.{Row}
use Rattle.rules.specs.Settle.{limit}
use Rattle.settling.specs.TableLaws.{Settleable}
use Rattle.settling.specs.TableOf.{TableOf}
use Rattle.settling.proofs.Laws.{limit-small}
use Rattle.advance.specs.ServiceRule.{rule_of}
use Rattle.advance.proofs.RunTimes.{run-times}
use Rattle.advance.proofs.SettleLoop.{settleable, count-is, settles}
use Rattle.advance.proofs.settle.Goals as goal
use Rattle.advance.proofs.settle.Goals.{Start}

times : (c : Start) (i : ℕ) → runtime_at c.args.s.now i < 2 ^ 64
unfolding vcpu_at
times c = let f = c.fits-s.1.1.1.0 in run-times c.args.s.now.vcpus f.0 f.1.1

table : (c : Start) {t : List Row} → TableOf c.args.s.now (rule_of c.args.p.now) c.args.now t (slots c.args.s.now)
    → Settleable c.args.s.now (rule_of c.args.p.now) c.args.now t
table c F =
    let s = c.args.s.now in
    settleable s c.args.p.now c.args.now (record { vcpus = search rules; pcpus = search rules }) ((sound_iff s).0 c.requires.sound) (times c) F

pub returns-clause-system : goal.returns-clause-system
returns-clause-system c =
    let s = c.args.s.now in
    let n : min (c.domain_count-n.result * 8) 128 ≡ slots c.args.s.now = omega arith in
    let most : min c.most_moves-most.result 320 ≡ limit c.args.s.now = omega (arith, limit-small s) in
    c.enact.ensures
    ∙ settles s c.args.p.now c.args.now (table (goal.at.returns-clause-system c).Start c.tabulate.ensures) _ _ _ n most c.requires.idle
    c.settle-count.ensures.logged

pub returns-clause-count : goal.returns-clause-count
returns-clause-count c =
    let s = c.args.s.now in
    let n : min (c.domain_count-n.result * 8) 128 ≡ slots c.args.s.now = omega arith in
    let most : min c.most_moves-most.result 320 ≡ limit c.args.s.now = omega (arith, limit-small s) in
    count-is s c.args.p.now c.args.now (table (goal.at.returns-clause-count c).Start c.tabulate.ensures) _ _ _ n most c.requires.idle
    c.settle-count.ensures.count
