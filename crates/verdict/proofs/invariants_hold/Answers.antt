-- What the loop of `verdict::invariants_hold` tests, with the tally of who runs and who is held, is the definition's soundness.
-- Assumes nothing.
use Rattle.std.proofs.Common.{sym, ◌∙◌, arith}
use Rattle.system.specs.Reads.{vcpu_at, occupant_at}
use Rattle.verdict.proofs.Testing.{testing_starts, testing_rests, testing_backed, testing_broken, testing_verdict, testing_unsound}
use Rattle.verdict.proofs.invariants_hold.Goals as goal
use Rattle.verdict.proofs.invariants_hold.Goals.{then-runs_within, then-is_some, else-is_some, else-runs_within}

pub loop-i-init : goal.loop-i-init
loop-i-init c = testing_starts c.args.s.now _ c.within_sizes-sound.ensures

pub loop-i-preserved : goal.loop-i-preserved
unfolding vcpu_at occupant_at
loop-i-preserved c =
    let s = c.args.s.now in
    let i = c.loop-i.i in
    let T = c.loop-i.invariant in
    let runs = c.runs_within.ensures in
    elim c.if-runs_within.branch [
      | then-runs_within w ↦
          let at = w.pcpu_index.ensures in
          let told = w.vcpu_violation.ensures in
          let found = sym w.is_some.ensures in
          elim w.if-is_some.branch [
            | then-is_some u ↦
                rw (w.sound-is, u.sound-is, w.running-is)
                (testing_broken s i runs w.if-runs_within.true at told (found ∙ u.if-is_some.true) T)
            | else-is_some u ↦
                rw (w.sound-is, u.sound-is, w.running-is)
                (testing_backed s i runs w.if-runs_within.true at told (found ∙ u.if-is_some.false) T)
          ]
      | else-runs_within w ↦ rw (w.sound-is, w.running-is) (testing_rests s i runs w.if-runs_within.false T)
    ]

pub returns-then-sound : goal.returns-then-sound
returns-then-sound c =
    rw c.busy_pcpus.ensures (testing_verdict c.args.s.now (omega (arith, c.domain_count-i-end.ensures)) (rw c.if-sound.true at c.loop-i.invariant))

pub returns-else-sound : goal.returns-else-sound
returns-else-sound c =
    rw c.if-sound.false (testing_unsound c.args.s.now (omega (arith, c.domain_count-i-end.ensures)) (rw c.if-sound.false at c.loop-i.invariant))
