-- What `advance::surveyed` leaves to show. Assumes nothing.
use Rattle.std.proofs.Common.{◌%◌, add-one, le-ltb}
use Rattle.system.specs.Reads.{vcpu_at}
use Rattle.advance.proofs.SurveyLoop.{seen_next, seen-absent}
use Rattle.advance.proofs.surveyed.Goals as goal
use Rattle.advance.proofs.surveyed.Goals.{then-i-k, else-i-k}

pub loop-i-preserved : goal.loop-i-preserved
unfolding vcpu_at
loop-i-preserved c =
    let S = c.loop-i.invariant in
    rw add-one
    (elim c.if-i-k.branch [
      | then-i-k w ↦ rw w.survey-is (seen_next S w.with-survey.ensures)
      | else-i-k w ↦ rw w.survey-is (seen-absent S (le-ltb (c.loop-i.i % 8) _ (rw c.vcpus_per_domain-k.ensures at w.if-i-k.false)))
    ])
