-- After v turns of the loop the lines of the first v vCPUs are placed. Assumes nothing.
use Rattle.std.proofs.Common.{◌+◌, ◌*◌, ◌≤◌}
use Rattle.text.specs.Places.{Placed}
use Rattle.usage_layout.specs.Layout.{each}
use Rattle.usage_text.specs.BodyText.{vcpu_line}
use Rattle.usage_text.proofs.put_body.Given as goal

abbrev pub invariant-loop-v : goal.invariant-loop-v
invariant-loop-v l =
    record { placed : Placed l.fn.out l.at (each l.v (vcpu_line l.domain l.body)) l.out l.past; short : l.past ≤ l.at + l.v * 103 }
