-- The loop of `sched::offline_all`: after as many turns the first vCPUs are taken offline. Assumes nothing.
use Rattle.std.proofs.Common.{◌≡◌}
use Rattle.sched.specs.Steps.{offline_first}
use Rattle.sched.proofs.offline_all.Given as goal

abbrev pub invariant-loop-vcpu : goal.invariant-loop-vcpu
invariant-loop-vcpu l = l.s ≡ offline_first l.initial.s l.dom l.now l.vcpu
