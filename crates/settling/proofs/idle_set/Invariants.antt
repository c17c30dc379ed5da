-- After q turns of the loop of `settling::idle_set` the set has the idle pCPUs below q. Assumes nothing.
use Rattle.std.proofs.Common.{◌≡◌}
use Rattle.masks.specs.Sets.{set_of}
use Rattle.settling.specs.IdleSet.{idle_in}
use Rattle.settling.proofs.idle_set.Given as goal

abbrev pub invariant-loop-q : goal.invariant-loop-q
invariant-loop-q l = l.set ≡ set_of (idle_in l.pcpus l.pcpu_count) l.q
