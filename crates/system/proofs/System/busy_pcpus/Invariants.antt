-- What the loop of `System::busy_pcpus` keeps. Assumes nothing.
use Rattle.std.proofs.Common.{◌≡◌, not, ◌≤◌, get_or}
use Rattle.system.specs.Shape.{idle}
use Rattle.system.specs.Reads.{is_idle, count}
use Rattle.system.proofs.System.busy_pcpus.Given as goal

abbrev pub invariant-loop-p : goal.invariant-loop-p
invariant-loop-p l = record {
  found : l.busy ≡ count (λ p. not (is_idle (get_or l.fn.self.pcpus p idle).occupant)) l.p;
  few : l.busy ≤ l.p;
}
