-- The frame of a host, which calls leave as it was.
use Rattle.std.specs.Prelude.{◌≡◌}
use Rattle.verdict.specs.Violations.{invariants_hold}
use Rattle.sched.specs.declared.Frame.{Frame}
use Rattle.sched.specs.RequestInPlace.{framed}
use Rattle.host.specs.declared.Host.{Host}
use Rattle.host.specs.WakeEdges.{TabledHost}

-- f is what a request needs of the host's system beside its records; and the host's tables are as long as the code's
pub record IsFrameOf (h : Host) (f : Frame) : Type 0 where
  pub known : f ≡ framed h.system (invariants_hold h.system)
  pub tabled : TabledHost h
