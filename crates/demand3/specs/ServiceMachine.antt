-- The host of the service policy as a machine, and that a list of calls leaves of it what it leaves of a host. That
-- is proved as `host-after-same`.
use Rattle.std.specs.Prelude.{◌≡◌, List}
use Rattle.host.specs.declared.Host.{Host}
use Rattle.host.specs.Step.{step, host_after}
use Rattle.calls.specs.declared.Call.{Call}
use Rattle.demand3.specs.Machine.{Machine}
use Rattle.demand3.specs.Lists.{after_all}

abbrev pub service_machine : Machine
service_machine =
    record {
      Host = Host;
      system = λ h. h.system;
      number = λ h c. (step h c).number;
      after = λ h c. (step h c).host;
      moves = λ h c. (step h c).moves;
    }

abbrev pub SameHosts : Type 0
SameHosts = (h : Host) (cs : List Call) → after_all service_machine h cs ≡ host_after h cs
