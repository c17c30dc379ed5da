-- `VirtualCpu::runtime_until` meets its contract: the sum has at most 65 bits, so that none is cut. Assumes nothing.
use Rattle.std.proofs.Common.{rules, ◌∙◌, ap, lit<, lt_trans}
use Rattle.service.specs.Service.{value}
use Rattle.service.specs.Laws.{held-exact, held-sum-both}
use Rattle.system.specs.Records.{in_flight, runtime_until, until-below}
use Rattle.system.proofs.VirtualCpu.runtime_until.Goals as goal

pub returns-clause-held : goal.returns-clause-held
returns-clause-held c =
    c.sum.ensures
    ∙ rw (c.from_u64-closed.ensures, c.from_u64-open.ensures, c.in_flight.ensures)
    (held-sum-both c.args.self.now.runtime (in_flight c.args.self.now c.args.now))

pub returns-clause-exact : goal.returns-clause-exact
returns-clause-exact c =
    ap value (returns-clause-held c)
    ∙ held-exact (runtime_until c.args.self.now c.args.now)
    (lt_trans (until-below c.args.self.now c.args.now (search rules) (search rules)) (lit< tt))
