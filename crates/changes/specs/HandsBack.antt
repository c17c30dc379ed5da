-- A refusal hands both records back as they are. It is proved as `stored-hands-back` of every change and every refusal.
use Rattle.std.specs.Prelude.{◌≡◌, ◌≢◌, Result}
use Rattle.system.specs.declared.VirtualCpu.{VirtualCpu}
use Rattle.system.specs.declared.Occupant.{Occupant}
use Rattle.system.specs.declared.PhysicalCpu.{PhysicalCpu}
use Rattle.system.specs.declared.Answer.{Answer}
use Rattle.system.specs.declared.Answer.TheVariants.{Done}
use Rattle.system.specs.Answers.{told}
use Rattle.changes.specs.declared.Change.{Change}
use Rattle.changes.specs.declared.After.{After}
use Rattle.changes.specs.Changes.{stored}

-- with a number other than 0 the records are x and c, which were there
pub record HandsBack (x : VirtualCpu) (c : PhysicalCpu) (r : After) : Type 0 where
  pub vcpu : told r.answer ≢ told Done → r.vcpu ≡ x
  pub pcpu : told r.answer ≢ told Done → r.pcpu ≡ c

abbrev pub ChangeHandsBack : Type 0
ChangeHandsBack = (y : Result Change Answer) (who : Occupant) (x : VirtualCpu) (c : PhysicalCpu) → HandsBack x c (stored y who x c)
