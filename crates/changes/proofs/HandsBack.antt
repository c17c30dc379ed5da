-- A refusal hands both records back as they are. Assumes nothing.
use Rattle.std.proofs.Common.{Bool, true, false, cond, Ok, Err, refl}
use Rattle.system.specs.declared.VirtualCpu.{VirtualCpu}
use Rattle.system.specs.declared.PhysicalCpu.{PhysicalCpu}
use Rattle.system.specs.declared.Answer.{Answer}
use Rattle.system.specs.declared.Answer.TheVariants.{Done}
use Rattle.system.specs.Reads.{is_idle}
use Rattle.changes.specs.declared.Change.TheVariants.{Write, Enter, Leave}
use Rattle.changes.specs.declared.After.{After}
use Rattle.changes.specs.Changes.{kept}
use Rattle.changes.specs.HandsBack.{HandsBack, ChangeHandsBack}

module _ (x : VirtualCpu) (c : PhysicalCpu) where
  kept-hands-back : (a : Answer) → HandsBack x c (kept a x c)
  kept-hands-back a = record { vcpu = λ n. refl; pcpu = λ n. refl }

  done-hands-back : (w : VirtualCpu) (h : PhysicalCpu) → HandsBack x c (record { answer = Done; vcpu = w; pcpu = h })
  done-hands-back w h = record { vcpu = λ n. absurd (n refl); pcpu = λ n. absurd (n refl) }

  -- a test that fails is told a, and hands them back
  pub tested-hands-back : (b : Bool) (a : Answer) {r : After} → HandsBack x c r → HandsBack x c (cond b r (kept a x c))
  tested-hands-back true a h = h
  tested-hands-back false a h = kept-hands-back a

pub stored-hands-back : ChangeHandsBack
stored-hands-back (Err a) who x c = kept-hands-back x c a
stored-hands-back (Ok (Write w)) who x c = done-hands-back x c w c
stored-hands-back (Ok (Enter w p)) who x c = tested-hands-back x c (is_idle c.occupant) _ (done-hands-back x c w _)
stored-hands-back (Ok (Leave w p)) who x c = done-hands-back x c w _
