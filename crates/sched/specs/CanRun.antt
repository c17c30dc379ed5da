-- When a vCPU may be dispatched onto a pCPU.
use Rattle.std.specs.Prelude.{ℕ, ◌<◌, true, ◌≡◌}
use Rattle.system.specs.declared.RunState.TheVariants.{Runnable}
use Rattle.system.specs.declared.Occupant.TheVariants.{Idle}
use Rattle.system.specs.declared.System.{System}
use Rattle.system.specs.Reads.{occupant_at, state_at, admits}
use Rattle.system.specs.Slots.{pcpus, Present}

-- the vCPU of slot i waits, and may be dispatched onto pCPU p
pub record CanRun (s : System) (i p : ℕ) : Type 0 where
  pub present : Present s i
  pub ready : state_at s i ≡ Runnable
  pub exists : p < pcpus s
  pub free : occupant_at s p ≡ Idle
  pub affine : admits s i p ≡ true
