-- A machine: a host as its calls see it, whatever decides its advances.
use Rattle.std.specs.Prelude.{ℕ, List}
use Rattle.system.specs.declared.System.{System}
use Rattle.moves.specs.declared.Choice.{Choice}
use Rattle.calls.specs.declared.Call.{Call}

pub record Machine : Type 1 where
  pub Host : Type 0
  pub system : Host → System
  -- what a call is told, the host that it leaves, and the moves that it enacted, in order (none but by an advance)
  pub number : Host → Call → ℕ
  pub after : Host → Call → Host
  pub moves : Host → Call → List Choice
