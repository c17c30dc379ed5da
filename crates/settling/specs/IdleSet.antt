-- The set of idle pCPUs as a number.
use Rattle.std.specs.Prelude.{ℕ, min, Bool, ◌&&◌, List, ltb, get_or}
use Rattle.masks.specs.Sets.{set_of}
use Rattle.system.specs.declared.PhysicalCpu.{PhysicalCpu}
use Rattle.system.specs.declared.System.{System}
use Rattle.system.specs.Shape.{idle}
use Rattle.system.specs.Reads.{is_idle, idle_at}

-- pCPU p is one of the first m of a table, and nobody holds it
abbrev pub idle_in : List PhysicalCpu → ℕ → ℕ → Bool
idle_in held m p = ltb p (min m 64) && is_idle (get_or held p idle).occupant

unfoldable pub idle_set : System → ℕ
idle_set s = set_of (λ p. idle_at s p) 64
