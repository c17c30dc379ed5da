-- What part a vCPU has in a decision.
use Rattle.std.specs.Prelude.{ℕ, ◌%◌, Bool, cond, leb}
use Rattle.system.specs.declared.RunState.{RunState}
use Rattle.system.specs.declared.RunState.TheVariants.{Offline, Runnable, Running, Blocked}
use Rattle.system.specs.declared.VirtualCpu.{VirtualCpu}
use Rattle.system.specs.Records.{elapsed}
use Rattle.moves.specs.declared.Standing.{Standing}
use Rattle.moves.specs.declared.Standing.TheVariants.{Rests, Waits, Expired}

-- one waits that is not barred; one is expired that has held pCPU p for the slice q; any other rests; e is how long it has
abbrev pub standing_in : Bool → ℕ → ℕ → RunState → Standing
standing_in barred q e Offline = Rests
standing_in barred q e Runnable = cond barred Rests Waits
standing_in barred q e (Running p) = cond (leb q e) (Expired (p % 64)) Rests
standing_in barred q e Blocked = Rests

-- of a slot by whether it has a vCPU, whether that is barred, the slice, the clock and its record
abbrev pub standing_of : Bool → Bool → ℕ → ℕ → VirtualCpu → Standing
standing_of present barred q now v = cond present (standing_in barred q (elapsed v now) v.state) Rests
