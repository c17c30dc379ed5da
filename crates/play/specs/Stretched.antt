-- What is left of a script after a stretch of it. How many bytes come, whether a read fails and whether all of the text is taken is the
-- streams' to say; of what came, the script is what playing it leaves.
use Rattle.std.specs.Prelude.{ℕ, ◌≤◌, Bool, List, ◌≡◌, length, take}
use Rattle.script.specs.declared.Script.{Script}
use Rattle.script.specs.Script.{script_after, taken}

-- the input as it stands then, the room for the text as it was, the script that is left
pub record Stretched (states : Bool) (s : Script) (input room : List ℕ) (t : Script) : Type 0 where
  -- so many bytes came
  pub came : ℕ
  pub within : came ≤ length input
  pub script : t ≡ script_after s (take came input) (taken states (take came input) room)
