-- Which records are told 9, whatever the host: of no kind, cut off, or before any host is built.
use Rattle.std.specs.Prelude.{ℕ, zero, suc, ◌*◌, Bool, false, List, drop, ◌==◌}
use Rattle.system.specs.declared.Answer.TheVariants.{BadScript}
use Rattle.system.specs.Answers.{told}
use Rattle.records.specs.declared.Plan.{Plan}
use Rattle.records.specs.Records.{plan_of}
use Rattle.script.specs.Script.{built_after}

abbrev pub is_no_call : Plan → Bool
is_no_call (Plan.Refuse a) = told a == told BadScript
is_no_call (Plan.Build s) = false
is_no_call (Plan.Call c) = false

-- whether there is a host after n records, by their bytes alone; b says whether there was one before them
unfoldable pub built_at : Bool → List ℕ → ℕ → Bool
built_at b bs zero = b
built_at b bs (suc n) = built_after (built_at b bs n) (plan_of (built_at b bs n) (drop (n * 20) bs))

abbrev pub no_call_at : Bool → List ℕ → ℕ → Bool
no_call_at b bs n = is_no_call (plan_of (built_at b bs n) (drop (n * 20) bs))
