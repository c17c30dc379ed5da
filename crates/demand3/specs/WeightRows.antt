-- The weight looked up after a list of calls, beside what the requirements make of it. Assumes nothing.
use Rattle.std.specs.Prelude.{ℕ, ◌-◌, ◌^◌, false, refl, List, [], ◌∷◌}
use Rattle.rows.specs.Rows.{Row, row, AllDue}
use Rattle.calls.specs.declared.Call.{Call}
use Rattle.calls.specs.Asked as call
use Rattle.demand3.specs.Weights.{weight_through, weight_after}

-- of d/v, on a policy of 2 domains of 3 vCPUs
abbrev after : List Call → ℕ → ℕ → ℕ
after cs d v = weight_after 2 3 cs d v

abbrev pub weights : List Row
weights =
    -- none was set
    row (after [] 0 0) 256
    -- one was set, the least and the largest
    ∷ row (after (Call.SetWeight 1 2 1 ∷ []) 1 2) 1
    ∷ row (after (Call.SetWeight 1 2 (2 ^ 32 - 1) ∷ []) 1 2) (2 ^ 32 - 1)
    -- 0 becomes 1
    ∷ row (after (Call.SetWeight 0 0 0 ∷ []) 0 0) 1
    -- the latest counts
    ∷ row (after (Call.SetWeight 0 0 5 ∷ Call.SetWeight 0 0 7 ∷ []) 0 0) 7
    ∷ row (after (Call.SetWeight 0 0 5 ∷ Call.SetWeight 0 0 0 ∷ []) 0 0) 1
    -- another vCPU's weight, and another domain's
    ∷ row (after (Call.SetWeight 0 0 5 ∷ Call.SetWeight 0 1 7 ∷ Call.SetWeight 1 0 9 ∷ []) 0 0) 5
    -- no other call touches it, also not going offline
    ∷ row (after (Call.SetWeight 0 0 5 ∷ call.admit 0 0 ∷ Call.SetWakeBoost false ∷ Call.Advance 0 ∷ call.offline 0 0 9 ∷ []) 0 0) 5
    -- ids out of range are ignored, of a vCPU, of a domain, and 0/8, which would stand where 1/0 does
    ∷ row (after (Call.SetWeight 0 3 5 ∷ []) 0 3) 256
    ∷ row (after (Call.SetWeight 2 0 5 ∷ []) 2 0) 256
    ∷ row (after (Call.SetWeight 0 8 5 ∷ []) 1 0) 256
    ∷ row (after (Call.SetWeight 0 8 5 ∷ []) 0 8) 256
    -- the last of the largest shape; and outside the sizes, where the policy's counts are above them
    ∷ row (weight_after 16 8 (Call.SetWeight 15 7 5 ∷ []) 15 7) 5
    ∷ row (weight_after 17 9 (Call.SetWeight 16 0 5 ∷ []) 16 0) 256
    ∷ row (weight_after 17 9 (Call.SetWeight 0 8 5 ∷ []) 0 8) 256
    ∷ []

pub weights-due : AllDue weights
unfolding weight_through
weights-due = refl
