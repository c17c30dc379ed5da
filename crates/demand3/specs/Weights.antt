-- The weight of each vCPU as the weight calls of a list leave it, on a policy of e domains of u vCPUs. It reads no
-- policy.
use Rattle.std.specs.Prelude.{ℕ, max, cond, ◌&&◌, List, [], ◌∷◌, eqb}
use Rattle.policy.specs.Accounts.{default_weight, in_shape}
use Rattle.calls.specs.declared.Call.{Call}

-- what a call makes of the weight w of d/v: a weight call of these very ids replaces it, with 0 set as 1
abbrev pub weight_by : ℕ → ℕ → ℕ → Call → ℕ
weight_by d v w (Call.Ask d' v' q) = w
weight_by d v w (Call.OfflineAll d' now) = w
weight_by d v w (Call.SetWeight d' v' x) = cond (eqb d' d && eqb v' v) (max x 1) w
weight_by d v w (Call.SetWakeBoost on) = w
weight_by d v w (Call.Advance now) = w

-- what a list of calls makes of it
unfoldable pub weight_through : ℕ → ℕ → ℕ → List Call → ℕ
weight_through d v w [] = w
weight_through d v w (c ∷ cs) = weight_through d v (weight_by d v w c) cs

-- the weight looked up for d/v after a list: the default until one is set, and for ids outside the shape
abbrev pub weight_after : ℕ → ℕ → List Call → ℕ → ℕ → ℕ
weight_after e u cs d v = cond (in_shape e u d v) (weight_through d v default_weight cs) default_weight
