-- Calls and the numbers that they draw, worked out apart. Assumes nothing.
use Rattle.std.specs.Prelude.{ℕ, ◌-◌, ◌^◌, refl, List, [], ◌∷◌}
use Rattle.rows.specs.Rows.{Row, rows, AllDue}
use Rattle.generator.specs.Xorshift.{up, down, after}
use Rattle.load_calls.specs.declared.Drawn.{Drawn}
use Rattle.load_calls.specs.declared.Called.{Called}
use Rattle.load_calls.specs.Calls.{kind_of, numbers_drawn, state_drawn, drawn, later, called}

-- kind, domain, vCPU, third and value, then the state and the clock after the call
abbrev figures : Called → List ℕ
figures c = c.call.kind ∷ c.call.dom ∷ c.call.vcpu ∷ c.call.third ∷ c.call.value ∷ c.state ∷ c.clock ∷ []

abbrev call : ℕ → ℕ → ℕ → ℕ → List ℕ → Row
call d v x t due = rows (figures (called d v x t)) due

abbrev pub calls : List Row
calls =
    -- the first two calls of the seed 1 on 3 domains of 2 vCPUs
    call 3 2 1 0 (4 ∷ 2 ∷ 1 ∷ 0 ∷ 45 ∷ 17678023832001937445 ∷ 45 ∷ [])
    ∷ call 3 2 17678023832001937445 45 (7 ∷ 1 ∷ 1 ∷ 0 ∷ 14279964170112293133 ∷ 14279964170112293133 ∷ 45 ∷ [])
    -- each kind, as the clock is 1000; an admit, a wake and a mask leave it there
    ∷ call 3 2 19 1000 (1 ∷ 1 ∷ 1 ∷ 0 ∷ 0 ∷ 2220071907057405611 ∷ 1000 ∷ [])
    ∷ call 3 2 63 1000 (4 ∷ 1 ∷ 1 ∷ 0 ∷ 1080 ∷ 17663162339134904280 ∷ 1080 ∷ [])
    ∷ call 3 2 22 1000 (5 ∷ 2 ∷ 0 ∷ 0 ∷ 0 ∷ 16837500203234883750 ∷ 1000 ∷ [])
    ∷ call 3 2 172 1000 (7 ∷ 2 ∷ 1 ∷ 0 ∷ 17638486492019926286 ∷ 17638486492019926286 ∷ 1000 ∷ [])
    ∷ call 3 2 51 1000 (9 ∷ 0 ∷ 0 ∷ 0 ∷ 1074 ∷ 3462410130715504874 ∷ 1074 ∷ [])
    -- 16 domains of 8 vCPUs
    ∷ call 16 8 172 0 (7 ∷ 10 ∷ 5 ∷ 0 ∷ 17638486492019926286 ∷ 17638486492019926286 ∷ 0 ∷ [])
    -- no domain to draw, no vCPU, neither
    ∷ call 0 2 63 0 (4 ∷ 0 ∷ 0 ∷ 0 ∷ 99 ∷ 14959521796955111399 ∷ 99 ∷ [])
    ∷ call 3 0 63 0 (4 ∷ 1 ∷ 0 ∷ 0 ∷ 99 ∷ 14959521796955111399 ∷ 99 ∷ [])
    ∷ call 0 0 63 0 (4 ∷ 0 ∷ 0 ∷ 0 ∷ 64 ∷ 17298325631926404064 ∷ 64 ∷ [])
    ∷ call 0 2 22 0 (5 ∷ 0 ∷ 1 ∷ 0 ∷ 0 ∷ 6919101831377403293 ∷ 0 ∷ [])
    ∷ call 0 0 51 0 (9 ∷ 0 ∷ 0 ∷ 0 ∷ 74 ∷ 3462410130715504874 ∷ 74 ∷ [])
    -- the last reading there is: reached, and not passed
    ∷ call 3 2 63 (2 ^ 64 - 81) (4 ∷ 1 ∷ 1 ∷ 0 ∷ (2 ^ 64 - 1) ∷ 17663162339134904280 ∷ (2 ^ 64 - 1) ∷ [])
    ∷ call 3 2 63 (2 ^ 64 - 80) (4 ∷ 1 ∷ 1 ∷ 0 ∷ (2 ^ 64 - 1) ∷ 17663162339134904280 ∷ (2 ^ 64 - 1) ∷ [])
    ∷ call 3 2 51 (2 ^ 64 - 1) (9 ∷ 0 ∷ 0 ∷ 0 ∷ (2 ^ 64 - 1) ∷ 3462410130715504874 ∷ (2 ^ 64 - 1) ∷ [])
    ∷ []

pub calls-due : AllDue calls
unfolding up down after kind_of numbers_drawn state_drawn later called
calls-due = refl

-- the numbers drawn for kind, domain, vCPU and last, and the state after them
abbrev raw : Drawn → List ℕ
raw r = r.numbers.kind ∷ r.numbers.dom ∷ r.numbers.vcpu ∷ r.numbers.last ∷ r.state ∷ []

abbrev draw : ℕ → ℕ → ℕ → List ℕ → Row
draw d v x due = rows (raw (drawn d v x)) due

abbrev pub numbers : List Row
numbers =
    -- a block, a wake, an advance; then a block, a mask and an admit that have less to draw
    draw 3 2 63 (68182208511 ∷ 17298325631926404064 ∷ 14959521796955111399 ∷ 17663162339134904280 ∷ 17663162339134904280 ∷ [])
    ∷ draw 3 2 22 (23809934742 ∷ 6919101831377403293 ∷ 16837500203234883750 ∷ 0 ∷ 16837500203234883750 ∷ [])
    ∷ draw 3 2 51 (55194971379 ∷ 0 ∷ 0 ∷ 3462410130715504874 ∷ 3462410130715504874 ∷ [])
    ∷ draw 0 2 63 (68182208511 ∷ 0 ∷ 17298325631926404064 ∷ 14959521796955111399 ∷ 14959521796955111399 ∷ [])
    ∷ draw 3 0 172 (186148432813 ∷ 13847213069757480890 ∷ 0 ∷ 15438125000977597893 ∷ 15438125000977597893 ∷ [])
    ∷ draw 0 0 19 (20562863315 ∷ 0 ∷ 0 ∷ 0 ∷ 20562863315 ∷ [])
    ∷ []

pub numbers-due : AllDue numbers
unfolding up down after kind_of numbers_drawn state_drawn
numbers-due = refl
