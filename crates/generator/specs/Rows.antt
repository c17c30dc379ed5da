-- Numbers drawn, worked out apart. Assumes nothing.
use Rattle.std.specs.Prelude.{◌-◌, ◌^◌, refl, true, false, List, [], ◌∷◌}
use Rattle.rows.specs.Rows.{Row, row, AllDue}
use Rattle.generator.specs.Xorshift.{up, down, after, after_draws, drawn_if, state_if}

abbrev pub draws : List Row
draws =
    -- the first numbers of the seed 1
    row (after 1) 1082269761
    ∷ row (after_draws 2 1) 1152992998833853505
    ∷ row (after_draws 3 1) 11177516664432764457
    ∷ row (after_draws 6 1) 17775799001133815809
    -- seeds that each shift moves out of the 64 bits, or down to the last one
    ∷ row (after (2 ^ 63)) 9295429630892703744
    ∷ row (after (2 ^ 51)) 2308112401213423616
    ∷ row (after (2 ^ 47)) 1306185728937426944
    ∷ row (after (2 ^ 64 - 1)) 1065361344
    ∷ row (after 127) 137429647295
    ∷ row (after 128) 138530660481
    -- no seed draws 0 but 0 itself, which draws nothing else
    ∷ row (after 0) 0
    -- a number that is not wanted is not drawn
    ∷ row (drawn_if true 1) 1082269761
    ∷ row (state_if true 1) 1082269761
    ∷ row (drawn_if false 1) 0
    ∷ row (state_if false 1) 1
    ∷ []

pub draws-due : AllDue draws
unfolding up down after after_draws
draws-due = refl
