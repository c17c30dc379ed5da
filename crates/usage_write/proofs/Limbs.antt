-- A service in bytes, limb by limb. Assumes nothing.
use mathlib.Core.Path.{◌≡◌, ap, ◌∙◌}
use mathlib.Core.List.{List, [], ◌∷◌, ◌++◌}
use Prim.Native.Nat.{ℕ, ◌+◌, ◌*◌, ◌^◌, ◌<◌}
use native.Mathlib.Omega.{arith}
use lib.ListN.{length, get_or}
use Rattle.big_endian.specs.Numbers.{bytes}
use Rattle.big_endian.specs.Laws.{bytes-join}
use Rattle.service.specs.Service.{value}

-- four limbs, the least first, are the number's bytes from the last limb to the first
pub limb-bytes : (l : List ℕ) → length l ≡ 4 → ((i : ℕ) → get_or l i 0 < 2 ^ 32)
    → bytes 16 (value l) ≡ bytes 4 (get_or l 3 0) ++ bytes 4 (get_or l 2 0) ++ bytes 4 (get_or l 1 0) ++ bytes 4 (get_or l 0 0)
unfolding value
limb-bytes [] e h = absurd (omega arith)
limb-bytes (a ∷ []) e h = absurd (omega arith)
limb-bytes (a ∷ b ∷ []) e h = absurd (omega arith)
limb-bytes (a ∷ b ∷ c ∷ []) e h = absurd (omega arith)
limb-bytes (a ∷ b ∷ c ∷ d ∷ x ∷ l) e h = absurd (omega arith)
limb-bytes (a ∷ b ∷ c ∷ d ∷ []) e h =
    let top : 0 * 2 ^ 32 + d ≡ d = omega arith in
    bytes-join 12 4 (((0 * 2 ^ 32 + d) * 2 ^ 32 + c) * 2 ^ 32 + b) a (h 0)
    ∙ ap (λ (m : List ℕ). m ++ bytes 4 a) (bytes-join 8 4 ((0 * 2 ^ 32 + d) * 2 ^ 32 + c) b (h 1))
    ∙ ap (λ (m : List ℕ). m ++ bytes 4 b ++ bytes 4 a) (bytes-join 4 4 (0 * 2 ^ 32 + d) c (h 2))
    ∙ ap (λ (m : ℕ). bytes 4 m ++ bytes 4 c ++ bytes 4 b ++ bytes 4 a) top
