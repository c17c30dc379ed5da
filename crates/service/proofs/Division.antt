-- Long division in base 2 ^ 32. Assumes nothing.
use Rattle.std.proofs.Common.{◌≡◌, ℕ, ◌+◌, ◌*◌, ◌/◌, ◌%◌, ◌^◌, ◌<◌, ap, ◌∙◌, arith}
use Rattle.std.proofs.Math.Nat.{div-lt_iff_lt-mul, div-add-mod', mod-lt}
use Rattle.std.proofs.Math.Arith.{digits_div}

-- the next digit, where r is what the digits above it leave
pub digit : (w r x : ℕ) → r < w → x < 2 ^ 32 → (r * 2 ^ 32 + x) / w < 2 ^ 32
digit w r x h k = (div-lt_iff_lt-mul (omega arith)).1 (omega arith)

-- two digits below a number that is divided at once
pub divides : (w h x y : ℕ) → 0 < w →
    let m = h % w * 2 ^ 32 + x in
    let l = m % w * 2 ^ 32 + y in
    ((h * 2 ^ 32 + x) * 2 ^ 32 + y) / w ≡ (h / w * 2 ^ 32 + m / w) * 2 ^ 32 + l / w
divides w h x y p =
    let m = h % w * 2 ^ 32 + x in
    let l = m % w * 2 ^ 32 + y in
    let q = (h / w * 2 ^ 32 + m / w) * 2 ^ 32 + l / w in
    let whole : (h * 2 ^ 32 + x) * 2 ^ 32 + y ≡ q * w + l % w = omega (arith, div-add-mod' h w, div-add-mod' m w, div-add-mod' l w) in
    ap (λ (n : ℕ). n / w) whole ∙ digits_div q (mod-lt l p)
