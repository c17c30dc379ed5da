-- Fractions compared by cross products, with positive denominators. Assumes nothing.
use Rattle.std.specs.Prelude.{ℕ, ◌+◌, ◌*◌, ◌≤◌, ◌<◌}
use Rattle.std.proofs.Common.{arith, mul-le-mul_right, le_of_mul-le-mul_right, le_of_lt, lt_of_mul-lt-mul_right, mul-lt-mul_of_pos_right}

-- i lags k by at most c, and k is before j: i lags j by at most c
pub lag-trans : (si wi sk wk sj wj c : ℕ) → 0 < wk → si * wk ≤ sk * wi + c * wk → sk * wj < sj * wk → si * wj ≤ sj * wi + c * wj
lag-trans si wi sk wk sj wj c h l m =
    le_of_mul-le-mul_right {m = si * wj} {n = sj * wi + c * wj} {k = wk}
    (omega (arith, mul-le-mul_right wj l, mul-le-mul_right wi (le_of_lt m))) h

pub base-trans : (si wi sk wk sj wj : ℕ) → 0 < wk → si * wk ≤ sk * wi → sk * wj < sj * wk → si * wj ≤ sj * wi
base-trans si wi sk wk sj wj h l m = omega (arith, lag-trans si wi sk wk sj wj 0 h (omega arith) m)

-- being before is transitive, and so is not being after
pub before-trans : (sa wa sb wb sc wc : ℕ) → 0 < wc → sa * wb < sb * wa → sb * wc < sc * wb → sa * wc < sc * wa
before-trans sa wa sb wb sc wc hc l m =
    lt_of_mul-lt-mul_right wb {m = sa * wc} {n = sc * wa} (omega (arith, mul-lt-mul_of_pos_right l hc, mul-le-mul_right wa (le_of_lt m)))

pub after-trans : (sa wa sb wb sc wc : ℕ) → 0 < wb → sb * wa ≤ sa * wb → sc * wb ≤ sb * wc → sc * wa ≤ sa * wc
after-trans sa wa sb wb sc wc hb l m =
    le_of_mul-le-mul_right {m = sc * wa} {n = sa * wc} {k = wb} (omega (arith, mul-le-mul_right wc l, mul-le-mul_right wa m)) hb
