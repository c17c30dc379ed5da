-- A pCPU leaves a set that has it and joins one that has not, within a word. Assumes nothing.
use Prim.Native.Nat.{ℕ, suc, ◌+◌, ◌-◌, ◌*◌, ◌/◌, ◌%◌, ◌^◌, ◌≤◌, ◌<◌}
use mathlib.Core.Bool.{Bool, true, false, ◌&&◌}
use mathlib.Core.Path.{◌≡◌, refl, sym, ◌∙◌, ap, subst}
use native.Mathlib.Nat.{add-mul, mul-le-mul_right, mod-lt}
use native.Mathlib.Omega.{arith}
use lib.Dec.{ltb}
use lib.Pow.{pow-add, pow_pos, shr_lt, split}
use borrow.Author.Tests.{ltb-true, ltb-false, eqb-true, eqb-false}
use Rattle.scans.specs.Booleans.{both}
use Rattle.masks.specs.Masks.{bit, permits, pcpu_bit}
use Rattle.masks.specs.Laws.{pcpu-bit-is, pcpu-bit-past}

pub leaves : (m p : ℕ) → permits m p ≡ true → pcpu_bit p ≤ m
leaves m p e =
    let f = both (ltb p 64) (bit m p) e in
    let one = eqb-true (m / 2 ^ p % 2) 1 f.1 in
    let h = mul-le-mul_right {m = 1} {n = m / 2 ^ p} (2 ^ p) (omega arith) in
    subst (λ (b : ℕ). b ≤ m) (sym (pcpu-bit-is p (ltb-true p 64 f.0))) (omega (arith, h, split m p))

-- an even number of powers of two below a greater power leaves room for one more
room : (m w p : ℕ) → m < 2 ^ (suc w + p) → bit m p ≡ false → m + 2 ^ p < 2 ^ (suc w + p)
room m w p l e =
    let q = m / 2 ^ p in
    let even : (q % 2 ≡ 1) → ⊥ = eqb-false (q % 2) 1 e in
    let below = shr_lt (suc w) p l in
    let h = mul-le-mul_right {m = q + 2} {n = 2 ^ suc w} (2 ^ p) (below-even q (2 ^ suc w) (2 ^ w) even (omega arith) below) in
    let s = split m p in
    omega (arith, h, s, add-mul q 2 (2 ^ p), pow-add 2 (suc w) p, mod-lt m (pow_pos p))
  where
    below-even : (q k h : ℕ) → ((q % 2 ≡ 1) → ⊥) → k ≡ 2 * h → q < k → q + 2 ≤ k
    below-even q k h even d l = omega arith

pub joins : (m p : ℕ) → m < 2 ^ 64 → permits m p ≡ false → m + pcpu_bit p < 2 ^ 64
joins m p l e = go (ltb p 64) refl
  where
    go : (b : Bool) → ltb p 64 ≡ b → m + pcpu_bit p < 2 ^ 64
    go true h =
        let l64 : suc (63 - p) + p ≡ 64 = omega (arith, ltb-true p 64 h) in
        let small = subst (λ (k : ℕ). m < 2 ^ k) (sym l64) l in
        let unset : bit m p ≡ false = ap (λ (b : Bool). b && bit m p) (sym h) ∙ e in
        subst (λ (b : ℕ). m + b < 2 ^ 64) (sym (pcpu-bit-is p (ltb-true p 64 h)))
        (subst (λ (k : ℕ). m + 2 ^ p < 2 ^ k) l64 (room m (63 - p) p small unset))
    go false h = subst (λ (b : ℕ). m + b < 2 ^ 64) (sym (pcpu-bit-past p (ltb-false p 64 h))) (omega arith)
