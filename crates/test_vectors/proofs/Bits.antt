-- The bit of the next pCPU is twice this one's, in a word. Assumes nothing.
use Rattle.std.proofs.Common.{◌≡◌, ℕ, suc, ◌+◌, ◌%◌, ◌^◌, ◌<◌, Bool, true, false, ltb, ◌⊎◌, refl, inl, inr, lt_of_lt_of_le, mod-eq_of_lt, eq-or-lt_of_le, arith, pow_pos, pow_mono, ltb-false, ltb-true}
use Rattle.masks.specs.Masks.{pcpu_bit}
use Rattle.masks.specs.Laws.{pcpu-bit-is, pcpu-bit-past}

pub doubles : (p : ℕ) → (pcpu_bit p + pcpu_bit p) % 2 ^ 64 ≡ pcpu_bit (suc p)
doubles p = go (ltb p 63) refl
  where
    past : (63 ≡ p) ⊎ (63 < p) → (pcpu_bit p + pcpu_bit p) % 2 ^ 64 ≡ pcpu_bit (suc p)
    past (inl e) = rw (← e)
    past (inr h) = rw (pcpu-bit-past p h, pcpu-bit-past (suc p) (omega arith))

    go : (t : Bool) → ltb p 63 ≡ t → (pcpu_bit p + pcpu_bit p) % 2 ^ 64 ≡ pcpu_bit (suc p)
    go true e =
        let h = ltb-true p 63 e in
        let twice : 2 ^ p + 2 ^ p ≡ 2 ^ suc p = omega arith in
        let fits : 2 ^ suc p < 2 ^ 64 = lt_of_lt_of_le (omega (arith, pow_pos p)) (pow_mono {i = suc (suc p)} {j = 64} (omega arith)) in
        rw (pcpu-bit-is p (omega arith), pcpu-bit-is (suc p) (omega arith), twice) (mod-eq_of_lt fits)
    go false e = past (eq-or-lt_of_le (ltb-false p 63 e))
