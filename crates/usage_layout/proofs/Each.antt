-- Parts of one length, one behind the other: how long they are together, what stands where, and proofs by parts. Assumes nothing.
use Prim.Native.Nat.{ℕ, zero, suc, ◌+◌, ◌*◌, ◌-◌, ◌/◌, ◌%◌, ◌<◌}
use mathlib.Core.Path.{◌≡◌, subst, ◌∙◌}
use mathlib.Core.List.{List, ◌++◌}
use native.Mathlib.Decide.{ℕ_discrete, dec_le}
use native.Mathlib.Nat.{mul-le-mul_right, mod-lt, div-add-mod', div-lt_iff_lt-mul}
use native.Mathlib.Omega.{arith}
use lib.ListN.{length, get_or, length-append, get_or-append}
use lib.Seq.{get_or-append-add}
use Rattle.big_endian.specs.Numbers.{AllBytes}
use Rattle.big_endian.specs.Laws.{bytes-append}
use Rattle.usage_layout.specs.Layout.{each}

-- what stands in the second of two lists
pub at-behind : (xs ys : List ℕ) (n i : ℕ) → length xs ≡ n → get_or (xs ++ ys) (n + i) 0 ≡ get_or ys i 0
at-behind xs ys n i e = rw (← e) (get_or-append-add xs ys i 0)

pub each-bytes : (n : ℕ) (p : ℕ → List ℕ) → ((d : ℕ) → AllBytes (p d)) → AllBytes (each n p)
unfolding each
each-bytes zero p h = tt
each-bytes (suc n) p h = bytes-append (each n p) (p n) (each-bytes n p h) (h n)

pub each-length : (n m : ℕ) (p : ℕ → List ℕ) → ((d : ℕ) → length (p d) ≡ m) → length (each n p) ≡ n * m
unfolding each
each-length zero m p h = omega arith
each-length (suc n) m p h = simp length-append (omega (arith, each-length n m p h, h n))

-- byte r of part d
pub each_at : (n m : ℕ) (p : ℕ → List ℕ) → ((d : ℕ) → length (p d) ≡ m) → (d r : ℕ) → d < n → r < m
    → get_or (each n p) (d * m + r) 0 ≡ get_or (p d) r 0
unfolding each
each_at zero m p h d r l k = absurd (omega arith)
each_at (suc n) m p h d r l k = go (λ t. each_at n m p h d r t k) (ℕ_discrete d n)
  where
    go : (d < n → get_or (each n p) (d * m + r) 0 ≡ get_or (p d) r 0) → Dec (d ≡ n)
        → get_or (each n p ++ p n) (d * m + r) 0 ≡ get_or (p d) r 0
    go before (yes e) = rw e (at-behind (each n p) (p n) (n * m) r (each-length n m p h))
    go before (no e) =
        let t : d < n = omega arith in
        get_or-append (each n p) (p n) 0 (d * m + r) (omega (arith, each-length n m p h, mul-le-mul_right m t)) ∙ before t

-- what holds of each r below m of each d below n holds of every number below n * m
pub by_parts : (n m : ℕ) (P : ℕ → Type 0) → ((d r : ℕ) → d < n → r < m → P (d * m + r)) → (i : ℕ) → i < n * m → P i
by_parts n zero P h i l = absurd (omega arith)
by_parts n (suc m) P h i l =
    let t : 0 < suc m = omega arith in
    subst P (div-add-mod' i (suc m)) (h (i / suc m) (i % suc m) ((div-lt_iff_lt-mul t).1 l) (mod-lt i t))

-- what holds below a, and of the b numbers from a on, holds below a + b
pub by_two : (a b : ℕ) (P : ℕ → Type 0) → ((i : ℕ) → i < a → P i) → ((i : ℕ) → i < b → P (a + i)) → (i : ℕ) → i < a + b → P i
by_two a b P low high i l = go (dec_le (suc i) a)
  where
    go : Dec (i < a) → P i
    go (yes t) = low i t
    go (no t) =
        let e : a + (i - a) ≡ i = omega arith in
        subst P e (high (i - a) (omega arith))
