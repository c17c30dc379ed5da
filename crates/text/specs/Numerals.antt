-- Numbers that are read from text. Assumes nothing.
use Rattle.std.specs.Prelude.{ℕ, zero, suc, ◌+◌, ◌*◌, ◌-◌, ◌/◌, ◌%◌, ◌^◌, ◌<◌, Bool, true, false, cond, ◌&&◌, ◌≡◌, refl, List, [], ◌∷◌, ◌++◌, leb, ltb, length, Option, None, Some}
use Rattle.std.proofs.Math.Bool.{and_assoc}
use Rattle.std.proofs.Common.{sym, pow-suc, lt_of_lt_of_le, arith, lit<, length-append, lt-ltb, le-leb, ltb-true}
use Rattle.text.specs.Lines.{digits, decimal}

-- whether every byte is a decimal digit
unfoldable pub numeral : List ℕ → Bool
numeral [] = true
numeral (b ∷ bs) = leb 48 b && leb b 57 && numeral bs

-- what digits say, after digits that said m
unfoldable pub said : ℕ → List ℕ → ℕ
said m [] = m
said m (b ∷ bs) = said (m * 10 + (b - 48)) bs

-- the number that a word of digits says, if it is one of 64 bits
unfoldable pub number_in : List ℕ → Option ℕ
number_in w = cond (ltb 0 (length w) && numeral w && ltb (said 0 w) (2 ^ 64)) (Some (said 0 w)) None

-- ---- what is written is read back

numeral-append : (xs ys : List ℕ) → numeral (xs ++ ys) ≡ (numeral xs && numeral ys)
unfolding numeral
numeral-append [] ys = refl
numeral-append (x ∷ xs) ys = rw (numeral-append xs ys) (sym (and_assoc (leb 48 x && leb x 57) (numeral xs) (numeral ys)))

said-append : (m : ℕ) (xs : List ℕ) (b : ℕ) → said m (xs ++ (b ∷ [])) ≡ said m xs * 10 + (b - 48)
unfolding said
said-append m [] b = refl
said-append m (x ∷ xs) b = said-append (m * 10 + (x - 48)) xs b

-- a word of digits that says n
record Says (n : ℕ) (w : List ℕ) : Type 0 where
  pub some : 0 < length w
  pub plain : numeral w ≡ true
  pub is : said 0 w ≡ n

one-says : (n : ℕ) → n < 10 → Says n ((48 + n) ∷ [])
unfolding numeral said
one-says n l = record {
  some = omega arith;
  plain = rw (le-leb 48 (48 + n) (omega arith), le-leb (48 + n) 57 (omega arith));
  is = omega arith;
}

more-says : (n : ℕ) (w : List ℕ) → Says (n / 10) w → Says n (w ++ ((48 + n % 10) ∷ []))
more-says n w s =
    let last = one-says (n % 10) (omega arith) in record {
      some = omega (arith, s.some, length-append w ((48 + n % 10) ∷ []));
      plain = rw (numeral-append, s.plain, last.plain);
      is = omega (arith, said-append 0 w (48 + n % 10), s.is);
    }

digits-say : (k n : ℕ) → n < 10 ^ suc k → Says n (digits (suc k) n)
unfolding digits
digits-say zero n h = rw (lt-ltb n 10 h) (one-says n h)
digits-say (suc k) n h = go (ltb n 10) refl (digits-say k (n / 10) (omega (arith, rw (pow-suc 10 (suc k)) at h)))
  where
    go : (b : Bool) → ltb n 10 ≡ b → Says (n / 10) (digits (suc k) (n / 10))
        → Says n (cond b ((48 + n) ∷ []) (digits (suc k) (n / 10) ++ ((48 + n % 10) ∷ [])))
    go true e s = one-says n (ltb-true n 10 e)
    go false e s = more-says n (digits (suc k) (n / 10)) s

pub number-back : (n : ℕ) → n < 2 ^ 64 → number_in (decimal n) ≡ Some n
unfolding number_in decimal
number-back n h =
    let s = digits-say 19 n (lt_of_lt_of_le h (lit< tt)) in
    rw (lt-ltb 0 (length (digits 20 n)) s.some, s.plain, s.is, lt-ltb n (2 ^ 64) h)
