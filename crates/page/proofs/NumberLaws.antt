-- Numbers in bytes, in decimal and among arguments are the page's, for all numbers and bytes. Assumes nothing.
use Rattle.std.specs.Prelude.{None, Some}
use Prim.Native.Nat.{ℕ, zero, suc, ◌+◌, ◌-◌, ◌*◌, ◌/◌, ◌%◌, ◌^◌, ◌<◌}
use mathlib.Core.Bool.{Bool, true, false, cond, ◌&&◌}
use mathlib.Core.List.{List, [], ◌∷◌, ◌++◌, append_assoc}
use mathlib.Core.Path.{◌≡◌, refl, sym, ◌∙◌, ap, ap₂}
use native.Mathlib.Nat.{pow-suc, pow-succ', div-div-eq-div-mul, one-le-pow}
use native.Mathlib.Omega.{arith}
use lib.Dec.{ltb, lit<}
use lib.ListN.{length, get_or}
use borrow.Author.Tests.{lt-ltb, le-ltb, ltb-true, ltb-false}
use Rattle.text.specs.Lines as lines
use Rattle.text.specs.Numerals as numerals
use Rattle.big_endian.specs.Numbers as numbers
use Rattle.usage_layout.specs.Layout as layout
use Rattle.usage_layout.specs.Reading as reading
use Rattle.page.specs.Page.{times}
use Rattle.page.specs.Numbers as page
use Rattle.page.specs.Numbers.{parts, all, bytes, field, digit, is_digit}

-- ---- the page's loops
pub parts_are : (n : ℕ) (f g : ℕ → List ℕ) → ((k : ℕ) → k < n → f k ≡ g k) → layout.each n f ≡ parts n g
unfolding layout.each times
parts_are zero f g h = refl
parts_are (suc n) f g h = ap₂ ◌++◌ (parts_are n f g (λ k l. h k (omega arith))) (h n (omega arith))

pub parts_same : (n : ℕ) (f g : ℕ → List ℕ) → ((k : ℕ) → k < n → f k ≡ g k) → parts n f ≡ parts n g
parts_same n f g h = sym (parts_are n f f (λ k l. refl)) ∙ parts_are n f g h

pub all-is : (n : ℕ) (f g : ℕ → Bool) → ((k : ℕ) → f k ≡ g k) → reading.all n f ≡ all n g
unfolding reading.all times
all-is zero f g h = refl
all-is (suc n) f g h = ap₂ ◌&&◌ (all-is n f g h) (h n)

-- the first turn done first
first-turn : {A : Type 0} (f : ℕ → A → A) (n : ℕ) (a : A) → times f (suc n) a ≡ times (λ k. f (suc k)) n (f 0 a)
unfolding times
first-turn f zero a = refl
first-turn f (suc n) a = ap (f (suc n)) (first-turn f n a)

-- ---- in bytes
pub bytes_are : (n x : ℕ) → numbers.bytes n x ≡ bytes n x
unfolding numbers.bytes bytes times
bytes_are zero x = refl
bytes_are (suc n) x = ap (λ (l : List ℕ). x / 256 ^ n % 256 ∷ l) (bytes_are n x)

pub field_is : (bs : List ℕ) (at n : ℕ) → numbers.number bs at n ≡ field bs at n
unfolding numbers.number field times
field_is bs at zero = refl
field_is bs at (suc n) = ap (λ (x : ℕ). x * 256 + get_or bs (at + n) 0) (field_is bs at n)

-- ---- in decimal
-- digit k + 1 of a number from 10 up is digit k of its tenth
tenth : (n k : ℕ) → ltb n 10 ≡ false → digit n (suc k) ≡ digit (n / 10) k
tenth n k e = go k
  where
    worth : (j : ℕ) → n / 10 ^ suc j ≡ n / 10 / 10 ^ j
    worth j = ap (λ (m : ℕ). n / m) (pow-succ' 10 j) ∙ sym (div-div-eq-div-mul n 10 (10 ^ j))

    reached : (j : ℕ) (b : Bool) → ltb (n / 10) (10 ^ suc j) ≡ b → ltb n (10 ^ suc (suc j)) ≡ b
    reached j true q =
        let h = ltb-true (n / 10) (10 ^ suc j) q in rw (pow-suc 10 (suc j)) (lt-ltb n (10 ^ suc j * 10) (omega arith))
    reached j false q =
        let h = ltb-false (n / 10) (10 ^ suc j) q in rw (pow-suc 10 (suc j)) (le-ltb n (10 ^ suc j * 10) (omega arith))

    go : (j : ℕ) → digit n (suc j) ≡ digit (n / 10) j
    go zero = rw e (ap (λ (m : ℕ). (48 + m % 10) ∷ []) (worth 0))
    go (suc j) =
        rw (lt-ltb 0 (suc (suc j)) (omega arith), lt-ltb 0 (suc j) (omega arith))
        (ap₂ (λ (b : Bool) (m : ℕ). cond b [] ((48 + m % 10) ∷ [])) (reached j (ltb (n / 10) (10 ^ suc j)) refl) (worth (suc j)))

-- the last digit is put down, and before it those of the tenth
last-digit : (k n : ℕ) → page.digits (suc k) n
    ≡ cond (ltb n 10) ((48 + n) ∷ []) (page.digits k (n / 10) ++ ((48 + n % 10) ∷ []))
unfolding page.digits times
last-digit zero n = go (ltb n 10) refl
  where
    go : (b : Bool) → ltb n 10 ≡ b → (48 + n / 10 ^ 0 % 10) ∷ [] ≡ cond b ((48 + n) ∷ []) ((48 + n % 10) ∷ [])
    go true e = let h = ltb-true n 10 e in ap (λ (m : ℕ). m ∷ []) (omega arith)
    go false e = ap (λ (m : ℕ). m ∷ []) (omega arith)
last-digit (suc k) n = ap (λ (l : List ℕ). digit n (suc k) ++ l) (last-digit k n) ∙ go (ltb n 10) refl
  where
    go : (b : Bool) → ltb n 10 ≡ b
        → digit n (suc k) ++ cond b ((48 + n) ∷ []) (page.digits k (n / 10) ++ ((48 + n % 10) ∷ []))
        ≡ cond b ((48 + n) ∷ []) (page.digits (suc k) (n / 10) ++ ((48 + n % 10) ∷ []))
    go true e =
        let h = ltb-true n 10 e in
        let p = one-le-pow k 10 (lit< tt) in
        rw (pow-suc 10 k, lt-ltb 0 (suc k) (omega arith), lt-ltb n (10 ^ k * 10) (omega arith))
    go false e =
        ap (λ (l : List ℕ). l ++ (page.digits k (n / 10) ++ ((48 + n % 10) ∷ []))) (tenth n k e)
        ∙ sym (append_assoc (digit (n / 10) k) (page.digits k (n / 10)) ((48 + n % 10) ∷ []))

pub digits_are : (k n : ℕ) → lines.digits k n ≡ page.digits k n
unfolding lines.digits page.digits times
digits_are zero n = refl
digits_are (suc k) n =
    ap (λ (l : List ℕ). cond (ltb n 10) ((48 + n) ∷ []) (l ++ ((48 + n % 10) ∷ []))) (digits_are k (n / 10))
    ∙ sym (last-digit k n)

-- ---- among arguments
numeral-is : (w : List ℕ) (b : Bool) → (b && numerals.numeral w) ≡ times (λ k c. c && is_digit (get_or w k 0)) (length w) b
unfolding numerals.numeral times
numeral-is [] true = refl
numeral-is [] false = refl
numeral-is (x ∷ w) b =
    go b (is_digit x) ∙ numeral-is w (b && is_digit x)
    ∙ sym (first-turn (λ k c. c && is_digit (get_or (x ∷ w) k 0)) (length w) b)
  where
    go : (b c : Bool) → (b && (c && numerals.numeral w)) ≡ ((b && c) && numerals.numeral w)
    go true c = refl
    go false c = refl

said-is : (w : List ℕ) (m : ℕ) → numerals.said m w ≡ times (λ k n. n * 10 + (get_or w k 0 - 48)) (length w) m
unfolding numerals.said times
said-is [] m = refl
said-is (x ∷ w) m =
    said-is w (m * 10 + (x - 48)) ∙ sym (first-turn (λ k n. n * 10 + (get_or (x ∷ w) k 0 - 48)) (length w) m)

pub number_in_is : (w : List ℕ) → numerals.number_in w ≡ page.number_in w
unfolding numerals.number_in page.number_in
number_in_is w =
    ap₂ (λ (b : Bool) (n : ℕ). cond (ltb 0 (length w) && b && ltb n (2 ^ 64)) (Some n) None) (numeral-is w true)
    (said-is w 0)
