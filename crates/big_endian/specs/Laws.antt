-- Numbers in bytes: a number in parts, what the bytes of a number say, and that equal numbers have equal bytes. Assumes nothing.
use Rattle.std.specs.Prelude.{ℕ, zero, suc, ◌+◌, ◌*◌, ◌/◌, ◌%◌, ◌^◌, ◌<◌, ◌≤◌, ◌≡◌, refl, List, [], ◌∷◌, ◌++◌, length, get_or, take, drop}
use Rattle.std.proofs.Common.{sym, ap, ap₂, ◌∙◌, add-zero, zero-add, suc-add, add-suc, add_assoc, mul_comm, mul_assoc, pow-suc, mod-lt, mod-eq_of_lt, one-add, arith, lit<, pow-add, get_or-take, get_or-drop}
use Rattle.std.proofs.Math.Decide.{ℕ_discrete}
use Rattle.std.proofs.Math.Nat.{pow-succ', one-le-pow, mod-one, div-div-eq-div-mul, mul-add-div_right, mul-add-mod_self_right}
use Rattle.std.proofs.Math.Arith.{digits_div, mod-mul}
use Rattle.std.proofs.Math.ListN.{get_or-append}
use Rattle.big_endian.specs.Numbers.{bytes, number, AllBytes}

-- a number of m + n bytes is one of m bytes before one of n
pub number-add : (bs : List ℕ) (at m n : ℕ) → number bs at (m + n) ≡ number bs at m * 256 ^ n + number bs (at + m) n
unfolding number
number-add bs at m zero = rw (add-zero m) (omega arith)
number-add bs at m (suc n) =
    let here : get_or bs (at + (m + n)) 0 ≡ get_or bs ((at + m) + n) 0 = ap (λ i. get_or bs i 0) (omega arith) in
    let scaled = mul_assoc (number bs at m) (256 ^ n) 256 in
    rw (add-suc m n, pow-suc 256 n) (omega (arith, number-add bs at m n, here, scaled))

number-one : (bs : List ℕ) (at : ℕ) → number bs at 1 ≡ get_or bs at 0
unfolding number
number-one bs at = rw (add-zero at) (omega arith)

-- bytes that agree say the same number
pub number_same : (s t : List ℕ) (at at' n : ℕ) → ((i : ℕ) → i < n → get_or s (at + i) 0 ≡ get_or t (at' + i) 0)
    → number s at n ≡ number t at' n
unfolding number
number_same s t at at' zero h = refl
number_same s t at at' (suc n) h =
    ap₂ (λ (x y : ℕ). x * 256 + y) (number_same s t at at' n (λ i l. h i (omega arith))) (h n (omega arith))

-- what follows the bytes does not matter
pub number-front : (bs cs : List ℕ) (at n : ℕ) → at + n ≤ length bs → number (bs ++ cs) at n ≡ number bs at n
number-front bs cs at n l =
    number_same (bs ++ cs) bs at at n (λ i h. get_or-append bs cs 0 (at + i) (omega arith))

-- a number of a stretch, as it stands in the whole
pub number-within : (s : List ℕ) (from n at m : ℕ) → at + m ≤ n → number (take n (drop from s)) at m ≡ number s (from + at) m
number-within s from n at m l = number_same (take n (drop from s)) s at (from + at) m same
  where
    same : (i : ℕ) → i < m → get_or (take n (drop from s)) (at + i) 0 ≡ get_or s (from + at + i) 0
    same i h = rw add_assoc (get_or-take n (drop from s) (at + i) 0 (omega arith) ∙ get_or-drop from s (at + i) 0)

byte_at : (bs : List ℕ) → AllBytes bs → (i : ℕ) → get_or bs i 0 < 256
byte_at [] a i = omega arith
byte_at (b ∷ bs) a zero = a.0
byte_at (b ∷ bs) a (suc i) = byte_at bs a.1 i

pub bytes_left : (n : ℕ) (bs : List ℕ) → AllBytes bs → AllBytes (drop n bs)
bytes_left zero bs a = a
bytes_left (suc n) [] a = a
bytes_left (suc n) (b ∷ bs) a = bytes_left n bs a.1

pub bytes-append : (s t : List ℕ) → AllBytes s → AllBytes t → AllBytes (s ++ t)
bytes-append [] t a b = b
bytes-append (x ∷ s) t a b = (a.0, bytes-append s t a.1 b)

-- a number of n bytes is below 256 ^ n
pub number-below : (bs : List ℕ) → AllBytes bs → (at n : ℕ) → number bs at n < 256 ^ n
unfolding number
number-below bs a at zero = omega arith
number-below bs a at (suc n) = rw (pow-suc 256 n) (omega (arith, number-below bs a at n, byte_at bs a (at + n)))

-- equal numbers of n bytes have equal bytes
pub number_determines : (s t : List ℕ) → AllBytes s → AllBytes t → (at at' n : ℕ) → number s at n ≡ number t at' n
    → (i : ℕ) → i < n → get_or s (at + i) 0 ≡ get_or t (at' + i) 0
unfolding number
number_determines s t a b at at' zero e i l = absurd (omega arith)
number_determines s t a b at at' (suc n) e i l =
    let x = byte_at s a (at + n) in
    let y = byte_at t b (at' + n) in
    go (omega arith) (number_determines s t a b at at' n (omega arith) i) (ℕ_discrete i n)
  where
    go : get_or s (at + n) 0 ≡ get_or t (at' + n) 0 → (i < n → get_or s (at + i) 0 ≡ get_or t (at' + i) 0) → Dec (i ≡ n)
        → get_or s (at + i) 0 ≡ get_or t (at' + i) 0
    go last before (yes q) = rw q last
    go last before (no q) = before (omega arith)

pub length-bytes : (n x : ℕ) → length (bytes n x) ≡ n
unfolding bytes
length-bytes zero x = refl
length-bytes (suc n) x = ap suc (length-bytes n x)

pub bytes_are_bytes : (n x : ℕ) → AllBytes (bytes n x)
unfolding bytes
bytes_are_bytes zero x = tt
bytes_are_bytes (suc n) x = (mod-lt (x / 256 ^ n) (lit< tt), bytes_are_bytes n x)

power_positive : (n : ℕ) → 0 < 256 ^ n
power_positive n = one-le-pow n 256 (lit< tt)

-- the n bytes of x say x, but for what lies above them
number-bytes : (n x : ℕ) → number (bytes n x) 0 n ≡ x % 256 ^ n
unfolding bytes number
number-bytes zero x = sym (mod-one x)
number-bytes (suc n) x =
    let rest : number (bytes (suc n) x) 1 n ≡ number (bytes n x) 0 n =
    number_same (bytes (suc n) x) (bytes n x) 1 0 n (λ i h. ap (λ (j : ℕ). get_or (bytes (suc n) x) j 0) (suc-add 0 i)) in
    ap (number (bytes (suc n) x) 0) (sym (one-add n)) ∙ number-add (bytes (suc n) x) 0 1 n
    ∙ ap₂ (λ (a b : ℕ). a * 256 ^ n + b) (number-one (bytes (suc n) x) 0) (rest ∙ number-bytes n x)
    ∙ sym (ap (λ (m : ℕ). x % m) (pow-succ' 256 n) ∙ mod-mul x (lit< tt) (power_positive n))

-- where the n bytes of x stand, they say x
pub number-exact : (s : List ℕ) (at n x : ℕ) → x < 256 ^ n → ((i : ℕ) → i < n → get_or s (at + i) 0 ≡ get_or (bytes n x) i 0)
    → number s at n ≡ x
number-exact s at n x l h =
    number_same s (bytes n x) at 0 n (λ i k. rw zero-add (h i k)) ∙ number-bytes n x ∙ mod-eq_of_lt l

-- what lies above the n lowest bytes does not matter to them
bytes_low : (n a b : ℕ) → bytes n (a * 256 ^ n + b) ≡ bytes n b
unfolding bytes
bytes_low zero a b = refl
bytes_low (suc n) a b =
    let e : a * 256 ^ suc n + b ≡ a * 256 * 256 ^ n + b = omega (arith, ap (λ (m : ℕ). a * m) (pow-suc 256 n)) in
    let first : (a * 256 * 256 ^ n + b) / 256 ^ n % 256 ≡ b / 256 ^ n % 256 =
    ap (λ (m : ℕ). m % 256) (mul-add-div_right (power_positive n) (a * 256) b) ∙ mul-add-mod_self_right a 256 (b / 256 ^ n) in
    rw e (ap₂ (λ (m : ℕ) (l : List ℕ). m ∷ l) first (bytes_low n (a * 256) b))

-- the bytes of a number are those of its upper and of its lower part
pub bytes-join : (m n a b : ℕ) → b < 256 ^ n → bytes (m + n) (a * 256 ^ n + b) ≡ bytes m a ++ bytes n b
unfolding bytes
bytes-join zero n a b h = rw zero-add (bytes_low n a b)
bytes-join (suc m) n a b h =
    let first : (a * 256 ^ n + b) / 256 ^ (m + n) ≡ a / 256 ^ m =
    ap (λ (p : ℕ). (a * 256 ^ n + b) / p) (pow-add 256 m n ∙ mul_comm (256 ^ m) (256 ^ n))
    ∙ sym (div-div-eq-div-mul (a * 256 ^ n + b) (256 ^ n) (256 ^ m)) ∙ ap (λ (p : ℕ). p / 256 ^ m) (digits_div a h) in
    rw suc-add (ap₂ (λ (p : ℕ) (l : List ℕ). p % 256 ∷ l) first (bytes-join m n a b h))
