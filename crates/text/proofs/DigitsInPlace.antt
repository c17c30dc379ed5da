-- Decimal digits: they are std's, how many there are, and that they stand where they were written. Assumes nothing.
use Rattle.std.proofs.Common.{◌≡◌, ℕ, zero, suc, ◌+◌, ◌*◌, ◌/◌, ◌%◌, ◌^◌, ◌≤◌, ◌<◌, List, [], ◌∷◌, ◌++◌, length, take, drop, refl, sym, ◌∙◌, ap, ap₂, pow-suc, lt-ltb, le-ltb, take-append-drop, length-append, lt_of_lt_of_le, lit<, arith, rules}
use Rattle.std.specs.Fmt as fmt
use Rattle.std.proofs.lemmas.Fmt.{decimal_by_steps}
use Rattle.text.specs.Lines.{digits, decimal}
use Rattle.text.specs.Places.{Placed}

pub decimal-one : (n : ℕ) → n < 10 → decimal n ≡ (48 + n) ∷ []
unfolding decimal digits
decimal-one n l = rw (lt-ltb n 10 l)

-- k + 1 digits that hold n are std's
abbrev AreDigits : ℕ → List ℕ → Type 0
AreDigits n ds = (k : ℕ) → n < 10 ^ suc k → digits (suc k) n ≡ ds

one-digit : (n : ℕ) → n < 10 → AreDigits n ((48 + n) ∷ [])
unfolding digits
one-digit n l k h = rw (lt-ltb n 10 l)

digit-more : (n : ℕ) (ds : List ℕ) → 10 ≤ n → AreDigits (n / 10) ds → AreDigits n (ds ++ ((48 + n % 10) ∷ []))
unfolding digits
digit-more n ds l e zero h = absurd (omega (arith, h))
digit-more n ds l e (suc k) h =
    rw (le-ltb n 10 l) (ap (λ t. t ++ ((48 + n % 10) ∷ [])) (e k (omega (arith, rw (pow-suc 10 (suc k)) at h))))

pub decimal-is : (n : ℕ) → n < 2 ^ 64 → decimal n ≡ fmt.decimal n
unfolding decimal
decimal-is n h = decimal_by_steps AreDigits one-digit digit-more n h 19 (lt_of_lt_of_le h (lit< tt))

digits-width : (k f n : ℕ) → k < f → 10 ^ k ≤ n → n < 10 ^ suc k → length (digits f n) ≡ suc k
unfolding digits
digits-width k zero n l m h = absurd (omega arith)
digits-width zero (suc f) n l m h = rw (lt-ltb n 10 h) refl
digits-width (suc k) (suc f) n l m h =
    let least = rw (pow-suc 10 k) at m in
    let most = rw (pow-suc 10 (suc k)) at h in
    let some : 0 < 10 ^ k = search rules in
    rw (le-ltb n 10 (omega arith))
    (omega (
      arith,
      length-append (digits f (n / 10)) ((48 + n % 10) ∷ []),
      digits-width k f (n / 10) (omega arith) (omega arith) (omega (arith, pow-suc 10 k)),
    ))

-- by the powers of ten between which it lies
pub decimal-width : (k n : ℕ) → k < 20 → 10 ^ k ≤ n → n < 10 * 10 ^ k → length (decimal n) ≡ k + 1
unfolding decimal
decimal-width k n l m h = digits-width k 20 n l m (omega (arith, pow-suc 10 k)) ∙ omega arith

-- digits that were written up to their end
pub written-placed : (before after ds : List ℕ) (n at start end : ℕ) → n < 2 ^ 64 → end ≡ at + length (decimal n) → ds ≡ fmt.decimal n
    → start + length ds ≡ end → drop start after ≡ ds ++ drop end before → take start after ≡ take start before
    → Placed before at (decimal n) after end
written-placed before after ds n at start end h e d s w t =
    let same : decimal n ≡ ds = decimal-is n h ∙ sym d in
    let here : start ≡ at = omega (arith, ap length same) in
    let whole = sym (take-append-drop start after) ∙ ap₂ ◌++◌ t w in
    let bytes = whole ∙ ap (λ (i : ℕ). take i before ++ (ds ++ drop end before)) here
    ∙ ap₂ (λ (u : List ℕ) (i : ℕ). take at before ++ (u ++ drop i before)) (sym same) e in
    record { bytes = bytes; past = e }
