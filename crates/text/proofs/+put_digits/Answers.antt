-- `text::put_digits` meets its contract. Assumes nothing.
use Rattle.std.proofs.Common.{◌≡◌, ℕ, zero, suc, ◌+◌, ◌-◌, ◌/◌, ◌%◌, ◌≤◌, ◌<◌, true, false, List, [], ◌∷◌, ltb, length, sym, ◌∙◌, ap, mod-eq_of_lt, sub-one, arith, ltb-true, ltb-false, lt-ltb, le-ltb}
use Rattle.service.specs.Service.{value}
use Rattle.text.specs.Lines.{digits}
use Rattle.text.specs.Places.{Placed, placed-none, placed-then}
use Rattle.text.proofs.+put_digits.Goals as goal

-- no digit, one, and one more
none : (k n : ℕ) (out : List ℕ) (at : ℕ) → k ≡ 0 → Placed out at (digits k n) out at
unfolding digits
none k n out at e = rw e (placed-none out at)

one : (k n d : ℕ) {out after : List ℕ} {at end : ℕ} → 0 < k → n < 10 → d ≡ 48 + n % 10 → Placed out at (d ∷ []) after end
    → Placed out at (digits k n) after end
unfolding digits
one zero n d p l e h = absurd (omega arith)
one (suc k) n d p l e h = rw (lt-ltb n 10 l) (rw (← ap (λ x. x ∷ []) (e ∙ ap (λ x. 48 + x) (mod-eq_of_lt l))) h)

more : (k n q d : ℕ) {out mid after : List ℕ} {at m end : ℕ} → 0 < k → 10 ≤ n → q ≡ n / 10 → d ≡ 48 + n % 10 → at ≤ length out
    → Placed out at (digits (k - 1) q) mid m → Placed mid m (d ∷ []) after end → Placed out at (digits k n) after end
unfolding digits
more zero n q d p l f e r g h = absurd (omega arith)
more (suc k) n q d p l f e r g h = rw (le-ltb n 10 l, ← f, ← e) (placed-then r (rw sub-one at g) h)

abbrev ten : List ℕ
ten = 10 ∷ 0 ∷ 0 ∷ 0 ∷ []

below-ten : (n : ℕ) → ltb n (value ten) ≡ true → n < 10
unfolding value
below-ten n e = ltb-true n 10 e

from-ten : (n : ℕ) → ltb n (value ten) ≡ false → 10 ≤ n
unfolding value
from-ten n e = ltb-false n 10 e

pub returns-then-k-eq0-clause-placed : goal.returns-then-k-eq0-clause-placed
returns-then-k-eq0-clause-placed t c = let a = c.args in none a.k (value a.n) a.out.now a.at c.if-k-eq0.true

pub returns-then-less-clause-placed : goal.returns-then-less-clause-placed
returns-then-less-clause-placed t c =
    let a = c.args in
    let small = below-ten (value a.n) (sym c.less.ensures ∙ c.if-less.true) in
    one a.k (value a.n) c.last_digit-last.result (omega arith) small c.last_digit-last.ensures c.put_byte.ensures

pub returns-clause-placed : goal.returns-clause-placed
returns-clause-placed t c =
    let a = c.args in
    let large = from-ten (value a.n) (sym c.less.ensures ∙ c.if-less.false) in
    more a.k (value a.n) (value c.tenth.result) c.last_digit-last.result (omega arith) large c.tenth.ensures c.last_digit-last.ensures
    (omega (arith, c.requires)) c.put_digits-past.ensures.placed c.put_byte-2.ensures
