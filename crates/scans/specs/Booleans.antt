-- Laws of Booleans: two tests that hold together; and that two constructors are never equal. Assumes nothing.
use Rattle.std.specs.Prelude.{ℕ, ◌≡◌, refl, Bool, true, false, ◌&&◌}
use Rattle.std.proofs.lemmas.Bool.{false≢true}
use Rattle.std.proofs.Common.{arith}

pub both : (a b : Bool) → (a && b) ≡ true → (a ≡ true) × (b ≡ true)
both true b e = (refl, e)
both false b e = absurd (false≢true e)

pub all_two : {a b : Bool} → a ≡ true → b ≡ true → (a && b) ≡ true
all_two e f = rw (e, f)

-- `cc` shows 0 ≡ 1 where two constructors are said to be equal
pub zero_one : ◌≡◌ {A = ℕ} 0 1 → ⊥
zero_one z = omega arith
