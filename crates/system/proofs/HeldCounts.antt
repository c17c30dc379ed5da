-- A test against a count that was read is the test of the definition. Assumes nothing.
use Rattle.std.proofs.Common.{◌≡◌, sym, ap, ◌∙◌, true, false, ℕ, ◌<◌, ◌≤◌, ltb, lt-ltb, le-ltb}

pub below : {a n m : ℕ} → n ≡ m → a < n → ltb a m ≡ true
below {a} {n} e h = ap (ltb a) (sym e) ∙ lt-ltb a n h

pub beyond : {a n m : ℕ} → n ≡ m → n ≤ a → ltb a m ≡ false
beyond {a} {n} e h = ap (ltb a) (sym e) ∙ le-ltb a n h
