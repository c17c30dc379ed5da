-- Runs of stores: over a whole array, into one of zeros, and what a copy of bytes stores. Assumes nothing.
use Rattle.std.proofs.Common.{◌≡◌, ap, sym, ◌∙◌, ℕ, zero, suc, ◌+◌, ◌-◌, ◌≤◌, arith}
use Rattle.std.proofs.Common.{List, [], ◌++◌, append_assoc, append-nil, length, take, drop, drop-drop, drop_of_length-le}
use Rattle.std.proofs.lemmas.List.Edits.{sets, sets-eq}
use Rattle.std.proofs.lemmas.List.{length-replicate}
use borrow.Rule.Slice.PartMut.{put_mid}
use native.Mathlib.Nat.{zero-add}
use native.Mathlib.Numerals.{unary_clauses}
use Rattle.usage_layout.specs.Layout.{zeros, padded}

pub stored-whole : (l t : List ℕ) → length t ≡ length l → sets l 0 t ≡ t
stored-whole l t e =
    let past : drop (0 + length t) l ≡ [] = drop_of_length-le l (omega arith) in
    sets-eq t l 0 (omega arith) ∙ ap (λ (r : List ℕ). t ++ r) past ∙ append-nil t

-- a copy into as many places
pub copied : (l : List ℕ) (at : ℕ) {b c : List ℕ} → c ≡ b → at + length b ≤ length l → put_mid at (at + length b - at) l c ≡ sets l at b
copied l at {b} e room =
    let end : at + (at + length b - at) ≡ at + length b = omega arith in
    let rest = drop-drop _ _ l ∙ ap (λ (k : ℕ). drop k l) end in
    rw (e, sets-eq b l at room)
    (ap (λ (r : List ℕ). take at l ++ (b ++ r)) rest ∙ sym (append_assoc (take at l) b (drop (at + length b) l)))

drop-zeros : (n m : ℕ) → drop n (zeros m) ≡ zeros (m - n)
drop-zeros zero m = simp unary_clauses
drop-zeros (suc n) zero = let e : 0 ≡ 0 - suc n = omega arith in ap zeros e
drop-zeros (suc n) (suc m) = simp unary_clauses (drop-zeros n m)

stored-first : (m : ℕ) (l : List ℕ) → length l ≤ m → sets (zeros m) 0 l ≡ l ++ zeros (m - length l)
stored-first m l h =
    sets-eq l (zeros m) 0 (omega (arith, length-replicate {A = ℕ} m 0))
    ∙ ap (λ (z : List ℕ). l ++ z) (drop-zeros (0 + length l) m ∙ ap (λ (n : ℕ). zeros (m - n)) (zero-add (length l)))

-- a file that is stored from the first byte on
pub stored-file : (l : List ℕ) → length l ≤ 2662 → sets (zeros 2662) 0 l ≡ padded l
unfolding padded
stored-file l = stored-first 2662 l
