-- The library's bytes of a number, and the number that it reads of bytes, are these definitions'. Assumes nothing.
use Rattle.std.proofs.Common.{◌<◌, Option, Some, append_assoc, drop-drop, add-zero, ℕ, zero, suc, ◌+◌, ◌-◌, ◌/◌, ◌%◌, ◌^◌, ◌≤◌, List, [], ◌∷◌, ◌++◌, ◌≡◌, refl, ap, ◌∙◌, sym, length, take, drop, arith}
use Rattle.std.proofs.Math.Nat.{div-one}
use Rattle.std.specs.Int.{bytes_high_first, from_be_bytes, w16, w32, w64}
use Rattle.std.proofs.lemmas.List.Edits.{sets, sets-eq}
use Rattle.std.proofs.lemmas.Option.{MatchOption-at_some}
use Rattle.std.specs.Option.{MatchOption}
use Rattle.std.specs.Array.{IsFirstChunk}
use Rattle.std.specs.Borrow.{Bor}
use borrow.Rule.Slice.PartMut.{put_mid}
use Rattle.big_endian.specs.Numbers.{bytes, number}
use Rattle.big_endian.specs.Laws.{length-bytes, number-within}

-- ---- written

pub high-first : (n x : ℕ) → bytes_high_first n x ≡ bytes n x
unfolding bytes
high-first zero x = refl
high-first (suc zero) x = ap (λ (b : ℕ). b % 256 ∷ []) (sym (div-one x))
high-first (suc (suc n)) x = ap (λ (l : List ℕ). x / 256 ^ suc n % 256 ∷ l) (high-first (suc n) x)

-- a copy into as many places is the run of their stores
pub copied : (l : List ℕ) (at n : ℕ) {xs ys : List ℕ} → ys ≡ xs → length xs ≡ n → at + n ≤ length l
    → put_mid at (at + n - at) l ys ≡ sets l at xs
copied l at n {xs} {ys} e long h =
    let room : at + length xs ≤ length l = omega arith in
    let end : at + (at + n - at) ≡ at + n = omega arith in
    rw (e, sets-eq xs l at room, long)
    (ap (λ (r : List ℕ). take at l ++ (xs ++ r)) (drop-drop _ _ l ∙ ap (λ (k : ℕ). drop k l) end) ∙ sym (append_assoc (take at l) xs (drop (at + n) l)))

pub written : (l : List ℕ) (at n x : ℕ) {ys : List ℕ} → ys ≡ bytes_high_first n x → at + n ≤ length l
    → put_mid at (at + n - at) l ys ≡ sets l at (bytes n x)
written l at n x e h = copied l at n (e ∙ high-first n x) (length-bytes n x) h

-- ---- read

-- what `first_chunk` tells of n bytes
abbrev Chunk : List ℕ → Option (Bor (List ℕ)) → ℕ → Type 0
Chunk s o n = MatchOption o (length s < n) (λ y. IsFirstChunk s y.now n)

module _ (s : List ℕ) {o : Option (Bor (List ℕ))} {r : Bor (List ℕ)} where
  -- they are the number that stands there
  chunk-number : (n : ℕ) → Chunk s o n → o ≡ Some r → number r.now 0 n ≡ number s 0 n
  chunk-number n chunk e = rw (MatchOption-at_some _ _ r e chunk).same (number-within s 0 n 0 n (omega arith))

  pub read-half : Chunk s o 2 → o ≡ Some r → {x : ℕ} → x ≡ from_be_bytes w16 r.now → x ≡ number s 0 2
  unfolding number
  read-half chunk e {x} worth =
      let here = chunk-number 2 chunk e in
      omega arith

  pub read-word : Chunk s o 4 → o ≡ Some r → {x : ℕ} → x ≡ from_be_bytes w32 r.now → x ≡ number s 0 4
  unfolding number
  read-word chunk e {x} worth =
      let here = chunk-number 4 chunk e in
      omega arith

  pub read-double : Chunk s o 8 → o ≡ Some r → {x : ℕ} → x ≡ from_be_bytes w64 r.now → x ≡ number s 0 8
  unfolding number
  read-double chunk e {x} worth =
      let here = chunk-number 8 chunk e in
      omega arith

-- the n bytes from index `at` on
pub number-there : (s : List ℕ) (at n : ℕ) → number (take (at + n - at) (drop at s)) 0 n ≡ number s at n
number-there s at n =
    let size : at + n - at ≡ n = omega arith in
    rw size (number-within s at n 0 n (omega arith) ∙ rw add-zero)
