-- Text put into a stretch of bytes. Assumes nothing.
use Rattle.std.specs.Prelude.{ℕ, ◌+◌, ◌≤◌, ◌<◌, cond, ◌≡◌, refl, List, [], ◌++◌, leb, length, take, drop, replicate}
use Rattle.std.proofs.Common.{sym, ◌∙◌, ap, ap₂, append_assoc, zero-add, add-zero, arith, length-append, take-append-drop, length-take-le, take_at, drop-drop, le-leb}
use Rattle.std.proofs.Math.Seq.{take-append_seam, drop-append-add}
use Rattle.std.proofs.lemmas.Bool.{lt-leb}
use Rattle.text.specs.declared.Line.{Line}

-- t in place of what stands at index `at`
abbrev pub put : List ℕ → ℕ → List ℕ → List ℕ
put out at t = take at out ++ (t ++ drop (at + length t) out)

-- t in place of what stands at the start
abbrev pub over : List ℕ → List ℕ → List ℕ
over out t = put out 0 t

-- a line of that text: zeros past it
abbrev pub line_of : List ℕ → Line
line_of t = record { bytes = over (replicate 192 0) t; length = length t }

-- a line's own text
abbrev pub text_of : Line → List ℕ
text_of l = take l.length l.bytes

-- t put at index `at` where there are k bytes from there on, and the index past it
abbrev pub put_within : ℕ → List ℕ → ℕ → List ℕ → List ℕ
put_within k out at t = cond (leb (at + k) (length out)) (put out at t) out

abbrev pub end_within : ℕ → List ℕ → ℕ → List ℕ → ℕ
end_within k out at t = cond (leb (at + k) (length out)) (at + length t) at

-- t put at index `at` where it fits, and the index past it
abbrev pub appended : List ℕ → ℕ → List ℕ → List ℕ
appended out at t = put_within (length t) out at t

abbrev pub end_of : List ℕ → ℕ → List ℕ → ℕ
end_of out at t = end_within (length t) out at t

-- text put right after text makes one text of the two
pub put-put : (out t u : List ℕ) (at : ℕ) → at ≤ length out → put (put out at t) (at + length t) u ≡ put out at (t ++ u)
put-put out t u at l =
    let front = take at out ++ t in
    let rest = drop (at + length t) out in
    let long : length front ≡ at + length t = length-append (take at out) t ∙ ap (λ n. n + length t) (length-take-le at out l) in
    let split : put out at t ≡ front ++ rest = sym (append_assoc (take at out) t rest) in
    let kept : take (at + length t) (put out at t) ≡ front = ap (take (at + length t)) split ∙ take_at front rest (at + length t) long in
    let same : (at + length t) + length u ≡ at + length (t ++ u) = omega (arith, length-append t u) in
    let left : drop ((at + length t) + length u) (put out at t) ≡ drop (at + length (t ++ u)) out =
    ap₂ (λ n (xs : List ℕ). drop (n + length u) xs) (sym long) split ∙ drop-append-add front rest (length u)
    ∙ drop-drop (length u) (at + length t) out ∙ ap (λ n. drop n out) same in
    ap₂ (λ a b. a ++ (u ++ b)) kept left ∙ append_assoc (take at out) t (u ++ drop (at + length (t ++ u)) out)
    ∙ ap (λ a. take at out ++ a) (sym (append_assoc t u (drop (at + length (t ++ u)) out)))

-- t was put at index `at` of what stood there before, and its end is `end`
pub record Placed (before : List ℕ) (at : ℕ) (t after : List ℕ) (end : ℕ) : Type 0 where
  pub bytes : after ≡ put before at t
  pub past : end ≡ at + length t

pub placed-then : {before t mid u after : List ℕ} {at m end : ℕ} → at ≤ length before → Placed before at t mid m → Placed mid m u after end
    → Placed before at (t ++ u) after end
placed-then {before} {t} {mid} {u} {after} {at} {m} {end} l p q =
    let both : after ≡ put (put before at t) (at + length t) u = q.bytes ∙ ap₂ (λ xs n. put xs n u) p.bytes p.past in
    record { bytes = both ∙ put-put before t u at l; past = omega (arith, p.past, q.past, length-append t u) }

-- a line whose text was put at the start of zeros
pub line-of : {t bytes : List ℕ} {length' : ℕ} → Placed (replicate 192 0) 0 t bytes length'
    → record { bytes = bytes; length = length' } ≡ line_of t
line-of {t} p = ap₂ (λ (b : List ℕ) (n : ℕ). record { bytes = b; length = n }) p.bytes (p.past ∙ zero-add (length t))

-- text that was put at the start is what stands up to its end
pub text-of : {before t bytes : List ℕ} {end : ℕ} → Placed before 0 t bytes end → take end bytes ≡ t
text-of {before} {t} p =
    ap₂ (λ (n : ℕ) (b : List ℕ). take n b) (p.past ∙ zero-add (length t)) p.bytes ∙ take-append_seam t (drop (0 + length t) before)

-- no text
pub placed-none : (out : List ℕ) (at : ℕ) → Placed out at [] out at
placed-none out at =
    record { bytes = sym (ap (λ n. take at out ++ drop n out) (add-zero at) ∙ take-append-drop at out); past = sym (add-zero at) }

-- text that fits is put there
pub append-placed : (out t : List ℕ) (at : ℕ) → at + length t ≤ length out → Placed out at t (appended out at t) (end_of out at t)
append-placed out t at room = rw (le-leb (at + length t) (length out) room) (record { bytes = refl; past = refl })

-- a line of known text put where there is room for k bytes
pub line-placed : (out t : List ℕ) (at k : ℕ) (l : List ℕ) {after : List ℕ} {end : ℕ} → l ≡ t → length t ≤ k
    → at + k ≤ length out → after ≡ appended out at l → end ≡ end_of out at l → Placed out at t after end × (end ≤ at + k)
line-placed out t at k l {after} {end} e short room o p =
    let there = append-placed out t at (omega arith) in
    let bytes = o ∙ ap (appended out at) e ∙ there.bytes in
    let past = p ∙ ap (end_of out at) e ∙ there.past in
    (record { bytes = bytes; past = past }, omega (arith, past))

-- where there are not k bytes nothing is put; where there are, what was placed is what is put
pub crowded : (k : ℕ) (out t : List ℕ) (at : ℕ) → length out < at + k → (out ≡ put_within k out at t) × (at ≡ end_within k out at t)
crowded k out t at h = rw (lt-leb (at + k) (length out) h) (refl, refl)

pub put-within : (k : ℕ) {out t after : List ℕ} {at end : ℕ} → at + k ≤ length out → Placed out at t after end
    → (after ≡ put_within k out at t) × (end ≡ end_within k out at t)
put-within k {out} {at = at} h p = rw (le-leb (at + k) (length out) h) (p.bytes, p.past)

pub placed-within : (k : ℕ) {out t after : List ℕ} {at end : ℕ} → at + k ≤ length out
    → after ≡ put_within k out at t → end ≡ end_within k out at t → Placed out at t after end
placed-within k {out} {at = at} h e f =
    let there = le-leb (at + k) (length out) h in
    record { bytes = rw there at e; past = rw there at f }

-- the same text, bytes and end, under other names
pub placed_as : {before t t' after after' : List ℕ} {at end end' : ℕ} → Placed before at t after end → t ≡ t' → after' ≡ after → end' ≡ end
    → Placed before at t' after' end'
placed_as {before} {at = at} p e f g =
    record { bytes = f ∙ p.bytes ∙ ap (put before at) e; past = g ∙ p.past ∙ ap (λ (u : List ℕ). at + length u) e }
