-- A script that is handed over in stretches of whole records is the whole script. Assumes nothing.
use Rattle.std.specs.Prelude.{◌≡◌, ℕ, zero, suc, ◌+◌, ◌*◌, ◌≤◌, Bool, List, ◌++◌, length, drop, refl}
use Rattle.std.proofs.Common.{sym, ◌∙◌, ap, ap₂, append_assoc, append-nil, add-zero, add-suc, arith, length-drop, drop-drop}
use Rattle.std.proofs.lemmas.List.{drop-append-le}
use Rattle.std.proofs.Math.Seq.{drop-append_seam}
use Rattle.records.specs.Laws.{plan-front}
use Rattle.script.specs.declared.Script.{Script}
use Rattle.script.specs.Script.{script_next, entry, script_after, text}

-- a record is told the same whatever follows it
next-front : (c : Script) (bs cs : List ℕ) → 20 ≤ length bs → script_next c (bs ++ cs) ≡ script_next c bs
unfolding script_next
next-front c bs cs l = rw (plan-front c.built bs cs l)

entry-front : (s : Bool) (c : Script) (bs cs : List ℕ) → 20 ≤ length bs → entry s c (bs ++ cs) ≡ entry s c bs
unfolding entry
entry-front s c bs cs l = rw (plan-front c.built bs cs l, next-front c bs cs l)

-- what is left after n of m records, before what follows
left-front : (bs cs : List ℕ) (m n : ℕ) → length bs ≡ m * 20 → n ≤ m → drop (n * 20) (bs ++ cs) ≡ drop (n * 20) bs ++ cs
left-front bs cs m n e l = drop-append-le (n * 20) bs cs (omega arith)

-- n of m records, whatever follows the m
pub after_front : (c : Script) (bs cs : List ℕ) (m n : ℕ) → length bs ≡ m * 20 → n ≤ m → script_after c (bs ++ cs) n ≡ script_after c bs n
unfolding script_after
after_front c bs cs m zero e l = refl
after_front c bs cs m (suc n) e l =
    ap₂ script_next (after_front c bs cs m n e (omega arith)) (left-front bs cs m n e (omega arith))
    ∙ next-front (script_after c bs n) (drop (n * 20) bs) cs (omega (arith, length-drop (n * 20) bs))

pub text-front : (s : Bool) (c : Script) (bs cs : List ℕ) (m n : ℕ) → length bs ≡ m * 20 → n ≤ m → text s c (bs ++ cs) n ≡ text s c bs n
unfolding text
text-front s c bs cs m zero e l = refl
text-front s c bs cs m (suc n) e l =
    let here = ap₂ (entry s) (after_front c bs cs m n e (omega arith)) (left-front bs cs m n e (omega arith)) in
    let same = entry-front s (script_after c bs n) (drop (n * 20) bs) cs (omega (arith, length-drop (n * 20) bs)) in
    ap₂ ◌++◌ (text-front s c bs cs m n e (omega arith)) (here ∙ same)

-- what is left after m records and n more, where the m are bs
left-then : (bs cs : List ℕ) (m n : ℕ) → length bs ≡ m * 20 → drop ((m + n) * 20) (bs ++ cs) ≡ drop (n * 20) cs
left-then bs cs m n e =
    let sum : (m + n) * 20 ≡ length bs + n * 20 = omega arith in
    ap (λ k. drop k (bs ++ cs)) sum ∙ sym (drop-drop (n * 20) (length bs) (bs ++ cs)) ∙ ap (drop (n * 20)) (drop-append_seam bs cs)

-- m records, and then n: the script after them, and their text
pub after_then : (c : Script) (bs cs : List ℕ) (m n : ℕ) → length bs ≡ m * 20
    → script_after c (bs ++ cs) (m + n) ≡ script_after (script_after c bs m) cs n
unfolding script_after
after_then c bs cs m zero e = rw (add-zero m) (after_front c bs cs m m e (omega arith))
after_then c bs cs m (suc n) e = rw (add-suc m n) (ap₂ script_next (after_then c bs cs m n e) (left-then bs cs m n e))

pub text-then : (s : Bool) (c : Script) (bs cs : List ℕ) (m n : ℕ) → length bs ≡ m * 20
    → text s c (bs ++ cs) (m + n) ≡ text s c bs m ++ text s (script_after c bs m) cs n
unfolding text
text-then s c bs cs m zero e = rw (add-zero m) (text-front s c bs cs m m e (omega arith) ∙ sym (append-nil (text s c bs m)))
text-then s c bs cs m (suc n) e =
    rw (add-suc m n)
    (ap₂ ◌++◌ (text-then s c bs cs m n e) (ap₂ (entry s) (after_then c bs cs m n e) (left-then bs cs m n e))
    ∙ append_assoc (text s c bs m) (text s (script_after c bs m) cs n) (entry s (script_after (script_after c bs m) cs n) (drop (n * 20) cs)))
