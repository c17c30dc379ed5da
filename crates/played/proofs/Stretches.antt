-- A script that is taken in stretches is the whole script. Assumes nothing.
use Rattle.std.proofs.Common.{ℕ, ◌+◌, Bool, ◌≡◌, refl, sym, ◌∙◌, ap, ap₂, List, [], ◌++◌, append-nil, length, take, drop, zero-add, add-zero, arith}
use Rattle.std.proofs.Math.Seq.{take-append_seam}
use Rattle.text.specs.Places.{Placed}
use Rattle.script.specs.declared.Script.{Script}
use Rattle.script.specs.Script.{begun, script_after, text, taken}
use Rattle.script.specs.InStretches.{after_then, text-then}
use Rattle.played.specs.Stretches.{Held, first, more, ended, EveryStretch}
use Rattle.played.proofs.Played.{as_played}

-- what stands up to the end of a text at the start is the text
placed-text : {before t out : List ℕ} {end : ℕ} → Placed before 0 t out end → take end out ≡ t
placed-text {before} {t} p = ap₂ take (p.past ∙ zero-add (length t)) p.bytes ∙ take-append_seam t (drop (0 + length t) before)

-- of no bytes no record is taken
none-taken : (states : Bool) (before : List ℕ) → taken states [] before ≡ 0
none-taken states before = omega arith

as_many : (states : Bool) (before : List ℕ) {k : ℕ} → k ≡ taken states [] before → (n : ℕ) → n ≡ n + k
as_many states before e n = sym (ap (λ (m : ℕ). n + m) (e ∙ none-taken states before) ∙ add-zero n)

held-script : {states : Bool} {bs t : List ℕ} {n : ℕ} {c : Script} → Held states bs n t c → c ≡ script_after begun bs n
unfolding script_after
held-script first = refl
held-script {states} (more {bs} {n = n} h whole stretch before out after r p) =
    let m = taken states stretch before in
    p.script ∙ ap (λ (c : Script). script_after c stretch m) (held-script h) ∙ sym (after_then begun bs stretch n m whole)
    ∙ ap (λ (k : ℕ). script_after begun (bs ++ stretch) (n + k)) (sym p.records)
held-script {states} (ended {bs} {n = n} {c} h before out after r p) =
    p.script ∙ ap (script_after c []) (none-taken states before) ∙ held-script h
    ∙ ap (script_after begun bs) (as_many states before p.records n)

held-text : {states : Bool} {bs t : List ℕ} {n : ℕ} {c : Script} → Held states bs n t c → t ≡ text states begun bs n
unfolding text
held-text first = refl
held-text {states} (more {bs} {n = n} h whole stretch before out after r p) =
    let m = taken states stretch before in
    let here = placed-text p.placed ∙ ap (λ (c : Script). text states c stretch m) (held-script h) in
    ap₂ ◌++◌ (held-text h) here ∙ sym (text-then states begun bs stretch n m whole)
    ∙ ap (λ (k : ℕ). text states begun (bs ++ stretch) (n + k)) (sym p.records)
held-text {states} (ended {bs} {t} {n} {c} h before out after r p) =
    let here = placed-text p.placed ∙ ap (text states c []) (none-taken states before) in
    ap (λ (u : List ℕ). t ++ u) here ∙ append-nil t ∙ held-text h ∙ ap (text states begun bs) (as_many states before p.records n)

pub held_as_played : EveryStretch
held_as_played states bs t n c bytes h =
    let p = as_played bs bytes n in
    record { script = held-script h; text = held-text h ∙ p.text states; played = p }
