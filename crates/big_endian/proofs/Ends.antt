-- Where the end comes first: a run of stores stops there, and zeros are read past it. Assumes nothing.
use Rattle.std.proofs.Common.{ℕ, zero, suc, ◌+◌, ◌-◌, ◌<◌, ◌≤◌, List, [], ◌∷◌, ◌++◌, ◌≡◌, refl, sym, ◌∙◌, ap, arith, length, take, drop, get_or, set, min, zero-add}
use Rattle.std.proofs.lemmas.List.{length-set, length-take, length-drop, set_past, take_all, get_or-take, get_or-drop, get_or_past, get_or-append_right, get_or-replicate}
use Rattle.std.proofs.Math.ListN.{get_or-append}
use Rattle.std.proofs.lemmas.List.Edits.{sets, sets-eq}
use Rattle.std.proofs.Math.Decide.{ℕ_discrete}
use Rattle.big_endian.specs.Numbers.{number}
use Rattle.big_endian.specs.Laws.{number_same}

-- ---- written

pub none-past : (l : List ℕ) (i : ℕ) (b : List ℕ) → length l ≤ i → l ≡ sets l i b
none-past l i [] h = refl
none-past l i (x ∷ b) h = rw (set_past l i x h) (none-past l (suc i) b (omega arith))

-- what there is room for is all that is stored
room : (l : List ℕ) (i : ℕ) (b : List ℕ) (m : ℕ) → i + m ≡ length l → sets l i (take m b) ≡ sets l i b
room l i b zero h = none-past l i b (omega arith)
room l i [] (suc m) h = refl
room l i (x ∷ b) (suc m) h = room (set l i x) (suc i) b m (omega (arith, length-set l i x))

pub fitting : (l : List ℕ) (at : ℕ) (b : List ℕ) {fit : ℕ} → at ≤ length l → fit ≡ min (length b) (length l - at)
    → sets l at (take fit b) ≡ sets l at b
fitting l at b {fit} h e = go (ℕ_discrete fit (length b))
  where
    go : Dec (fit ≡ length b) → sets l at (take fit b) ≡ sets l at b
    go (yes whole) = ap (sets l at) (take_all fit b (omega arith))
    go (no part) = room l at b fit (omega arith)

-- ---- read

abbrev pub zeros : List ℕ
zeros = 0 ∷ 0 ∷ 0 ∷ 0 ∷ 0 ∷ 0 ∷ 0 ∷ 0 ∷ []

-- bytes that are laid over them
pub over-zeros : (b : List ℕ) (i : ℕ) → i < 8 → get_or (sets zeros 0 b) i 0 ≡ get_or b i 0
over-zeros b i h = rw laid (go (ℕ_discrete 0 (i + 1 - fit)))
  where
    fit : ℕ
    fit = min (length b) 8

    long : length (take fit b) ≡ fit
    long = omega (arith, length-take fit b)

    laid : sets zeros 0 b ≡ take fit b ++ drop fit zeros
    laid = sym (fitting zeros 0 b (omega arith) refl) ∙ sets-eq (take fit b) zeros 0 (omega (arith, long)) ∙ rw (long, zero-add) refl

    go : Dec (0 ≡ i + 1 - fit) → get_or (take fit b ++ drop fit zeros) i 0 ≡ get_or b i 0
    go (yes e) = get_or-append (take fit b) (drop fit zeros) 0 i (omega (arith, long)) ∙ get_or-take fit b i 0 (omega arith)
    go (no n) =
        let at : fit + (i - fit) ≡ i = omega arith in
        get_or-append_right (take fit b) (drop fit zeros) fit i 0 long (omega arith) ∙ get_or-drop fit zeros (i - fit) 0
        ∙ ap (λ (k : ℕ). get_or zeros k 0) at ∙ get_or-replicate 8 i 0 0 h ∙ sym (get_or_past b i 0 (omega arith))

-- the number that they say
pub number-over : (s : List ℕ) (at n : ℕ) {k : ℕ} → k ≡ min at (length s) → n ≤ 8
    → number (sets zeros 0 (take (length s - k) (drop k s))) 0 n ≡ number s at n
number-over s at n {k} e l = number_same (sets zeros 0 (take (length s - k) (drop k s))) s 0 at n (λ i h. rw zero-add (over-zeros _ i (omega arith) ∙ same i))
  where
    long : length (drop k s) ≡ length s - k
    long = length-drop k s

    same : (i : ℕ) → get_or (take (length s - k) (drop k s)) i 0 ≡ get_or s (at + i) 0
    same i = ap (λ (l : List ℕ). get_or l i 0) (take_all (length s - k) (drop k s) (omega (arith, long))) ∙ go (ℕ_discrete k at)
      where
        go : Dec (k ≡ at) → get_or (drop k s) i 0 ≡ get_or s (at + i) 0
        go (yes q) = get_or-drop k s i 0 ∙ rw q refl
        go (no n) = get_or_past (drop k s) i 0 (omega (arith, long)) ∙ sym (get_or_past s (at + i) 0 (omega arith))
