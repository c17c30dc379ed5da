-- The log enacted move by move. Assumes nothing.
use Rattle.std.proofs.Common.{ℕ, ◌+◌, ◌<◌, List, [], ◌∷◌, ◌++◌, length, get_or, ◌≡◌, refl, ◌∙◌, ap₂, sym, add-one}
use Rattle.std.specs.Prelude.{map, take}
use Rattle.std.proofs.Math.Seq.{take-suc}
use Rattle.std.proofs.lemmas.List.{map-append}
use Rattle.system.specs.declared.System.{System}
use Rattle.moves.specs.declared.Choice.{Choice}
use Rattle.moves.specs.declared.Move.{Move}
use Rattle.moves.specs.Settling.{choice_of}
use Rattle.settling.specs.AfterMoves.{moved, after_moves}

-- one more move
after-last : (s : System) (now : ℕ) (cs : List Choice) (c : Choice) → after_moves s now (cs ++ c ∷ []) ≡ moved (after_moves s now cs) now c
unfolding after_moves
after-last s now [] c = refl
after-last s now (x ∷ cs) c = after-last (moved s now x) now cs c

-- what the code stores of a move is the system after one more entry
pub enacts_next : (s : System) (now : ℕ) (log : List Move) (i : ℕ) (d : Move) → i < length log → {t u : System} {c : Choice}
    → t ≡ after_moves s now (map choice_of (take i log)) → c ≡ choice_of (get_or log i d) → u ≡ moved t now c
    → u ≡ after_moves s now (map choice_of (take (i + 1) log))
enacts_next s now log i d l e f g =
    rw (add-one i, take-suc log i d l, map-append choice_of (take i log) (get_or log i d ∷ []))
    (g ∙ ap₂ (λ (o : System) (x : Choice). moved o now x) e f ∙ sym (after-last s now (map choice_of (take i log)) _))
