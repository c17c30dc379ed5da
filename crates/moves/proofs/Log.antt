-- The log: one more entry is one more move. Assumes nothing.
use Rattle.std.specs.Prelude.{ℕ, suc, ◌≤◌, ◌<◌, ◌≡◌, List, [], ◌∷◌, ◌++◌, length, set, map, take}
use Rattle.std.proofs.Common.{◌∙◌, ap, arith}
use Rattle.std.proofs.Math.ListN.{length-map, length-take}
use Rattle.std.proofs.Math.Seq.{take-suc-set}
use Rattle.std.proofs.lemmas.List.{map-append}
use Rattle.moves.specs.declared.Move.{Move}
use Rattle.moves.specs.Settling.{choice_of, logged_first}

pub one_more : (log : List Move) (r : ℕ) (m : Move) → r < length log
    → logged_first (set log r m) (suc r) ≡ logged_first log r ++ choice_of m ∷ []
one_more log r m l = ap (map choice_of) (take-suc-set log r m l) ∙ map-append choice_of (take r log) (m ∷ [])

pub first-length : (log : List Move) (r : ℕ) → r ≤ length log → length (logged_first log r) ≡ r
first-length log r l = simp (length-map, length-take) (omega arith)
