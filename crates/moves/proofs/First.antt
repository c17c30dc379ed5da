-- A decision over the first rows of a table is one over the table as far as these go. Assumes nothing.
use Rattle.std.specs.Prelude.{ℕ, ◌≤◌, ◌<◌, ◌≡◌, refl, List, length, take}
use Rattle.std.proofs.Common.{◌∙◌, ap}
use Rattle.std.proofs.lemmas.List.{length-take-le, get_or-take}
use Rattle.moves.specs.declared.Row.{Row}
use Rattle.moves.specs.Decide.{decide}
use Rattle.moves.specs.Table.{no_row, row_at, tabled}
use Rattle.moves.proofs.DecideCong.{Alike, decide_cong}

module _ (t : List Row) (m : ℕ) where
  same : (i : ℕ) → i < m → row_at (take m t) i ≡ row_at t i
  same i l = get_or-take m t i no_row l

  alike : (idle : ℕ) → Alike (tabled (take m t) idle) (tabled t idle) m
  unfolding tabled
  alike idle =
      record {
        waits = λ i l. rw (same i l);
        expired = λ i l. rw (same i l);
        on = λ i l e. rw (same i l);
        mask = λ i l e. rw (same i l);
        last = λ i l e. rw (same i l);
        beats = λ i j k l e f. rw (same i k, same j l);
        idle = λ p l. refl;
      }

  pub decide-first : (idle : ℕ) → m ≤ length t → decide (tabled (take m t) idle) (length (take m t)) ≡ decide (tabled t idle) m
  decide-first idle l = ap (decide (tabled (take m t) idle)) (length-take-le m t l) ∙ decide_cong (alike idle)
