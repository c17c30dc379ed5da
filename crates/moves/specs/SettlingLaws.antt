-- Laws of settling: what comes first and what after it, by the decision; and no more moves than are allowed. Assumes nothing.
use Rattle.std.specs.Prelude.{ℕ, zero, suc, ◌-◌, ◌%◌, ◌≤◌, ◌≡◌, refl, List, [], ◌∷◌, length}
use Rattle.std.proofs.Common.{zero-le, suc-le-suc}
use Rattle.std.proofs.Math.Path.{ap, ◌∙◌}
use Rattle.masks.specs.Masks.{pcpu_bit}
use Rattle.moves.specs.declared.Choice.{Choice}
use Rattle.moves.specs.declared.Row.{Row}
use Rattle.moves.specs.declared.Choice.TheVariants.{Run, Preempt, Rest}
use Rattle.moves.specs.Decide.{decide}
use Rattle.moves.specs.Table.{tabled}
use Rattle.moves.specs.TableWrites.{dispatched_in, left_in}
use Rattle.moves.specs.Settling.{with_pcpu, with_rest, made, table_after, idle_after, and_after, settled}

module _ (slice n k : ℕ) (t : List Row) (idle : ℕ) where
  by : (c : Choice) → decide (tabled t idle) n ≡ c
      → settled slice n (suc k) t idle ≡ and_after (λ u rest. settled slice n k u rest) slice t idle c
  unfolding settled
  by c e = ap (and_after (λ u rest. settled slice n k u rest) slice t idle) e

  pub settled-run : (i p : ℕ) → decide (tabled t idle) n ≡ Run i p
      → settled slice n (suc k) t idle ≡ Run i p ∷ settled slice n k (dispatched_in slice t i p) (idle - pcpu_bit p)
  settled-run i p e = by (Run i p) e

  pub settled-preempt : (i p : ℕ) → decide (tabled t idle) n ≡ Preempt i p
      → settled slice n (suc k) t idle ≡ Preempt i (p % 64) ∷ settled slice n k (left_in t i) (with_pcpu idle (p % 64))
  settled-preempt i p e = by (Preempt i p) e

  pub settled-rest : decide (tabled t idle) n ≡ Rest → settled slice n (suc k) t idle ≡ []
  settled-rest e = by Rest e

-- the move that is made, and what comes after it of what it leaves
pub settled-made : (slice n k : ℕ) (t : List Row) (idle : ℕ) (c : Choice) → made (decide (tabled t idle) n) ≡ c
    → settled slice n (suc k) t idle ≡ with_rest c (settled slice n k (table_after slice t c) (idle_after idle c))
unfolding settled
settled-made slice n k t idle c e = go (decide (tabled t idle) n) ∙ ap after e
  where
    after : Choice → List Choice
    after d = with_rest d (settled slice n k (table_after slice t d) (idle_after idle d))

    go : (d : Choice) → and_after (λ u rest. settled slice n k u rest) slice t idle d ≡ after (made d)
    go (Run i p) = refl
    go (Preempt i p) = refl
    go Rest = refl

pub settled-short : (slice n k : ℕ) (t : List Row) (idle : ℕ) → length (settled slice n k t idle) ≤ k
unfolding settled
settled-short slice n zero t idle = zero-le
settled-short slice n (suc k) t idle = go (decide (tabled t idle) n) (settled-short slice n k)
  where
    go : (c : Choice) → ((u : List Row) (rest : ℕ) → length (settled slice n k u rest) ≤ k)
        → length (and_after (λ u rest. settled slice n k u rest) slice t idle c) ≤ suc k
    go (Run i p) ih = suc-le-suc (ih (dispatched_in slice t i p) (idle - pcpu_bit p))
    go (Preempt i p) ih = suc-le-suc (ih (left_in t i) (with_pcpu idle (p % 64)))
    go Rest ih = zero-le
