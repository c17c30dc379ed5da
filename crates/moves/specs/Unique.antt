-- What fixes a decision. Another way of deciding has only to show this of what it decides; it is never held against the text of
-- the scans. That whatever is so decided is the same, and that the decision is so decided, is proved as `decided_unique` and
-- `decide-decided`.
use Rattle.std.specs.Prelude.{ℕ, ◌<◌, Bool, true, false, ◌≡◌}
use Rattle.moves.specs.declared.Choice.{Choice}
use Rattle.moves.specs.declared.Choice.TheVariants.{Run, Preempt, Rest}
use Rattle.moves.specs.Decide.{Standings, placement}
use Rattle.moves.specs.DecideLaws.{Fits, Beats}

-- of those below n of whom P is true, nobody is better than i, and i is better than all that come earlier
pub record First (P : ℕ → Type 0) (better : ℕ → ℕ → Bool) (n i : ℕ) : Type 0 where
  pub below : i < n
  pub is : P i
  pub best : (j : ℕ) → j < n → P j → better j i ≡ false
  pub earliest : (j : ℕ) → j < i → P j → better i j ≡ true

-- i fits somewhere
pub record FitsSomewhere (t : Standings) (i : ℕ) : Type 0 where
  pub onto : ℕ
  pub fits : Fits t i onto

-- i is expired, and somebody beats it
pub record Loses (t : Standings) (n i : ℕ) : Type 0 where
  pub expired : t.expired i ≡ true
  pub by : ℕ
  pub beats : Beats t n i by

-- nobody below n
abbrev pub Nobody : (ℕ → Type 0) → ℕ → Type 0
Nobody P n = (i : ℕ) → i < n → P i → ⊥

pub data Decided (t : Standings) (n : ℕ) : Choice → Type 0 where
  run : {i : ℕ} → First (FitsSomewhere t) t.beats n i → Decided t n (Run i (placement t i))
  stop : {i : ℕ} → Nobody (FitsSomewhere t) n → First (Loses t n) (λ k j. t.beats j k) n i → Decided t n (Preempt i (t.on i))
  rest : Nobody (FitsSomewhere t) n → Nobody (Loses t n) n → Decided t n Rest
