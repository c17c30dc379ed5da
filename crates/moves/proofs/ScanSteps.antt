-- One turn of a loop is one step of its scan, in either order. Assumes nothing.
use Prim.Native.Nat.{ℕ, suc}
use mathlib.Core.Bool.{Bool, true, false, cond, true≢false}
use mathlib.Core.Path.{◌≡◌, refl, sym, ◌∙◌}
use mathlib.Core.List.{List}
use Rattle.std.specs.Prelude.{Option, Some, None}
use Rattle.moves.specs.declared.Leader.{Leader}
use Rattle.moves.specs.declared.Row.{Row}
use Rattle.scans.specs.Scan.{at, scan}
use Rattle.moves.specs.Table.{tabled}
use Rattle.moves.specs.Leads.{ahead, before, Stands, Leads}

-- one that does not pass changes nothing
pub passes : (c : ℕ → Bool) (b : ℕ → ℕ → Bool) (k : ℕ) → c k ≡ false → scan c b (suc k) ≡ scan c b k
unfolding scan
passes c b k e = rw e

pub keeps : (t : List Row) (on : ℕ → ℕ) (o : Option Leader) (c : ℕ → Bool) (b : ℕ → ℕ → Bool) (k : ℕ) → c k ≡ false
    → Leads t on (scan c b k) o → Leads t on (scan c b (suc k)) o
keeps t on o c b k e lead = rw (passes c b k e) lead

-- two leaders are as their slots are
pub ahead-beats : (t : List Row) (idle : ℕ) {on : ℕ → ℕ} (x y : Leader) → Stands t on x → Stands t on y
    → ahead x y ≡ (tabled t idle).beats x.at y.at
unfolding tabled
ahead-beats t idle x y h k = cc

-- f says of leaders what b says of their slots
module _ {t : List Row} {on : ℕ → ℕ} (c : ℕ → Bool) (b : ℕ → ℕ → Bool) (f : Leader → Leader → Bool)
    (agrees : (x y : Leader) → Stands t on x → Stands t on y → f x y ≡ b x.at y.at) where
  -- next takes the lead
  pub takes : (o : Option Leader) (next : Leader) → Stands t on next → Leads t on (scan c b next.at) o
      → c next.at ≡ true → before f next o ≡ true → Leads t on (scan c b (suc next.at)) (Some next)
  unfolding scan
  takes None next h e p o = (rw (p, e), h)
  takes (Some l) next h (r, k) p o = (rw (p, r, sym (agrees next l h k) ∙ o), h)

  -- the leader stays, whether next passes or not
  pub stays : (o : Option Leader) (next : Leader) → Stands t on next → Leads t on (scan c b next.at) o
      → before f next o ≡ false → Leads t on (scan c b (suc next.at)) o
  unfolding scan
  stays None next h e o = absurd (true≢false o)
  stays (Some l) next h (r, k) o = (rw (r, sym (agrees next l h k) ∙ o) (same (c next.at)), k)
    where
      same : (t : Bool) → cond t (at l.at) (at l.at) ≡ at l.at
      same true = refl
      same false = refl
