-- One turn of the loop for the most deserving that can be placed. Assumes nothing.
use Prim.Native.Nat.{ℕ, suc, ◌≤◌, ◌<◌}
use mathlib.Core.Bool.{true, false, ◌&&◌, and-false}
use mathlib.Core.Path.{◌≡◌, sym, ◌∙◌, ap}
use mathlib.Core.List.{List}
use lib.Dec.{ltb}
use borrow.Author.Tests.{lt-ltb, le-ltb}
use Rattle.std.specs.Prelude.{Option, Some}
use Rattle.masks.specs.Masks.{permits, first}
use Rattle.moves.specs.declared.Leader.{Leader}
use Rattle.moves.specs.declared.Row.{Row}
use Rattle.moves.specs.Decide.{first_idle_pcpu_for, placeable, chosen}
use Rattle.moves.specs.BackToLast.{lowest-placement, placement-exists}
use Rattle.moves.specs.Table.{is_waiting, row_at, tabled}
use Rattle.moves.specs.Leads.{ahead, goes_before, Stands, LeadsChosen}
use Rattle.moves.proofs.ScanSteps as steps

module _ (t : List Row) (idle : ℕ) where
  -- a slot can be placed where it waits and some idle pCPU is admitted, wherever it was last
  placeable-is : (i : ℕ) → placeable (tabled t idle) i ≡ (is_waiting (row_at t i).standing && ltb (first_idle_pcpu_for (tabled t idle) i) 64)
  unfolding tabled placeable
  placeable-is i =
      let s = tabled t idle in
      ap (λ u. is_waiting (row_at t i).standing && u) (placement-exists s i ∙ ap (λ (p : ℕ). ltb p 64) (lowest-placement s i))

  -- as the code looks for it
  pub first_for : (i p : ℕ) → p ≡ first (λ q. permits idle q && permits (row_at t i).mask q) 64 → p ≡ first_idle_pcpu_for (tabled t idle) i
  unfolding tabled first_idle_pcpu_for
  first_for i p e = e

  passes : (i : ℕ) (o : Option Leader) → placeable (tabled t idle) i ≡ false → LeadsChosen t idle i o → LeadsChosen t idle (suc i) o
  unfolding chosen
  passes i o = steps.keeps _ _ o (placeable (tabled t idle)) (tabled t idle).beats i

  -- one that does not wait, or has no placement, changes nothing
  pub skips : (i : ℕ) (o : Option Leader) → is_waiting (row_at t i).standing ≡ false → LeadsChosen t idle i o → LeadsChosen t idle (suc i) o
  skips i o k = passes i o (placeable-is i ∙ rw k)

  pub unplaced : (i p : ℕ) (o : Option Leader) → p ≡ first_idle_pcpu_for (tabled t idle) i → 64 ≤ p
      → LeadsChosen t idle i o → LeadsChosen t idle (suc i) o
  unplaced i p o e k =
      let w = is_waiting (row_at t i).standing in
      passes i o (placeable-is i ∙ ap (λ u. w && u) (ap (λ (q : ℕ). ltb q 64) (sym e) ∙ le-ltb p 64 k) ∙ and-false w)

  -- next has a placement
  module _ (o : Option Leader) (next : Leader) (h : Stands t (first_idle_pcpu_for (tabled t idle)) next) (lead : LeadsChosen t idle next.at o) where
    pub takes : is_waiting (row_at t next.at).standing ≡ true → next.pcpu < 64 → goes_before next o ≡ true
        → LeadsChosen t idle (suc next.at) (Some next)
    unfolding chosen
    takes k p e =
        steps.takes (placeable (tabled t idle)) (tabled t idle).beats ahead (steps.ahead-beats t idle) o next h lead
        (placeable-is next.at ∙ rw (k, ← h.placed) (lt-ltb _ _ p)) e

    pub stays : goes_before next o ≡ false → LeadsChosen t idle (suc next.at) o
    unfolding chosen
    stays = steps.stays (placeable (tabled t idle)) (tabled t idle).beats ahead (steps.ahead-beats t idle) o next h lead
