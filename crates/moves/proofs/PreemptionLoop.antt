-- One turn of the loop for the least deserving that loses. Assumes nothing.
use Prim.Native.Nat.{ℕ, suc}
use mathlib.Core.Bool.{true, false, and-false}
use mathlib.Core.Path.{◌≡◌, refl}
use mathlib.Core.List.{List}
use Rattle.std.specs.Prelude.{Option, Some}
use Rattle.moves.specs.declared.Leader.{Leader}
use Rattle.moves.specs.declared.Standing.{Standing}
use Rattle.moves.specs.declared.Standing.TheVariants.{Rests, Waits, Expired}
use Rattle.moves.specs.declared.Row.{Row}
use Rattle.scans.specs.Scan.{scan}
use Rattle.moves.specs.Decide.{beaten, loses}
use Rattle.moves.specs.Table.{is_expired, row_at, tabled}
use Rattle.moves.specs.Leads.{ahead, yields_before, StandsExpired, Leads}
use Rattle.moves.proofs.ScanSteps as steps

-- o leads the scan for a victim among n slots, as far as slot i
abbrev pub Leading : List Row → ℕ → ℕ → Option Leader → Type 0
Leading t n i o = let s = tabled t 0 in Leads t s.on (scan (loses s n) (λ k j. s.beats j k) i) o

not-expired : (s : Standing) → ((p : ℕ) → s ≡ Expired p → ⊥) → is_expired s ≡ false
not-expired Rests n = refl
not-expired Waits n = refl
not-expired (Expired p) n = absurd (n p refl)

module _ (t : List Row) (n : ℕ) where
  passes : (i : ℕ) (o : Option Leader) → loses (tabled t 0) n i ≡ false → Leading t n i o → Leading t n (suc i) o
  passes i o = let s = tabled t 0 in steps.keeps _ _ o (loses s n) (λ k j. s.beats j k) i

  -- one that is not expired, or not beaten, changes nothing
  pub skips : (i : ℕ) (o : Option Leader) → ((p : ℕ) → (row_at t i).standing ≡ Expired p → ⊥) → Leading t n i o → Leading t n (suc i) o
  unfolding tabled loses
  skips i o k = passes i o (rw (not-expired (row_at t i).standing k))

  pub unbeaten : (i : ℕ) (o : Option Leader) → beaten (tabled t 0) n i ≡ false → Leading t n i o → Leading t n (suc i) o
  unfolding tabled loses
  unbeaten i o e = passes i o (rw e (and-false (is_expired (row_at t i).standing)))

  -- next is expired
  module _ (o : Option Leader) (next : Leader) (h : StandsExpired t next) (lead : Leading t n next.at o) where
    pub takes : is_expired (row_at t next.at).standing ≡ true → beaten (tabled t 0) n next.at ≡ true
        → yields_before next o ≡ true → Leading t n (suc next.at) (Some next)
    unfolding tabled loses
    takes k e y =
        let s = tabled t 0 in
        steps.takes (loses s n) (λ k j. s.beats j k) (λ x y. ahead y x) (λ x y p q. steps.ahead-beats t 0 y x q p) o next h lead
        (rw (k, e)) y

    pub stays : yields_before next o ≡ false → Leading t n (suc next.at) o
    stays =
        let s = tabled t 0 in
        steps.stays (loses s n) (λ k j. s.beats j k) (λ x y. ahead y x) (λ x y p q. steps.ahead-beats t 0 y x q p) o next h lead
