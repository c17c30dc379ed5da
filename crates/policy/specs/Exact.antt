-- Where no product that ranks two of them is held, vCPUs are ranked by exact service over weight. Assumes nothing.
use Rattle.std.specs.Prelude.{ℕ, ◌*◌, ◌^◌, ◌≤◌, ◌<◌, true, false, ◌≢◌, ◌≡◌}
use Rattle.std.proofs.Math.Path.{sym}
use Rattle.std.proofs.Common.{◌∙◌, subst, le_refl, arith}
use Rattle.std.proofs.Math.Decide.{ℕ_discrete}
use Rattle.std.proofs.Math.Dec.{ltb}
use borrow.Author.Tests.{ltb-true, ltb-false, lt-ltb, le-ltb}
use Rattle.service.specs.Laws.{deserving-exact, deserving-irrefl}
use Rattle.service.specs.Fractions.{before-trans, after-trans}
use Rattle.scans.specs.Scan.{Ranks}
use Rattle.system.specs.declared.System.{System}
use Rattle.policy.specs.declared.Scheduler.{Scheduler}
use Rattle.policy.specs.Standing.{weight_at, service_at, deserves}

-- no product that ranks two of those is held; nobody is ranked against itself
pub record Unheld (s : System) (π : Scheduler) (now : ℕ) (P : ℕ → Type 0) : Type 0 where
  pub products : (i j : ℕ) → i ≢ j → P i → P j → service_at s π now i * weight_at π j < 2 ^ 128

-- no weight that is used is 0
pub weight_pos : (π : Scheduler) (i : ℕ) → 0 < weight_at π i
weight_pos π i = omega arith

module _ {s : System} {π : Scheduler} {now : ℕ} {P : ℕ → Type 0} (U : Unheld s π now P) where
  S : ℕ → ℕ
  S = service_at s π now

  w : ℕ → ℕ
  w = weight_at π

  -- the exact comparison decides, also of one against itself, where neither is before
  exact : (i j : ℕ) → P i → P j → deserves s π now i j ≡ ltb (S i * w j) (S j * w i)
  unfolding S w deserves
  exact i j l m = go (ℕ_discrete i j)
    where
      itself : deserves s π now i i ≡ ltb (S i * w i) (S i * w i)
      itself = deserving-irrefl (S i) (w i) ∙ sym (le-ltb _ _ (le_refl (S i * w i)))

      go : Dec (i ≡ j) → deserves s π now i j ≡ ltb (S i * w j) (S j * w i)
      go (yes e) = subst (λ (k : ℕ). deserves s π now i k ≡ ltb (S i * w k) (S k * w i)) e itself
      go (no n) = deserving-exact (S i) (w i) (S j) (w j) (U.products i j n l m) (U.products j i (λ e. n (sym e)) m l)

  -- who deserves more has had less service for its weight
  pub before : (i j : ℕ) → P i → P j → deserves s π now i j ≡ true
      → service_at s π now i * weight_at π j < service_at s π now j * weight_at π i
  unfolding S w
  before i j l m e = ltb-true _ _ (sym (exact i j l m) ∙ e)

  -- and who does not has had no less
  pub not-before : (i j : ℕ) → P i → P j → deserves s π now i j ≡ false
      → service_at s π now j * weight_at π i ≤ service_at s π now i * weight_at π j
  unfolding S w
  not-before i j l m e = ltb-false _ _ (sym (exact i j l m) ∙ e)

  -- so that they are ranked, each against each
  pub unheld-ranks : Ranks P (deserves s π now)
  unfolding S w
  unheld-ranks =
      record {
        irrefl = λ i l. exact i i l l ∙ le-ltb (S i * w i) (S i * w i) (le_refl _);
        trans = λ i j k a b c e f.
            exact i k a c
            ∙ lt-ltb _ _ (before-trans (S i) (w i) (S j) (w j) (S k) (w k) (weight_pos π k) (before i j a b e) (before j k b c f));
        weak = λ i j k a b c e f.
            exact i k a c
            ∙ le-ltb _ _ (after-trans (S i) (w i) (S j) (w j) (S k) (w k) (weight_pos π j) (not-before i j a b e) (not-before j k b c f));
      }
