-- What the loop of `settle` keeps: what is logged, and then what settling gives from here, is what it gave at the start. Assumes
-- nothing.
use Prim.Native.Nat.{ℕ, ◌+◌, ◌-◌, ◌≤◌, ◌<◌}
use mathlib.Core.Path.{◌≡◌, refl, sym, ◌∙◌, ap}
use mathlib.Core.List.{List, [], ◌∷◌, ◌++◌, append_assoc, append-nil}
use native.Mathlib.Numerals.{add-one}
use native.Mathlib.Omega.{arith}
use lib.ListN.{length, set, length-set}
use Rattle.moves.specs.declared.Choice.{Choice}
use Rattle.moves.specs.declared.Move.{Move}
use Rattle.moves.specs.declared.Row.{Row}
use Rattle.moves.specs.Settling.{choice_of, settled, logged_first}
use Rattle.moves.proofs.Log.{one_more, first-length}

pub record Going (slice n limit : ℕ) (t₀ : List Row) (idle₀ : ℕ) (t : List Row) (log : List Move) (idle count left : ℕ) : Type 0 where
  pub within : count + left ≤ limit
  pub room : length log ≡ 320
  pub same : logged_first log count ++ settled slice n left t idle ≡ settled slice n limit t₀ idle₀

-- all is logged
pub record Logged (moves : List Choice) (log : List Move) (count : ℕ) : Type 0 where
  pub many : count ≡ length moves
  pub each : logged_first log count ≡ moves

module _ {slice n limit : ℕ} {t₀ : List Row} {idle₀ : ℕ} where
  pub starts : (log : List Move) → length log ≡ 320 → Going slice n limit t₀ idle₀ t₀ log idle₀ 0 limit
  starts log h = record { within = omega arith; room = h; same = refl }

  module _ {t : List Row} {log : List Move} {idle count left : ℕ} (G : Going slice n limit t₀ idle₀ t log idle count left) where
    -- one move more
    pub goes_on : (c : Choice) (u : List Row) (rest : ℕ) (m : Move) → 0 < left → limit ≤ 320
        → ((k : ℕ) → settled slice n (k + 1) t idle ≡ c ∷ settled slice n k u rest) → choice_of m ≡ c
        → Going slice n limit t₀ idle₀ u (set log count m) rest (count + 1) (left - 1)
    goes_on c u rest m l h e f =
        let k = left - 1 in
        let w = G.within in
        record {
          within = omega arith;
          room = length-set log count m ∙ G.room;
          same =
              ap (λ cs. cs ++ settled slice n k u rest)
              (ap (logged_first (set log count m)) (add-one count) ∙ one_more log count m (omega (arith, w, G.room)) ∙ ap (λ d. logged_first log count ++ d ∷ []) f)
              ∙ append_assoc (logged_first log count) (c ∷ []) (settled slice n k u rest)
              ∙ ap (λ cs. logged_first log count ++ cs) (sym (e k) ∙ ap (λ (j : ℕ). settled slice n j t idle) (omega arith))
              ∙ G.same;
        }

    -- no move
    pub rests : (u : List Row) (rest : ℕ) → 0 < left → ((k : ℕ) → settled slice n (k + 1) t idle ≡ []) → Going slice n limit t₀ idle₀ u log rest count 0
    unfolding settled
    rests u rest l e =
        let none = ap (λ (j : ℕ). settled slice n j t idle) (let z : left ≡ left - 1 + 1 = omega arith in z) ∙ e (left - 1) in
        record { within = omega arith; room = G.room; same = ap (λ cs. logged_first log count ++ cs) (sym none) ∙ G.same }

    pub ends : left ≤ 0 → limit ≤ 320 → Logged (settled slice n limit t₀ idle₀) log count
    unfolding settled
    ends l h =
        let z : left ≡ 0 = omega arith in
        let none = ap (λ (k : ℕ). settled slice n k t idle) z in
        let all = sym (append-nil (logged_first log count)) ∙ ap (λ cs. logged_first log count ++ cs) (sym none) ∙ G.same in
        record { many = sym (first-length log count (omega (arith, G.within, G.room))) ∙ ap length all; each = all }
