-- What every draw keeps, a call keeps: the 64 bits, and a state that is not 0. Assumes nothing.
use Prim.Native.Nat.{ℕ, ◌^◌, ◌<◌}
use mathlib.Core.Bool.{Bool, true, false}
use Rattle.generator.specs.Xorshift.{after, state_if}
use Rattle.generator.proofs.Laws.{after-below, after-nonzero}
use Rattle.load_calls.specs.Calls.{draws_id, draws_last, after_vcpu, state_drawn, called}

module _ (P : ℕ → Type 0) (kept : (y : ℕ) → P y → P (after y)) where
  kept_if : (wanted : Bool) (y : ℕ) → P y → P (state_if wanted y)
  kept_if true y p = kept y p
  kept_if false y p = p

  kept-ids : (d v x : ℕ) → P x → P (after_vcpu d v x)
  kept-ids d v x p = kept_if (draws_id (after x) v) _ (kept_if (draws_id (after x) d) _ (kept x p))

  kept-call : (d v x t : ℕ) → P x → P (called d v x t).state
  unfolding called state_drawn
  kept-call d v x t p = kept_if (draws_last (after x)) _ (kept-ids d v x p)

abbrev Below : ℕ → Type 0
Below y = y < 2 ^ 64

abbrev Live : ℕ → Type 0
Live y = Below y × (0 < y)

-- before the last number
pub ids-below : (d v x : ℕ) → x < 2 ^ 64 → after_vcpu d v x < 2 ^ 64
ids-below = kept-ids Below after-below

module _ (d v x t : ℕ) (l : x < 2 ^ 64) where
  pub state-below : (called d v x t).state < 2 ^ 64
  state-below = kept-call Below after-below d v x t l

  pub state-nonzero : 0 < x → 0 < (called d v x t).state
  state-nonzero h = (kept-call Live (λ y p. (after-below y p.0, after-nonzero y p.0 p.1)) d v x t (l, h)).1
