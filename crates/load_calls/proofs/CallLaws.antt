-- The call drawn from a state, in closed form, kind by kind. Assumes nothing.
use Prim.Native.Nat.{ℕ, ◌+◌, ◌%◌}
use mathlib.Core.Bool.{Bool, true, false, cond}
use mathlib.Core.List.{[], ◌∷◌}
use mathlib.Core.Path.{◌≡◌, refl}
use native.Mathlib.Numerals.{add-one}
use lib.Dec.{eqb}
use lib.ListN.{get_or}
use Rattle.generator.specs.Xorshift.{after, after_draws, drawn_if, state_if}
use Rattle.load_calls.specs.declared.Kind.{Kind}
use Rattle.load_calls.specs.declared.Kind.TheVariants.{Admit, Block, Wake, Mask, Advance}
use Rattle.load_calls.specs.declared.Called.{Called}
use Rattle.load_calls.specs.Calls.{kind_of, has_ids, has_last, numbers_drawn, state_drawn, id_of, later, called_by, called}
use Rattle.load_calls.proofs.Ids.{id_undrawn}

-- a call of that kind, domain, vCPU and value, and the state and the clock after it
abbrev made : ℕ → ℕ → ℕ → ℕ → ℕ → ℕ → Called
made kind dom vcpu value state clock =
    record { call = record { kind = kind; dom = dom; vcpu = vcpu; third = 0; value = value }; state = state; clock = clock }

-- how many numbers an id takes: none where there is none to draw
abbrev taken : ℕ → ℕ
taken count = cond (eqb count 0) 0 1

remainder : (n r : ℕ) → n % 5 ≡ r → kind_of n ≡ get_or (Admit ∷ Block ∷ Wake ∷ Mask ∷ []) r Advance
unfolding kind_of
remainder n r e = rw e

next : (i x : ℕ) → after_draws (i + 1) x ≡ after (after_draws i x)
unfolding after_draws
next i x = rw add-one

-- from the state x as the clock was t, where a host has d domains of v vCPUs
module _ (d v x t : ℕ) where
  -- the numbers drawn from x, the first of which stands for the kind
  abbrev number : ℕ → ℕ
  number i = after_draws i x

  abbrev dom_drawn : ℕ
  dom_drawn = id_of (number 2) d

  abbrev vcpu_drawn : ℕ
  vcpu_drawn = id_of (number (2 + taken d)) v

  -- how many the kind and the ids take
  abbrev front : ℕ
  front = 1 + taken d + taken v

  abbrev last : ℕ
  last = number (front + 1)

  -- a call of a kind that has ids
  abbrev with_ids : Kind → Called
  with_ids k =
      called_by d v t k
      (record { kind = number 1; dom = number 2; vcpu = number (2 + taken d); last = drawn_if (has_last k) (number front) })
      (state_if (has_last k) (number front))

  with-ids : (k : Kind) → kind_of (number 1) ≡ k → has_ids k ≡ true → called d v x t ≡ with_ids k
  unfolding called numbers_drawn state_drawn after_draws
  with-ids k e h = go (eqb d 0) (eqb v 0) refl refl
    where
      go : (a b : Bool) → eqb d 0 ≡ a → eqb v 0 ≡ b → called d v x t ≡ with_ids k
      go true true p q = simp (e, h, p, q)
      go true false p q = simp (e, h, p, q)
      go false true p q = simp (e, h, p, q)
      go false false p q = simp (e, h, p, q)

  -- an admit and a wake draw no more, have no value and leave the clock
  pub admit-call : number 1 % 5 ≡ 0 → called d v x t ≡ made 1 dom_drawn vcpu_drawn 0 (number front) t
  admit-call e = with-ids Admit (remainder _ 0 e) refl

  -- a block draws a step, which is added before use
  pub block-call : number 1 % 5 ≡ 1 → called d v x t ≡ made 4 dom_drawn vcpu_drawn (later t last) last (later t last)
  block-call e = rw (next front x) (with-ids Block (remainder _ 1 e) refl)

  pub wake-call : number 1 % 5 ≡ 2 → called d v x t ≡ made 5 dom_drawn vcpu_drawn 0 (number front) t
  wake-call e = with-ids Wake (remainder _ 2 e) refl

  -- a mask draws its value and leaves the clock
  pub mask-call : number 1 % 5 ≡ 3 → called d v x t ≡ made 7 dom_drawn vcpu_drawn last last t
  mask-call e = rw (next front x) (with-ids Mask (remainder _ 3 e) refl)

  -- an advance draws no id, and a step
  pub advance-call : number 1 % 5 ≡ 4 → called d v x t ≡ made 9 0 0 (later t (number 2)) (number 2) (later t (number 2))
  unfolding called numbers_drawn state_drawn after_draws
  advance-call e = rw (remainder (after x) 4 e, id_undrawn d, id_undrawn v)
