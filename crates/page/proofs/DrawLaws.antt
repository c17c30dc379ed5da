-- A draw, what a call of a load draws, and the record that it makes are the page's, for all numbers. Assumes nothing.
use Prim.Native.Nat.{ℕ, zero, suc, ◌%◌}
use mathlib.Core.Bool.{Bool, true, false, cond, not, ◌&&◌}
use mathlib.Core.List.{List, [], ◌∷◌}
use mathlib.Core.Path.{◌≡◌, refl, sym, ◌∙◌, ap, ap₂}
use native.Mathlib.Omega.{arith}
use lib.Dec.{leb, eqb}
use lib.ListN.{get_or, get_or-map}
use borrow.Author.Tests.{le-leb, ne_eqb}
use Rattle.generator.specs.Xorshift as xorshift
use Rattle.load_calls.specs.declared.Kind.{Kind}
use Rattle.load_calls.specs.declared.Kind.TheVariants.{Admit, Block, Wake, Mask, Advance}
use Rattle.load_calls.specs.declared.Drawn.{Drawn}
use Rattle.load_calls.specs.declared.Called.{Called}
use Rattle.load_calls.specs.Calls as calls
use Rattle.page.specs.Load as page
use Rattle.page.specs.Load.{draw, draw_if, state_if, remainder, later}

pub draw-is : (x : ℕ) → xorshift.after x ≡ draw x
unfolding xorshift.after xorshift.up xorshift.down draw
draw-is x = refl

pub draw_if_is : (b : Bool) (x : ℕ) → xorshift.drawn_if b x ≡ draw_if b x
draw_if_is true x = draw-is x
draw_if_is false x = refl

pub state_if_is : (b : Bool) (x : ℕ) → xorshift.state_if b x ≡ state_if b x
state_if_is true x = draw-is x
state_if_is false x = refl

-- there is one to draw
some_is : (n : ℕ) → not (eqb n 0) ≡ leb 1 n
some_is zero = refl
some_is (suc n) = rw (ne_eqb (suc n) 0 (λ e. omega arith), le-leb 1 (suc n) (omega arith))

remainder_is : (x n : ℕ) → calls.id_of x n ≡ remainder x n
remainder_is x n = go (eqb n 0) ∙ ap (λ (b : Bool). cond b (x % n) 0) (some_is n)
  where
    go : (b : Bool) → cond b 0 (x % n) ≡ cond (not b) (x % n) 0
    go true = refl
    go false = refl

abbrev kinds : List Kind
kinds = Admit ∷ Block ∷ Wake ∷ Mask ∷ []

-- ---- what is drawn
module _ (x : ℕ) where
  -- where a domain can be drawn, and a vCPU, by the kind
  abbrev by_kind : Bool → Bool → Kind → Drawn
  by_kind p q K =
      let kind = xorshift.after x in
      let past = xorshift.state_if (calls.has_ids K && p) kind in
      let end = xorshift.state_if (calls.has_ids K && q) past in
      record {
        numbers =
            record {
              kind = kind;
              dom = xorshift.drawn_if (calls.has_ids K && p) kind;
              vcpu = xorshift.drawn_if (calls.has_ids K && q) past;
              last = xorshift.drawn_if (calls.has_last K) end;
            };
        state = xorshift.state_if (calls.has_last K) end;
      }

  abbrev on_page : Bool → Bool → Drawn
  on_page p q =
      let kind = draw x in
      let past = state_if p kind in
      let end = state_if q past in
      let ids : ℕ → ℕ → Drawn = λ last state. record {
        numbers = record { kind = kind; dom = draw_if p kind; vcpu = draw_if q past; last = last };
        state = state;
      } in
      get_or (ids 0 end ∷ ids (draw end) (draw end) ∷ ids 0 end ∷ ids (draw end) (draw end) ∷ []) (kind % 5)
      (record { numbers = record { kind = kind; dom = 0; vcpu = 0; last = draw kind }; state = draw kind })

  by-kinds : (p q : Bool) → by_kind p q (calls.kind_of (xorshift.after x)) ≡ on_page p q
  unfolding calls.kind_of xorshift.after xorshift.up xorshift.down draw
  by-kinds p q = sym (get_or-map (by_kind p q) kinds (xorshift.after x % 5) Advance) ∙ go p q
    where
      go : (p q : Bool)
          → get_or (by_kind p q Admit ∷ by_kind p q Block ∷ by_kind p q Wake ∷ by_kind p q Mask ∷ [])
          (xorshift.after x % 5) (by_kind p q Advance)
          ≡ on_page p q
      go true true = refl
      go true false = refl
      go false true = refl
      go false false = refl

pub drawn-is : (d v x : ℕ) → calls.drawn d v x ≡ page.drawn d v x
unfolding calls.numbers_drawn calls.state_drawn page.drawn
drawn-is d v x = by-kinds x (not (eqb d 0)) (not (eqb v 0)) ∙ ap₂ (on_page x) (some_is d) (some_is v)

-- ---- the record
module _ (d v t : ℕ) (r : Drawn) where
  abbrev of-kind : Kind → Called
  of-kind K = calls.called_by d v t K r.numbers r.state

  -- on the page, with those ids
  abbrev with-ids : ℕ → ℕ → Called
  with-ids dom vcpu =
      let last = r.numbers.last in
      let now = later t last in
      let made : ℕ → ℕ → ℕ → Called = λ kind value clock. record {
        call = record { kind = kind; dom = dom; vcpu = vcpu; third = 0; value = value };
        state = r.state;
        clock = clock;
      } in
      get_or (made 1 0 t ∷ made 4 now now ∷ made 5 0 t ∷ made 7 last t ∷ []) (r.numbers.kind % 5) (made 9 now now)

  of-kinds : of-kind (calls.kind_of r.numbers.kind)
      ≡ with-ids (remainder r.numbers.dom d) (remainder r.numbers.vcpu v)
  unfolding calls.kind_of calls.later
  of-kinds =
      sym (get_or-map of-kind kinds (r.numbers.kind % 5) Advance)
      ∙ ap₂ with-ids (remainder_is r.numbers.dom d) (remainder_is r.numbers.vcpu v)

pub called_is : (d v x t : ℕ) → calls.called d v x t ≡ page.called d v x t
unfolding calls.called calls.numbers_drawn calls.state_drawn page.called
called_is d v x t =
    ap (λ (r : Drawn). calls.called_by d v t (calls.kind_of r.numbers.kind) r.numbers r.state) (drawn-is d v x)
    ∙ of-kinds d v t (page.drawn d v x)
