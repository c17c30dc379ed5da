-- Lists of calls in the page's words are those of demand 3: what fits its types, weights and clocks. Assumes nothing.
use Rattle.std.specs.Prelude.{Option, None, Some}
use Rattle.std.specs.Option.{option_or}
use Prim.Native.Nat.{ℕ}
use mathlib.Core.Bool.{cond}
use mathlib.Core.List.{List, [], ◌∷◌}
use mathlib.Core.Path.{◌≡◌, refl, sym, ◌∙◌, ap, ap₂, subst}
use mathlib.Core.Logic.Iff
use mathlib.Core.Logic.{◌↔◌}
use native.Mathlib.Omega.{arith}
use Rattle.policy.specs.Accounts.{in_shape}
use Rattle.host.specs.declared.Host.{Host}
use Rattle.calls.specs.declared.Request.{Request}
use Rattle.calls.specs.declared.Call.{Call}
use Rattle.host.specs.Step as host
use Rattle.calls.specs.Typed as typed
use Rattle.demand3.specs.ServiceMachine.{service_machine}
use Rattle.demand3.specs.Lists as lists
use Rattle.demand3.specs.Weights as weights
use Rattle.page.specs.Steps as steps
use Rattle.page.specs.Lists as page
use Rattle.page.specs.DatedMoves.{request_clock, clock_of, Forward, done, timed, untimed, refused}
use Rattle.page.proofs.Steps.{step_is}

-- ---- a call

abbrev pub clocked : lists.Clock → Option ℕ
clocked lists.none = None
clocked (lists.at t) = Some t

pub same-clock : (c e : lists.Clock) → clocked c ≡ clocked e → c ≡ e
same-clock lists.none lists.none x = refl
same-clock lists.none (lists.at t) x = absurd (let z : ◌≡◌ {A = ℕ} 0 1 = cc in omega arith)
same-clock (lists.at s) lists.none x = absurd (let z : ◌≡◌ {A = ℕ} 0 1 = cc in omega arith)
same-clock (lists.at s) (lists.at t) x = let y : s ≡ t = cc in ap lists.at y

-- what a call carries, and what it makes of a weight
pub record SameCall (c : Call) : Type 0 where
  pub typed : page.Typed c ↔ typed.Typed c
  pub weighs : (d v w : ℕ) → weights.weight_by d v w c ≡ page.weight_by d v w c
  pub clock : clocked (lists.clock_of c) ≡ clock_of c
  pub advance : clocked (lists.advance_clock c) ≡ page.advance_clock c

same_typed : (q : Request) → page.TypedRequest q ↔ typed.TypedRequest q
same_typed Request.Admit = Iff.rfl
same_typed (Request.Run p now) = Iff.rfl
same_typed (Request.Preempt now) = Iff.rfl
same_typed (Request.Block now) = Iff.rfl
same_typed Request.Wake = Iff.rfl
same_typed (Request.SetAffinity m) = Iff.rfl
same_typed (Request.Offline now) = Iff.rfl

same_request_clock : (q : Request) → clocked (lists.request_clock q) ≡ request_clock q
same_request_clock Request.Admit = refl
same_request_clock (Request.Run p now) = refl
same_request_clock (Request.Preempt now) = refl
same_request_clock (Request.Block now) = refl
same_request_clock Request.Wake = refl
same_request_clock (Request.SetAffinity m) = refl
same_request_clock (Request.Offline now) = refl

pub same-call : (c : Call) → SameCall c
same-call (Call.Ask d v q) =
    record {
      typed = (λ t. (t.0, t.1, (same_typed q).0 t.2), λ t. (t.0, t.1, (same_typed q).1 t.2));
      weighs = λ e u w. refl;
      clock = same_request_clock q;
      advance = refl;
    }
same-call (Call.OfflineAll d now) = record { typed = Iff.rfl; weighs = λ e u w. refl; clock = refl; advance = refl }
same-call (Call.SetWeight d v w) = record { typed = Iff.rfl; weighs = λ e u w. refl; clock = refl; advance = refl }
same-call (Call.SetWakeBoost on) = record { typed = Iff.rfl; weighs = λ e u w. refl; clock = refl; advance = refl }
same-call (Call.Advance now) = record { typed = Iff.rfl; weighs = λ e u w. refl; clock = refl; advance = refl }

-- ---- a list

pub all_typed : (cs : List Call) → page.AllTyped cs ↔ lists.AllTyped cs
all_typed [] = Iff.rfl
all_typed (c ∷ cs) = Iff.and (same-call c).typed (all_typed cs)

weight-from-is : (d v w : ℕ) (cs : List Call) → weights.weight_through d v w cs ≡ page.weight_from d v w cs
unfolding weights.weight_through page.weight_from
weight-from-is d v w [] = refl
weight-from-is d v w (c ∷ cs) =
    weight-from-is d v (weights.weight_by d v w c) cs ∙ ap (λ (x : ℕ). page.weight_from d v x cs) ((same-call c).weighs d v w)

pub weight-after-is : (f : page.Fresh) (cs : List Call) (d v : ℕ)
    → weights.weight_after f.domains f.vcpus cs d v ≡ page.weight_after f cs d v
weight-after-is f cs d v = ap (λ (w : ℕ). cond (in_shape f.domains f.vcpus d v) w 256) (weight-from-is d v 256 cs)

pub latest-is : (cs : List Call) → clocked (lists.latest cs) ≡ page.latest cs
unfolding lists.latest page.latest
latest-is [] = refl
latest-is (c ∷ cs) = or_is (lists.latest cs) (lists.advance_clock c) ∙ ap₂ option_or (latest-is cs) (same-call c).advance
  where
    or_is : (x y : lists.Clock) → clocked (lists.or_earlier x y) ≡ option_or (clocked x) (clocked y)
    or_is lists.none y = refl
    or_is (lists.at t) y = refl

-- ---- a step

-- what holds of the one holds of the other
pub along : {A : Type 0} (P : A → Type 0) {x y : A} → x ≡ y → P x ↔ P y
along P e = (subst P e, subst P (sym e))

-- the clock that a call carries
carries : (x : Call) (c : lists.Clock) → clock_of x ≡ clocked c ↔ lists.clock_of x ≡ c
carries x c = (λ e. same-clock _ c ((same-call x).clock ∙ e), λ e. sym (same-call x).clock ∙ ap clocked e)

-- whatever is done, and whatever is refused
done-is : (h : Host) (c : Call) → (steps.step h c).number ≡ 0 ↔ (host.step h c).number ≡ 0
done-is h c = let x = ap (λ (r : steps.Step). r.number) (step_is h c) in (λ e. x ∙ e, λ e. sym x ∙ e)

pub refused-is : (h : Host) (c : Call) → ((steps.step h c).number ≡ 0 → ⊥) ↔ ((host.step h c).number ≡ 0 → ⊥)
refused-is h c = Iff.not (done-is h c)

-- what holds of the host that the page's step leaves, and of the one that the crates' leaves
pub left_is : (P : Host → Type 0) (h : Host) (c : Call) → P (steps.step h c).host ↔ P (host.step h c).host
left_is P h c = along (λ (r : steps.Step). P r.host) (sym (step_is h c))

-- ---- clocks that do not run back

pub forward : {h : Host} {c c' : ℕ} {cs : List Call} → Forward h c cs c' → lists.Forward service_machine h c cs c'
forward done = lists.done
forward (timed {h} {c} {n} {c'} {x} {cs} e t l r) =
    lists.timed ((done-is h x).0 e) ((carries x (lists.at n)).0 t) l
    ((left_is (λ i. lists.Forward service_machine i n cs c') h x).0 (forward r))
forward (untimed {h} {c} {c'} {x} {cs} t r) =
    lists.untimed ((carries x lists.none).0 t) ((left_is (λ i. lists.Forward service_machine i c cs c') h x).0 (forward r))
forward (refused {h} {c} {c'} {x} {cs} e r) =
    lists.refused ((refused-is h x).0 e) ((left_is (λ i. lists.Forward service_machine i c cs c') h x).0 (forward r))

pub of-forward : {h : Host} {c c' : ℕ} {cs : List Call} → lists.Forward service_machine h c cs c' → Forward h c cs c'
of-forward lists.done = done
of-forward (lists.timed {h} {c} {n} {c'} {x} {cs} e t l r) =
    timed ((done-is h x).1 e) ((carries x (lists.at n)).1 t) l ((left_is (λ i. Forward i n cs c') h x).1 (of-forward r))
of-forward (lists.untimed {h} {c} {c'} {x} {cs} t r) =
    untimed ((carries x lists.none).1 t) ((left_is (λ i. Forward i c cs c') h x).1 (of-forward r))
of-forward (lists.refused {h} {c} {c'} {x} {cs} e r) =
    refused ((refused-is h x).1 e) ((left_is (λ i. Forward i c cs c') h x).1 (of-forward r))
