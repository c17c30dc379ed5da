-- What `next` answers, by the ids that it names. Assumes nothing.
use Rattle.std.specs.Prelude.{Option, None, Some}
use Prim.Native.Nat.{ℕ, ◌*◌, ◌/◌, ◌%◌, ◌^◌, ◌≤◌, ◌<◌}
use mathlib.Core.Bool.{Bool, true, false, cond, ◌&&◌}
use mathlib.Core.Path.{◌≡◌, refl, sym, ◌∙◌, ap, ap₂, subst}
use mathlib.Core.Logic.{◌⊎◌, inl, inr}
use native.Mathlib.Omega.{arith}
use native.Mathlib.Decide.{dec_lt}
use lib.Dec.{ltb}
use borrow.Author.Tests.{ltb-true, lt-ltb}
use Rattle.scans.specs.Booleans.{both, all_two, zero_one}
use Rattle.masks.specs.Masks.{permits}
use Rattle.system.specs.declared.RunState.{RunState}
use Rattle.system.specs.declared.RunState.TheVariants.{Runnable}
use Rattle.system.specs.declared.Occupant.TheVariants.{Idle}
use Rattle.system.specs.declared.System.{System}
use Rattle.system.specs.Reads.{vcpu_at, state_at, vcpu_of, state_in, state_of, occupant_at, permits_in}
use Rattle.system.specs.Slots.{domains, vcpus, pcpus, slot, Present, slot_of}
use Rattle.sched.specs.CanRun.{CanRun}
use Rattle.moves.specs.declared.Choice.TheVariants.{Run}
use Rattle.policy.specs.declared.Scheduler.{Scheduler}
use Rattle.policy.specs.Accounts.{weight_of}
use Rattle.policy.specs.Standing.{weight_at, service_at}
use Rattle.policy.specs.Exact.{Unheld}
use Rattle.rules.specs.ChoiceLaws.{Placeable}
use Rattle.rules.proofs.ChoiceLaws.{choice-preempt}
use Rattle.advance.specs.Least.{run-least, run-earliest}
use Rattle.advance.specs.ServiceRule.{rule_of}
use Rattle.advance.specs.ByIds.{PreemptsThere, MayGo, service_of, NoneHeld, RunsTheLeast}
use Rattle.advance.proofs.Recommendations.{Chosen, chosen-run, chosen-preempt}
use Rattle.system.specs.declared.VirtualCpu.{VirtualCpu}

-- ---- what is read by ids, at the slot

module _ (s : System) where
  -- who is there is read at its slot
  read_at : (d v : ℕ) → d < domains s → v < vcpus s → vcpu_of s d v ≡ Some (vcpu_at s (slot d v))
  unfolding vcpu_of
  read_at d v l m = rw (lt-ltb d (domains s) l, lt-ltb v (vcpus s) m)

  state-at : (i : ℕ) → Present s i → state_of s (i / 8) (i % 8) ≡ Some (state_at s i)
  state-at i h =
      ap state_in (read_at (i / 8) (i % 8) h.domain h.vcpu) ∙ ap (λ (j : ℕ). Some (state_at s j)) (slot_of i)

  -- whose state is read is there
  record There (d v : ℕ) (st : RunState) : Type 0 where
    domain : d < domains s
    vcpu : v < vcpus s
    state : state_at s (slot d v) ≡ st

  there : (d v : ℕ) (st : RunState) → state_of s d v ≡ Some st → There d v st
  unfolding vcpu_of
  there d v st = go (ltb d (domains s)) (ltb v (vcpus s)) refl refl
    where
      go : (a b : Bool) → ltb d (domains s) ≡ a → ltb v (vcpus s) ≡ b
          → state_in (cond (a && b) (Some (vcpu_at s (slot d v))) None) ≡ Some st → There d v st
      go true true x y e =
          let f : state_at s (slot d v) ≡ st = cc in
          record { domain = ltb-true _ _ x; vcpu = ltb-true _ _ y; state = f }
      go true false x y e = absurd (zero_one cc)
      go false b x y e = absurd (zero_one cc)

  -- who may go may be dispatched
  go-can : (d v p : ℕ) → MayGo s d v p → CanRun s (slot d v) p
  go-can d v p g =
      let t = there d v Runnable g.ready in
      let l = t.domain in
      let m = t.vcpu in
      let a = both _ _ g.affine in
      let k = ltb-true p (pcpus s) a.0 in
      record {
        present = record { domain = omega arith; vcpu = omega arith };
        ready = t.state;
        exists = k;
        free = sym (ap (λ (b : Bool). cond b (occupant_at s p) Idle) a.0) ∙ g.free;
        affine = sym (ap (λ (x : Option VirtualCpu). permits_in x p) (read_at d v l m)) ∙ a.1;
      }

  can-go : (i p : ℕ) → CanRun s i p → MayGo s (i / 8) (i % 8) p
  can-go i p c =
      let k = lt-ltb p (pcpus s) c.exists in
      record {
        ready = state-at i c.present ∙ ap Some c.ready;
        free = ap (λ (b : Bool). cond b (occupant_at s p) Idle) k ∙ c.free;
        affine =
            all_two k
            (ap (λ (x : Option VirtualCpu). permits_in x p) (read_at (i / 8) (i % 8) c.present.domain c.present.vcpu)
            ∙ (ap (λ (j : ℕ). permits (vcpu_at s j).affinity p) (slot_of i) ∙ c.affine));
      }

-- ---- the answers

pub next-preempts : PreemptsThere
next-preempts s π now d v p e =
    let x = chosen-preempt s π now d v p e in
    let c = choice-preempt s (rule_of π) now (slot d v) p x.is in
    ap₂ (state_of s) (sym x.domain) (sym x.vcpu) ∙ (state-at s (slot d v) c.present ∙ ap Some c.on)

module _ (s : System) (π : Scheduler) (now : ℕ) where
  unheld : NoneHeld s π now → Unheld s π now (Placeable s (rule_of π) now)
  unheld N =
      record {
        products = λ i j n a b.
            subst (λ (k : ℕ). service_at s π now k * weight_at π j < 2 ^ 128) (slot_of i)
            (N.products (i / 8) (i % 8) a.onto (j / 8) (j % 8) b.onto (can-go s i _ a.can) (can-go s j _ b.can)
            (λ f. n (sym (slot_of i) ∙ (ap₂ slot f.0 f.1 ∙ slot_of j))));
      }

  weight-at : (e u : ℕ) → u < 8 → weight_at π (slot e u) ≡ weight_of π e u
  weight-at e u l = ap₂ (weight_of π) (omega arith) (omega arith)

pub next-least : RunsTheLeast
next-least s π now N d v p e = record { least = least; first = first }
  where
    x : Chosen s π now d v (Run (slot d v) p)
    x = chosen-run s π now d v p e

    -- the products by slots are those by ids
    by-ids : (e u q : ℕ) → MayGo s e u q → (R : ℕ → ℕ → Type 0)
        → R (service_of s π now d v * weight_at π (slot e u)) (service_of s π now e u * weight_at π (slot d v))
        → R (service_of s π now d v * weight_of π e u) (service_of s π now e u * weight_of π d v)
    by-ids e u q g R r =
        let m = (there s e u Runnable g.ready).vcpu in
        subst (λ (w : ℕ). R (service_of s π now d v * w) (service_of s π now e u * weight_of π d v)) (weight-at s π now e u (omega arith))
        (subst (λ (w : ℕ). R (service_of s π now d v * weight_at π (slot e u)) (service_of s π now e u * w))
        (ap₂ (weight_of π) x.domain x.vcpu) r)

    least : (e u q : ℕ) → MayGo s e u q → service_of s π now d v * weight_of π e u ≤ service_of s π now e u * weight_of π d v
    least e u q g = by-ids e u q g ◌≤◌ (run-least s π now (unheld s π now N) (slot d v) p (slot e u) q x.is (go-can s e u q g))

    first : (e u q : ℕ) → MayGo s e u q → service_of s π now d v * weight_of π e u ≡ service_of s π now e u * weight_of π d v
        → (d < e) ⊎ ((d ≡ e) × (v ≤ u))
    first e u q g f = go (dec_lt (slot e u) (slot d v)) (dec_lt d e)
      where
        go : Dec (slot e u < slot d v) → Dec (d < e) → (d < e) ⊎ ((d ≡ e) × (v ≤ u))
        go (yes l) b =
            absurd
            (omega (
              arith,
              f,
              by-ids e u q g ◌<◌ (run-earliest s π now (unheld s π now N) (slot d v) p (slot e u) q x.is (go-can s e u q g) l),
            ))
        go (no n) (yes l) = inl l
        go (no n) (no m) =
            let y = (there s e u Runnable g.ready).vcpu in
            inr (omega arith, omega arith)
