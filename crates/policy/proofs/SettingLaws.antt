-- What is looked up after a weight was set, and after offsets were cleared. Assumes nothing.
use Prim.Native.Nat.{ℕ, max}
use mathlib.Core.Bool.{Bool, true, false, cond}
use mathlib.Core.Path.{◌≡◌, refl, ◌∙◌, ap}
use mathlib.Core.Logic.{◌⊎◌, inl, inr}
use mathlib.Core.List.{map}
use native.Mathlib.Decide.{ℕ_discrete}
use native.Mathlib.Omega.{arith}
use lib.ListN.{get_or, length-map, get_or-map}
use Rattle.service.specs.Service.{value}
use Rattle.system.specs.Slots.{slot}
use Rattle.policy.specs.declared.Account.{Account}
use Rattle.policy.specs.declared.Scheduler.{Scheduler}
use Rattle.policy.specs.Accounts.{Tabled, raised, blank_account, plain, account_at, covers, account_of, used_weight, weight_of}
use Rattle.policy.specs.Accounts.{with_weight, set_weight, set_wake_boost, unboosted}
use Rattle.policy.specs.Settings.{Weighed, SetWeightLeaves, SetWakeBoostLeaves}
use Rattle.policy.proofs.AccountPuts.{put_same, put-here, put-outside, put-there}

-- ---- a weight set

module _ (π : Scheduler) (L : Tabled π) (d v w : ℕ) where
  abbrev new : Account
  new = with_weight (account_of π d v) (raised w)

  -- what is looked up keeps whatever of an account its weight does not enter
  kept : {A : Type 0} (f : Account → A) → f new ≡ f (account_of π d v) → (e u : ℕ)
      → f (account_of (set_weight π d v w) e u) ≡ f (account_of π e u)
  unfolding set_weight
  kept f h e u = go (covers π d v) refl (ℕ_discrete e d) (ℕ_discrete u v)
    where
      there : ((e ≡ d) × (u ≡ v) → ⊥) → f (account_of (set_weight π d v w) e u) ≡ f (account_of π e u)
      there n = ap f (put-there π d v new e u n)

      go : (b : Bool) → covers π d v ≡ b → Dec (e ≡ d) → Dec (u ≡ v) → f (account_of (set_weight π d v w) e u) ≡ f (account_of π e u)
      go false c x y = ap (λ (ρ : Scheduler). f (account_of ρ e u)) (put-outside π d v new c)
      go true c (yes x) (yes y) = rw (x, y) (ap f (put-here π d v new L c) ∙ h)
      go true c (no n) y = there (λ p. n p.0)
      go true c (yes x) (no n) = there (λ p. n p.1)

  weighed : Weighed π d v w (set_weight π d v w)
  unfolding set_weight
  weighed =
      record {
        ignored = put-outside π d v new;
        weight = λ c. let e = ap used_weight (put-here π d v new L c) in omega arith;
        others = λ e u n. ap used_weight (put-there π d v new e u n);
        offset = kept (λ (a : Account). value a.offset) refl;
        snapshot = kept (λ (a : Account). a.was_schedulable) refl;
        same = put_same π d v new;
      }

  -- a weight looked up is the new one or the old one
  pub set-weight-either : (e u : ℕ)
      → (weight_of (set_weight π d v w) e u ≡ max w 1) ⊎ (weight_of (set_weight π d v w) e u ≡ weight_of π e u)
  set-weight-either e u = go (covers π d v) refl (ℕ_discrete e d) (ℕ_discrete u v)
    where
      go : (b : Bool) → covers π d v ≡ b → Dec (e ≡ d) → Dec (u ≡ v)
          → (weight_of (set_weight π d v w) e u ≡ max w 1) ⊎ (weight_of (set_weight π d v w) e u ≡ weight_of π e u)
      go false c x y = inr (ap (λ (ρ : Scheduler). weight_of ρ e u) (weighed.ignored c))
      go true c (yes x) (yes y) = inl (rw (x, y) (weighed.weight c))
      go true c (no n) y = inr (weighed.others e u (λ p. n p.0))
      go true c (yes x) (no n) = inr (weighed.others e u (λ p. n p.1))

  pub set-weight-tabled : Tabled (set_weight π d v w)
  set-weight-tabled = record { accounts = weighed.same.tabled ∙ L.accounts }

pub set-weighed : SetWeightLeaves
set-weighed = weighed

-- ---- offsets cleared

cleared-account : (π : Scheduler) (on : Bool) (d v : ℕ) → account_of (set_wake_boost π on) d v ≡ unboosted (account_of π d v)
unfolding account_of account_at set_wake_boost
cleared-account π on d v = go (covers π d v)
  where
    go : (b : Bool) → cond b (get_or (map unboosted π.accounts) (slot d v) blank_account) plain
        ≡ unboosted (cond b (get_or π.accounts (slot d v) blank_account) plain)
    go true = get_or-map unboosted π.accounts (slot d v) blank_account
    go false = refl

pub cleared : SetWakeBoostLeaves
unfolding set_wake_boost value
cleared π on =
    record {
      boost = refl;
      offset = λ d v. ap (λ (a : Account). value a.offset) (cleared-account π on d v);
      weight = λ d v. ap used_weight (cleared-account π on d v);
      snapshot = λ d v. ap (λ (a : Account). a.was_schedulable) (cleared-account π on d v);
      domains = refl;
      vcpus = refl;
      quantum = refl;
    }

pub cleared-tabled : (π : Scheduler) → Tabled π → (on : Bool) → Tabled (set_wake_boost π on)
unfolding set_wake_boost
cleared-tabled π L on = record { accounts = length-map π.accounts unboosted ∙ L.accounts }
