-- What is looked up where nothing was set, and how it ranks. Assumes nothing.
use Prim.Native.Nat.{ℕ, zero, suc, ◌/◌, ◌%◌}
use mathlib.Core.Bool.{Bool, true, false, cond}
use mathlib.Core.Path.{◌≡◌, refl, ◌∙◌, ap}
use mathlib.Core.List.{List, ◌∷◌}
use native.Mathlib.Omega.{arith}
use lib.ListN.{get_or, set, replicate, get_or-replicate, length-replicate}
use Rattle.service.specs.Service.{more_deserving}
use Rattle.system.specs.declared.System.{System}
use Rattle.system.specs.Slots.{slot}
use Rattle.policy.specs.declared.Account.{Account}
use Rattle.policy.specs.declared.Scheduler.{Scheduler}
use Rattle.policy.specs.Accounts.{Tabled, raised, blank_account, plain, account_at, covers, account_of, used_weight, weight_of}
use Rattle.policy.specs.Accounts.{with_accounts, put_account, with_weight, fresh_policy, set_weight}
use Rattle.policy.specs.Standing.{weight_at, service_at, deserves}
use Rattle.policy.specs.Defaults.{RanksAt, Defaults}
use Rattle.policy.proofs.AccountPuts.{covers_below}
use Rattle.policy.proofs.SettingLaws.{set-weighed}

pub ranks-at : {w : ℕ} {π : Scheduler} {i : ℕ} → weight_at π i ≡ w → (s : System) (now : ℕ) → RanksAt w s π now i
unfolding deserves
ranks-at {w} {π} {i} e s now =
    record {
      before = λ j. ap (λ (x : ℕ). more_deserving (service_at s π now i) x (service_at s π now j) (weight_at π j)) e;
      behind = λ j. ap (λ (x : ℕ). more_deserving (service_at s π now j) (weight_at π j) (service_at s π now i) x) e;
    }

outside-account : (π : Scheduler) (d v : ℕ) → covers π d v ≡ false → account_of π d v ≡ plain
unfolding account_of
outside-account π d v e = rw e

-- ---- a new policy

set-among : (a : Account) (n i : ℕ) → set (replicate n a) i a ≡ replicate n a
set-among a zero i = refl
set-among a (suc n) zero = refl
set-among a (suc n) (suc i) = ap (λ (l : List Account). a ∷ l) (set-among a n i)

module _ (e u q : ℕ) where
  abbrev new : Scheduler
  new = fresh_policy e u q

  pub new-account : (d v : ℕ) → account_of new d v ≡ plain
  unfolding account_of account_at fresh_policy
  new-account d v = go (covers new d v) refl
    where
      go : (b : Bool) → covers new d v ≡ b → cond b (get_or (replicate 128 plain) (slot d v) blank_account) plain ≡ plain
      go true c =
          let x = covers_below new d v c in
          let m = x.0 in
          let n = x.1 in
          get_or-replicate 128 (slot d v) plain blank_account (omega arith)
      go false c = refl

  pub new-tabled : Tabled new
  unfolding fresh_policy
  new-tabled = record { accounts = length-replicate 128 plain }

  put-plain : (d v : ℕ) → put_account new d v plain ≡ new
  unfolding put_account fresh_policy
  put-plain d v = go (covers new d v)
    where
      go : (b : Bool) → cond b (with_accounts new (set new.accounts (slot d v) plain)) new ≡ new
      go true = ap (with_accounts new) (set-among plain 128 (slot d v))
      go false = refl

  set-alike : (d v : ℕ) → set_weight new d v 256 ≡ new
  unfolding set_weight
  set-alike d v = ap (λ (a : Account). put_account new d v (with_weight a (raised 256))) (new-account d v) ∙ put-plain d v

-- ---- the laws

pub defaults : Defaults
defaults =
    record {
      set = λ π L i w c. ranks-at ((set-weighed π L (i / 8) (i % 8) w).weight c);
      new = λ e u q s now i. ranks-at (new-weight e u q (i / 8) (i % 8)) s now;
      outside = λ π i c. ranks-at (outside-weight π (i / 8) (i % 8) c);
      new-weight = new-weight;
      outside-weight = outside-weight;
      set-alike = set-alike;
    }
  where
    new-weight : (e u q d v : ℕ) → weight_of (fresh_policy e u q) d v ≡ 256
    new-weight e u q d v = ap used_weight (new-account e u q d v)

    outside-weight : (π : Scheduler) (d v : ℕ) → covers π d v ≡ false → weight_of π d v ≡ 256
    outside-weight π d v c = ap used_weight (outside-account π d v c)
