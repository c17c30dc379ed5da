-- What is looked up after an account was put. Assumes nothing.
use Prim.Native.Nat.{ℕ, ◌<◌, min}
use mathlib.Core.Bool.{Bool, true, false, cond}
use mathlib.Core.Path.{◌≡◌, refl, ap}
use mathlib.Core.Logic.{◌≢◌}
use native.Mathlib.Omega.{arith}
use lib.Dec.{ltb}
use lib.ListN.{set, length-set}
use lib.Seq.{get_or-set_same, get_or-set_other}
use borrow.Author.Tests.{ltb-true}
use Rattle.scans.specs.Booleans.{both}
use Rattle.system.specs.Slots.{slot}
use Rattle.policy.specs.declared.Account.{Account}
use Rattle.policy.specs.declared.Scheduler.{Scheduler}
use Rattle.policy.specs.Accounts.{Tabled, blank_account, plain, account_at, covers, account_of, with_accounts, put_account}
use Rattle.policy.specs.Settings.{SamePolicy}

pub same-covers : {π ρ : Scheduler} → SamePolicy π ρ → (d v : ℕ) → covers ρ d v ≡ covers π d v
same-covers e d v = rw (e.domains, e.vcpus)

-- ids in the shape have a slot of their own
pub covers_below : (π : Scheduler) (d v : ℕ) → covers π d v ≡ true → (d < 16) × (v < 8)
covers_below π d v e =
    let f = both (ltb d (min π.domain_count 16)) (ltb v (min π.vcpus_per_domain 8)) e in
    let x = ltb-true d (min π.domain_count 16) f.0 in
    let y = ltb-true v (min π.vcpus_per_domain 8) f.1 in
    (omega arith, omega arith)

module _ (π : Scheduler) (d v : ℕ) (a : Account) where
  pub put_same : SamePolicy π (put_account π d v a)
  unfolding put_account
  put_same = go (covers π d v)
    where
      go : (b : Bool) → SamePolicy π (cond b (with_accounts π (set π.accounts (slot d v) a)) π)
      go true = record { domains = refl; vcpus = refl; quantum = refl; boost = refl; tabled = length-set π.accounts (slot d v) a }
      go false = record { domains = refl; vcpus = refl; quantum = refl; boost = refl; tabled = refl }

  pub put-here : Tabled π → covers π d v ≡ true → account_of (put_account π d v a) d v ≡ a
  unfolding account_of account_at put_account
  put-here L e =
      let b = covers_below π d v e in
      let m = b.0 in
      let n = b.1 in
      rw (e, e) (get_or-set_same π.accounts (slot d v) a blank_account (omega (arith, L.accounts)))

  pub put-outside : covers π d v ≡ false → put_account π d v a ≡ π
  unfolding put_account
  put-outside e = rw e

  pub put-there : (e u : ℕ) → ((e ≡ d) × (u ≡ v) → ⊥) → account_of (put_account π d v a) e u ≡ account_of π e u
  unfolding account_of account_at put_account
  put-there e u n = go (covers π d v) (covers π e u) refl refl
    where
      other : covers π d v ≡ true → covers π e u ≡ true → slot e u ≢ slot d v
      other h k x = let m = (covers_below π d v h).1 in let l = (covers_below π e u k).1 in n (omega arith, omega arith)

      go : (b c : Bool) → covers π d v ≡ b → covers π e u ≡ c
          → account_of (cond b (with_accounts π (set π.accounts (slot d v) a)) π) e u ≡ account_of π e u
      go true true h k =
          ap (λ (x : Account). cond (covers π e u) x plain)
          (get_or-set_other π.accounts (slot d v) (slot e u) a blank_account (other h k))
      go true false h k = rw k
      go false c h k = refl
