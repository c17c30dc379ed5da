-- The policy's calls, and systems and policies as built, are the page's. Assumes nothing.
use Prim.Native.Nat.{ℕ}
use mathlib.Core.Bool.{Bool, true, false, cond, ◌&&◌}
use lib.Dec.{leb}
use mathlib.Core.Path.{◌≡◌, refl}
use Rattle.system.specs.Shape as shape
use Rattle.policy.specs.declared.Scheduler.{Scheduler}
use Rattle.policy.specs.Accounts as accounts
use Rattle.policy.specs.Accounts.{account_of, account_at, put_account}
use Rattle.page.specs.Page as calls
use Rattle.page.proofs.Calls.{tell}

pub set-weight-is : (π : Scheduler) (d v w : ℕ) → accounts.set_weight π d v w ≡ calls.set_weight π d v w
unfolding accounts.set_weight calls.set_weight account_of account_at put_account
set-weight-is π d v w = refl

pub set-wake-boost-is : (π : Scheduler) (on : Bool) → accounts.set_wake_boost π on ≡ calls.set_wake_boost π on
unfolding accounts.set_wake_boost calls.set_wake_boost
set-wake-boost-is π on = refl

pub new-system-is : (d v p : ℕ) → shape.fresh d v p ≡ calls.new_system d v p
unfolding shape.fresh calls.new_system
new-system-is d v p = refl

pub new-policy-is : (d v q : ℕ) → accounts.fresh_policy d v q ≡ calls.new_policy d v q
unfolding accounts.fresh_policy calls.new_policy
new-policy-is d v q = refl

pub built-system-is : (d v p : ℕ) → tell (shape.built_system d v p) ≡ calls.new_system_told d v p
unfolding shape.fresh calls.new_system
built-system-is d v p = go (leb d 16 && (leb v 8 && leb p 64))
  where
    go : (b : Bool) → tell (cond b (record { number = 0; system = shape.fresh d v p }) (record { number = 7; system = shape.fresh 0 0 0 }))
        ≡ cond b (calls.done (calls.new_system d v p)) (calls.refused 7 (calls.new_system 0 0 0))
    go true = refl
    go false = refl

abbrev pub tell-policy : accounts.PolicyOutcome → calls.PolicyTold
tell-policy r = record { number = r.number; policy = r.policy }

pub built-policy-is : (d v q : ℕ) → tell-policy (accounts.built_policy d v q) ≡ calls.new_policy_told d v q
unfolding accounts.fresh_policy calls.new_policy
built-policy-is d v q = go (leb d 16 && leb v 8)
  where
    go : (b : Bool)
        → tell-policy (cond b (record { number = 0; policy = accounts.fresh_policy d v q }) (record { number = 7; policy = accounts.fresh_policy 0 0 0 }))
        ≡ cond b (record { number = 0; policy = calls.new_policy d v q }) (record { number = 7; policy = calls.new_policy 0 0 0 })
    go true = refl
    go false = refl
