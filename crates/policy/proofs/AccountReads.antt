-- What the code reads at a slot is the account there. Assumes nothing.
use Prim.Native.Nat.{ℕ, zero, suc, ◌/◌, ◌%◌, ◌<◌}
use mathlib.Core.Bool.{true, false}
use mathlib.Core.Path.{◌≡◌, refl}
use mathlib.Core.List.{List, [], ◌∷◌}
use native.Mathlib.Omega.{arith}
use lib.ListN.{length, get_or}
use Rattle.system.specs.Slots.{slot}
use Rattle.policy.specs.declared.Account.{Account}
use Rattle.policy.specs.declared.Scheduler.{Scheduler}
use Rattle.policy.specs.Accounts.{Tabled, blank_account, account_at, covers, account_of}

-- an element that is there does not depend on what is read past the end
any_default : (l : List Account) (i : ℕ) (a b : Account) → i < length l → get_or l i a ≡ get_or l i b
any_default [] i a b h = absurd (omega arith)
any_default (x ∷ l) zero a b h = refl
any_default (x ∷ l) (suc i) a b h = any_default l i a b (omega arith)

-- what the code reads past the end
abbrev pub zeros : Account
zeros = record { weight = 0; offset = []; was_schedulable = false }

module _ (π : Scheduler) (L : Tabled π) (i : ℕ) (h : i < 128) where
  pub stored : get_or π.accounts i zeros ≡ account_at π i
  unfolding account_at
  stored = any_default π.accounts i zeros blank_account (omega (arith, L.accounts))

-- one in the shape is looked up at its slot
pub covered_at : (π : Scheduler) (i : ℕ) → covers π (i / 8) (i % 8) ≡ true → account_of π (i / 8) (i % 8) ≡ account_at π i
unfolding account_of
covered_at π i c = let x : slot (i / 8) (i % 8) ≡ i = omega arith in rw (c, x)
