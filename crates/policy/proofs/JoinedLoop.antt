-- A turn of the look for whoever joined the pool; where it found nobody, nobody did. Assumes nothing.
use Prim.Native.Nat.{ℕ, zero, suc, ◌<◌}
use mathlib.Core.Bool.{Bool, true, false, ◌&&◌, ◌||◌, true≢false}
use mathlib.Core.Path.{◌≡◌, refl, sym, ◌∙◌, ap}
use native.Mathlib.Decide.{ℕ_discrete}
use native.Mathlib.Omega.{arith}
use lib.ListN.{get_or}
use Rattle.system.specs.declared.System.{System}
use Rattle.system.specs.Reads.{vcpu_at}
use Rattle.system.specs.Slots.{present}
use Rattle.policy.specs.declared.Scheduler.{Scheduler}
use Rattle.policy.specs.Accounts.{Tabled, account_at}
use Rattle.policy.specs.OneAccount.{joins, some_join}
use Rattle.policy.proofs.AccountReads.{zeros, stored}

module _ (s : System) (π : Scheduler) where
  -- where nobody joined, this one did not
  pub none-joined : (n : ℕ) → some_join s π n ≡ false → (i : ℕ) → i < n → present s i ≡ true
      → joins (vcpu_at s i) (account_at π i) ≡ false
  unfolding some_join
  none-joined zero e i l p = absurd (omega arith)
  none-joined (suc n) e i l p = go (present s n && joins (vcpu_at s n) (account_at π n)) refl e (ℕ_discrete i n)
      (λ f o. none-joined n f i o p)
    where
      go : (b : Bool) → (present s n && joins (vcpu_at s n) (account_at π n)) ≡ b → (b || some_join s π n) ≡ false → Dec (i ≡ n)
          → (some_join s π n ≡ false → i < n → joins (vcpu_at s i) (account_at π i) ≡ false)
          → joins (vcpu_at s i) (account_at π i) ≡ false
      go true x e d before = absurd (true≢false e)
      go false x e (yes d) before =
          sym (ap (λ (b : Bool). b && joins (vcpu_at s i) (account_at π i)) p)
          ∙ ap (λ (j : ℕ). present s j && joins (vcpu_at s j) (account_at π j)) d ∙ x
      go false x e (no d) before = before e (omega arith)

  -- whether slot i joined, as the code reads it
  abbrev joined : ℕ → Bool
  joined i = joins (vcpu_at s i) (get_or π.accounts i zeros)

  module _ (L : Tabled π) (i : ℕ) (h : i < 128) (p : present s i ≡ true) where
    joined_is : joined i ≡ joins (vcpu_at s i) (account_at π i)
    joined_is = ap (joins (vcpu_at s i)) (stored π L i h)

    -- one that joined is found
    pub join-found : (n : ℕ) → i < n → joined i ≡ true → true ≡ some_join s π n
    join-found n l e = go (some_join s π n) refl
      where
        go : (b : Bool) → some_join s π n ≡ b → true ≡ b
        go true x = refl
        go false x = sym e ∙ joined_is ∙ none-joined n x i l p

    -- one that did not is passed over
    pub join-turned : joined i ≡ false → some_join s π i ≡ false → some_join s π (suc i) ≡ false
    unfolding some_join
    join-turned e before = rw (p, sym joined_is ∙ e) before

  -- and so is one that is not present
  pub join-absent : (i : ℕ) → present s i ≡ false → some_join s π i ≡ false → some_join s π (suc i) ≡ false
  unfolding some_join
  join-absent i p before = rw p before
