-- The turns of an accounting, and what they leave; where nobody joined the pool or left it, none need be taken. Assumes nothing.
use Prim.Native.Nat.{ℕ, zero, suc, ◌/◌, ◌%◌, ◌≤◌, ◌<◌, max}
use mathlib.Core.Bool.{Bool, true, false, cond, not, ◌&&◌, true≢false}
use mathlib.Core.Path.{◌≡◌, refl, sym, ◌∙◌, ap, ap₂}
use mathlib.Core.List.{List}
use native.Mathlib.Omega.{arith}
use native.Mathlib.Nat.{le_refl}
use lib.ListN.{get_or, set}
use lib.Seq.{set-get_or}
use Rattle.std.specs.Prelude.{Option, None}
use Rattle.scans.specs.Scan.{Pick, nobody, at}
use Rattle.service.specs.Service.{held}
use Rattle.system.specs.declared.System.{System}
use Rattle.system.specs.Reads.{vcpu_at, pooled}
use Rattle.system.specs.Slots.{slot, slots, present}
use Rattle.policy.specs.declared.Account.{Account}
use Rattle.policy.specs.declared.Share.{Share}
use Rattle.policy.specs.declared.Scheduler.{Scheduler}
use Rattle.policy.specs.Accounts.{Tabled, covers, account_of, with_accounts, put_account}
use Rattle.policy.specs.Standing.{weight_at}
use Rattle.policy.specs.Accounting.{floor, lift, lifted, renewed, renew_first, accounted}
use Rattle.policy.specs.OneAccount.{joins, some_join, share_of, placed_at, renewed_at, renew_by}
use Rattle.policy.proofs.AccountReads.{zeros, stored, covered_at}
use Rattle.policy.proofs.AccountPuts.{same-covers, put-outside}
use Rattle.policy.proofs.JoinedLoop.{none-joined}
use Rattle.policy.proofs.FloorLoop.{service-exact}
use Rattle.policy.proofs.RenewalLaws.{renew_same, kept-until}

module _ (π : Scheduler) (i : ℕ) where
  abbrev account : Account
  account = account_of π (i / 8) (i % 8)

  put_at : (a : Account) → covers π (i / 8) (i % 8) ≡ true → put_account π (i / 8) (i % 8) a ≡ with_accounts π (set π.accounts i a)
  unfolding put_account
  put_at a c = let x : slot (i / 8) (i % 8) ≡ i = omega arith in rw (c, x)

  -- what is stored there is the account
  stored-account : Tabled π → i < 128 → covers π (i / 8) (i % 8) ≡ true → get_or π.accounts i zeros ≡ account
  stored-account L h c = stored π L i h ∙ sym (covered_at π i c)

-- ---- the loop over the accounts

module _ (s : System) (π : Scheduler) (f : Option Share) (i : ℕ) (q : Scheduler) (e : q ≡ renew_by s π f i) where
  -- the policy so far, and the account of slot i renewed
  turned : renew_by s π f (suc i) ≡ cond (present s i) (put_account q (i / 8) (i % 8) (renewed_at (vcpu_at s i) (account q i) f)) q
  unfolding renew_by
  turned =
      ap (λ (ρ : Scheduler). cond (present s i) (put_account ρ (i / 8) (i % 8) (renewed_at (vcpu_at s i) (account ρ i) f)) ρ) (sym e)

  -- what the code stores is the next policy
  pub renews : Tabled q → i < 128 → present s i ≡ true → covers q (i / 8) (i % 8) ≡ true
      → with_accounts q (set q.accounts i (renewed_at (vcpu_at s i) (get_or q.accounts i zeros) f)) ≡ renew_by s π f (suc i)
  renews L h p c =
      ap (λ (a : Account). with_accounts q (set q.accounts i (renewed_at (vcpu_at s i) a f))) (stored-account q i L h c)
      ∙ sym (turned ∙ rw p (put_at q i _ c))

  -- a slot outside either shape is passed over
  pub outside-system : present s i ≡ false → q ≡ renew_by s π f (suc i)
  outside-system p = sym (turned ∙ rw p)

  pub outside-policy : covers q (i / 8) (i % 8) ≡ false → q ≡ renew_by s π f (suc i)
  outside-policy c = sym (turned ∙ go (present s i))
    where
      go : (b : Bool) → cond b (put_account q (i / 8) (i % 8) (renewed_at (vcpu_at s i) (account q i) f)) q ≡ q
      go true = put-outside q (i / 8) (i % 8) _ c
      go false = refl

-- ---- what it leaves is the accounting

module _ (s : System) (π : Scheduler) (now : ℕ) where
  -- with that floor an account is renewed as it is to be
  abbrev pub Places : Option Share → Type 0
  Places f = (i : ℕ) → i < slots s → present s i ≡ true → covers π (i / 8) (i % 8) ≡ true
      → renewed_at (vcpu_at s i) (account π i) f ≡ renewed s π now i

  -- with boost on, the floor
  pub places-floor : π.wake_boost ≡ true → Places (share_of s π now (floor s π now))
  unfolding renewed
  places-floor b i l p c =
      ap (λ (o : List ℕ). record { weight = a.weight; offset = o; was_schedulable = pooled s i })
      (ap (λ (o : List ℕ). cond j o a.offset) (go (floor s π now))
      ∙ sym (ap (λ (x : Bool). cond (x && j) (lifted s π now i a.offset (floor s π now)) a.offset) b))
    where
      a : Account
      a = account π i

      j : Bool
      j = joins (vcpu_at s i) a

      go : (r : Pick) → placed_at (share_of s π now r) a (vcpu_at s i).runtime ≡ lifted s π now i a.offset r
      go nobody = refl
      go (at f) =
          let m : max (weight_at π f) 1 ≡ weight_at π f = omega arith in
          ap₂ (λ (x y : ℕ). held (lift x y (weight_at π i) (vcpu_at s i).runtime)) (service-exact s π now f) m

  -- with boost off, or where nobody joined, none
  pub places-nobody : (π.wake_boost && some_join s π (slots s)) ≡ false → Places None
  unfolding renewed
  places-nobody none i l p c =
      ap (λ (o : List ℕ). record { weight = a.weight; offset = o; was_schedulable = pooled s i })
      (go π.wake_boost (some_join s π (slots s)) (joins (vcpu_at s i) a) none
      (λ e. ap (joins (vcpu_at s i)) (covered_at π i c) ∙ none-joined s π (slots s) e i l p))
    where
      a : Account
      a = account π i

      go : (b some j : Bool) → (b && some) ≡ false → (some ≡ false → j ≡ false)
          → cond j a.offset a.offset ≡ cond (b && j) (lifted s π now i a.offset (floor s π now)) a.offset
      go true true j e n = absurd (true≢false e)
      go true false true e n = absurd (true≢false (n refl))
      go true false false e n = refl
      go false some true e n = refl
      go false some false e n = refl

  pub renews-all : Tabled π → (f : Option Share) → Places f → renew_by s π f (slots s) ≡ accounted s π now
  unfolding accounted renew_by renew_first
  renews-all L f places = go (slots s) (le_refl _)
    where
      go : (n : ℕ) → n ≤ slots s → renew_by s π f n ≡ renew_first s π now n
      go zero l = refl
      go (suc n) l = rw (go n (omega arith)) (turn (present s n) (covers π (n / 8) (n % 8)) refl refl)
        where
          ρ : Scheduler
          ρ = renew_first s π now n

          turn : (b c : Bool) → present s n ≡ b → covers π (n / 8) (n % 8) ≡ c
              → cond b (put_account ρ (n / 8) (n % 8) (renewed_at (vcpu_at s n) (account ρ n) f)) ρ
              ≡ cond b (put_account ρ (n / 8) (n % 8) (renewed s π now n)) ρ
          turn true true p c =
              ap (put_account ρ (n / 8) (n % 8))
              (ap (λ (a : Account). renewed_at (vcpu_at s n) a f) (kept-until s π L now n) ∙ places n (omega arith) p c)
          turn true false p c =
              let e = same-covers (renew_same s π now n) (n / 8) (n % 8) ∙ c in
              put-outside ρ (n / 8) (n % 8) _ e ∙ sym (put-outside ρ (n / 8) (n % 8) _ e)
          turn false c p e = refl

-- ---- nobody joined the pool or left it

module _ (s : System) (π : Scheduler) (L : Tabled π) (now : ℕ) where
  -- whoever is in the pool as it was has the account that it had
  renewed-same : (i : ℕ) → pooled s i ≡ (account π i).was_schedulable → renewed s π now i ≡ account π i
  unfolding renewed
  renewed-same i e =
      ap₂ (λ (o : List ℕ) (b : Bool). record { weight = a.weight; offset = o; was_schedulable = b })
      (ap (λ (b : Bool). cond (π.wake_boost && (b && not a.was_schedulable)) new a.offset) e ∙ go π.wake_boost a.was_schedulable) e
    where
      a : Account
      a = account π i

      new : List ℕ
      new = lifted s π now i a.offset (floor s π now)

      go : (b w : Bool) → cond (b && (w && not w)) new a.offset ≡ a.offset
      go true true = refl
      go true false = refl
      go false w = refl

  renewed-first : (n : ℕ) → n ≤ 128 → ((i : ℕ) → i < n → present s i ≡ true → pooled s i ≡ (get_or π.accounts i zeros).was_schedulable)
      → renew_first s π now n ≡ π
  unfolding renew_first
  renewed-first zero h same = refl
  renewed-first (suc n) h same =
      rw (renewed-first n (omega arith) (λ i l. same i (omega arith))) (go (present s n) (covers π (n / 8) (n % 8)) refl refl)
    where
      go : (b c : Bool) → present s n ≡ b → covers π (n / 8) (n % 8) ≡ c
          → cond b (put_account π (n / 8) (n % 8) (renewed s π now n)) π ≡ π
      go true true p c =
          let x = stored-account π n L (omega arith) c in
          let y = renewed-same n (same n (omega arith) p ∙ ap (λ (a : Account). a.was_schedulable) x) in
          put_at π n _ c ∙ ap (λ (a : Account). with_accounts π (set π.accounts n a)) (y ∙ sym x)
          ∙ ap (with_accounts π) (set-get_or π.accounts n zeros)
      go true false p c = put-outside π (n / 8) (n % 8) _ c
      go false c p e = refl

  -- an accounting changes nothing
  pub renews-nothing : ((i : ℕ) → i < slots s → present s i ≡ true → pooled s i ≡ (get_or π.accounts i zeros).was_schedulable)
      → accounted s π now ≡ π
  unfolding accounted
  renews-nothing same = renewed-first (slots s) (omega arith) same
