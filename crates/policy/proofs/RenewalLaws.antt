-- What accounting changes and what it keeps. Assumes nothing.
use Prim.Native.Nat.{ℕ, zero, suc, ◌-◌, ◌*◌, ◌/◌, ◌%◌, ◌^◌, min}
use mathlib.Core.Bool.{Bool, true, false, cond, not, ◌&&◌}
use mathlib.Core.Path.{◌≡◌, refl, sym, ◌∙◌, ap, subst}
use mathlib.Core.Logic.{◌≢◌}
use native.Mathlib.Omega.{arith}
use native.Mathlib.Nat.{le_refl, div-le_self}
use native.Mathlib.Decide.{ℕ_discrete}
use lib.Dec.{ltb}
use borrow.Author.Tests.{ltb-true, ltb-false, lt-ltb, le-ltb}
use Rattle.scans.specs.Booleans.{both, all_two}
use Rattle.scans.specs.Scan.{at}
use Rattle.service.specs.Service.{value}
use Rattle.service.specs.Laws.{value-held}
use Rattle.system.specs.declared.System.{System}
use Rattle.system.specs.Reads.{runtime_at, pooled}
use Rattle.system.specs.Slots.{slots, present, is-present, present-is}
use Rattle.policy.specs.declared.Account.{Account}
use Rattle.policy.specs.declared.Scheduler.{Scheduler}
use Rattle.policy.specs.Accounts.{Tabled, covers, account_of, used_weight, offset_of, put_account}
use Rattle.policy.specs.Standing.{weight_at, service_at}
use Rattle.policy.specs.Accounting.{floor, lifted, renewed, renew_first, accounted}
use Rattle.policy.specs.Settings.{SamePolicy}
use Rattle.policy.specs.Renewal.{HasAccount, Joined, Unlifted, boost-off, no_floor, not-joined, Renewal, AccountingLeaves}
use Rattle.policy.proofs.AccountPuts.{same-covers, put_same, put-here, put-outside, put-there}

pub renew_same : (s : System) (π : Scheduler) (now k : ℕ) → SamePolicy π (renew_first s π now k)
unfolding renew_first
renew_same s π now zero = record { domains = refl; vcpus = refl; quantum = refl; boost = refl; tabled = refl }
renew_same s π now (suc k) = go (present s k) (renew_same s π now k)
  where
    join : {a b c : Scheduler} → SamePolicy a b → SamePolicy b c → SamePolicy a c
    join x y =
        record {
          domains = y.domains ∙ x.domains;
          vcpus = y.vcpus ∙ x.vcpus;
          quantum = y.quantum ∙ x.quantum;
          boost = y.boost ∙ x.boost;
          tabled = y.tabled ∙ x.tabled;
        }

    go : (b : Bool) → SamePolicy π (renew_first s π now k)
        → SamePolicy π (cond b (put_account (renew_first s π now k) (k / 8) (k % 8) (renewed s π now k)) (renew_first s π now k))
    go true e = join e (put_same _ (k / 8) (k % 8) _)
    go false e = e

module _ (s : System) (π : Scheduler) (L : Tabled π) (now : ℕ) where
  abbrev up_to : ℕ → Scheduler
  up_to k = renew_first s π now k

  -- slot i is one of the first k, and has an account
  abbrev had : ℕ → ℕ → Bool
  had k i = ltb i k && (present s i && covers π (i / 8) (i % 8))

  abbrev after : ℕ → ℕ → Account
  after k i = cond (had k i) (renewed s π now i) (account_of π (i / 8) (i % 8))

  -- the accounts of the first k slots are renewed, the others are as they were
  renewed-first : (k i : ℕ) → account_of (up_to k) (i / 8) (i % 8) ≡ after k i
  unfolding renew_first
  renewed-first zero i = rw (le-ltb i 0 (omega arith))
  renewed-first (suc k) i = go (ℕ_discrete i k) (renewed-first k i) (renewed-first k k)
    where
      a : Account
      a = renewed s π now k

      put : Scheduler
      put = put_account (up_to k) (k / 8) (k % 8) a

      -- the turn of slot k itself
      here : (b c : Bool) → present s k ≡ b → covers π (k / 8) (k % 8) ≡ c → account_of (up_to k) (k / 8) (k % 8) ≡ account_of π (k / 8) (k % 8)
          → account_of (cond b put (up_to k)) (k / 8) (k % 8) ≡ cond (b && c) a (account_of π (k / 8) (k % 8))
      here true true p e ih =
          put-here (up_to k) (k / 8) (k % 8) a (record { accounts = (renew_same s π now k).tabled ∙ L.accounts })
          (same-covers (renew_same s π now k) (k / 8) (k % 8) ∙ e)
      here true false p e ih =
          ap (λ (ρ : Scheduler). account_of ρ (k / 8) (k % 8))
          (put-outside (up_to k) (k / 8) (k % 8) a (same-covers (renew_same s π now k) (k / 8) (k % 8) ∙ e))
          ∙ ih
      here false c p e ih = ih

      there : i ≢ k → (b : Bool) → account_of (cond b put (up_to k)) (i / 8) (i % 8) ≡ account_of (up_to k) (i / 8) (i % 8)
      there n true = put-there (up_to k) (k / 8) (k % 8) a (i / 8) (i % 8) (λ p. let x = p.0 in let y = p.1 in n (omega arith))
      there n false = refl

      beside : (b : Bool) → ltb i k ≡ b → i ≢ k → b ≡ ltb i (suc k)
      beside true e n = sym (lt-ltb i (suc k) (omega (arith, ltb-true i k e)))
      beside false e n = sym (le-ltb i (suc k) (omega (arith, ltb-false i k e)))

      go : Dec (i ≡ k) → account_of (up_to k) (i / 8) (i % 8) ≡ after k i → account_of (up_to k) (k / 8) (k % 8) ≡ after k k
          → account_of (cond (present s k) put (up_to k)) (i / 8) (i % 8) ≡ after (suc k) i
      go (yes x) ih own =
          subst (λ (j : ℕ). account_of (cond (present s k) put (up_to k)) (j / 8) (j % 8) ≡ after (suc k) j) (sym x)
          (rw (lt-ltb k (suc k) (le_refl _))
          (here (present s k) (covers π (k / 8) (k % 8)) refl refl (own ∙ rw (le-ltb k k (le_refl k)))))
      go (no n) ih own = there n (present s k) ∙ (ih ∙ ap (λ (t : Bool). cond (t && (present s i && covers π (i / 8) (i % 8))) (renewed s π now i) (account_of π (i / 8) (i % 8))) (beside (ltb i k) refl n))

  -- before its own turn an account is as it was
  pub kept-until : (k : ℕ) → account_of (up_to k) (k / 8) (k % 8) ≡ account_of π (k / 8) (k % 8)
  kept-until k = renewed-first k k ∙ rw (le-ltb k k (le_refl k))

  module _ (i : ℕ) where
    abbrev old : Account
    old = account_of π (i / 8) (i % 8)

    -- one that has an account is renewed
    is-renewed : HasAccount s π i → account_of (accounted s π now) (i / 8) (i % 8) ≡ renewed s π now i
    unfolding accounted
    is-renewed h =
        let p = present-is h.present in
        renewed-first (slots s) i ∙ rw (all_two (lt-ltb i (slots s) p.0) (all_two p.1 h.covered))

    had-account : had (slots s) i ≡ true → HasAccount s π i
    had-account e =
        let f = both (ltb i (slots s)) _ e in
        let g = both (present s i) _ f.1 in
        record { present = is-present s i (ltb-true i (slots s) f.0) g.0; covered = g.1 }

    -- one that has none is looked up as before
    is-kept : (HasAccount s π i → ⊥) → account_of (accounted s π now) (i / 8) (i % 8) ≡ old
    unfolding accounted
    is-kept n = renewed-first (slots s) i ∙ go (had (slots s) i) refl
      where
        go : (b : Bool) → had (slots s) i ≡ b → cond b (renewed s π now i) old ≡ old
        go true e = absurd (n (had-account e))
        go false e = refl

    same-weight : weight_at (accounted s π now) i ≡ weight_at π i
    unfolding accounted renewed
    same-weight = ap used_weight (renewed-first (slots s) i) ∙ go (had (slots s) i)
      where
        go : (b : Bool) → used_weight (cond b (renewed s π now i) old) ≡ used_weight old
        go true = refl
        go false = refl

    -- the tests by which `renewed` lifts
    abbrev edge : Bool
    edge = π.wake_boost && (pooled s i && not old.was_schedulable)

    is-lifted : π.wake_boost ≡ true → Joined s π i → (f : ℕ) → floor s π now ≡ at f
        → offset_of (accounted s π now) (i / 8) (i % 8) ≡ min (service_at s π now f * weight_at π i) (2 ^ 128 - 1) / weight_at π f - runtime_at s i
    unfolding renewed
    is-lifted b j f e =
        ap (λ (a : Account). value a.offset) (is-renewed j.account)
        ∙ (ap (λ (t : Bool). value (cond t (lifted s π now i old.offset (floor s π now)) old.offset))
        (all_two b (all_two j.is-pooled (ap not j.was-not)))
        ∙ (ap (λ r. value (lifted s π now i old.offset r)) e
        ∙ (value-held _ ∙ below (service_at s π now f * weight_at π i) (weight_at π f) (runtime_at s i) (2 ^ 128 - 1))))
      where
        -- m stands for the largest number of 128 bits
        below : (x w r m : ℕ) → min (min x m / w - r) m ≡ min x m / w - r
        below x w r m = let h = div-le_self (min x m) w in omega arith

    is-unlifted : Unlifted s π now i → offset_of (accounted s π now) (i / 8) (i % 8) ≡ offset_of π (i / 8) (i % 8)
    unfolding accounted renewed
    is-unlifted u = ap (λ (a : Account). value a.offset) (renewed-first (slots s) i) ∙ go (had (slots s) i) refl u
      where
        stays : Unlifted s π now i → HasAccount s π i → cond edge (lifted s π now i old.offset (floor s π now)) old.offset ≡ old.offset
        stays (boost-off e) h = rw e
        stays (no_floor e) h = rw e (either edge)
          where
            either : (b : Bool) → cond b old.offset old.offset ≡ old.offset
            either true = refl
            either false = refl
        stays (not-joined n) h = beside π.wake_boost (pooled s i) old.was_schedulable refl refl
          where
            beside : (b p w : Bool) → pooled s i ≡ p → old.was_schedulable ≡ w
                → cond (b && (p && not w)) (lifted s π now i old.offset (floor s π now)) old.offset ≡ old.offset
            beside true true false e f = absurd (n (record { account = h; is-pooled = e; was-not = f }))
            beside true true true e f = refl
            beside true false w e f = refl
            beside false p w e f = refl

        go : (b : Bool) → had (slots s) i ≡ b → Unlifted s π now i → value (cond b (renewed s π now i) old).offset ≡ value old.offset
        go true e u = ap value (stays u (had-account e))
        go false e u = refl

    renewal : Renewal s π now i (accounted s π now)
    unfolding accounted renewed
    renewal =
        record {
          renewed = is-renewed;
          kept = is-kept;
          same = renew_same s π now (slots s);
          weight = same-weight;
          snapshot = λ h. ap (λ (a : Account). a.was_schedulable) (is-renewed h);
          lifted = is-lifted;
          unlifted = is-unlifted;
        }

pub accounted-renewal : AccountingLeaves
accounted-renewal = renewal
