-- A turn of the search for the floor is a step of its scan. Assumes nothing.
use Prim.Native.Nat.{ℕ, suc, ◌+◌, ◌-◌, ◌/◌, ◌%◌, ◌^◌, min}
use mathlib.Core.Bool.{Bool, true, false, cond, ◌&&◌}
use mathlib.Core.Path.{◌≡◌, refl, sym, ◌∙◌, ap, ap₂}
use native.Mathlib.Omega.{arith}
use Rattle.std.specs.Prelude.{List, Option, Some}
use Rattle.service.specs.Service.{value, held, more_deserving}
use Rattle.service.specs.Laws.{value-held, held-sum}
use Rattle.system.specs.declared.System.{System}
use Rattle.system.specs.Reads.{vcpu_at, pooled}
use Rattle.system.specs.Slots.{present}
use Rattle.scans.specs.Scan.{Pick, nobody, at, against, scan}
use Rattle.policy.specs.declared.Account.{Account}
use Rattle.policy.specs.declared.Share.{Share}
use Rattle.policy.specs.declared.Scheduler.{Scheduler}
use Rattle.policy.specs.Accounts.{account_of, was_schedulable}
use Rattle.policy.specs.Standing.{weight_at, service_of, service_by, service_at, deserves}
use Rattle.policy.specs.OneAccount.{undercuts, leader, share_of}

-- the floor of the first n slots
abbrev pub floor_of : System → Scheduler → ℕ → ℕ → Pick
floor_of s π now n = scan (λ i. present s i && (pooled s i && was_schedulable π (i / 8) (i % 8))) (deserves s π now) n

-- a service that is held is held whole
pub service-exact : (s : System) (π : Scheduler) (now i : ℕ) → value (held (service_at s π now i)) ≡ service_at s π now i
unfolding service_by
service-exact s π now i = let e = value-held (service_at s π now i) in omega arith

module _ (s : System) (π : Scheduler) (now i : ℕ) where
  abbrev account : Account
  account = account_of π (i / 8) (i % 8)

  abbrev next : Share
  next = record { service = held (service_of (vcpu_at s i) account now); weight = weight_at π i }

  -- the service that the code holds is the definition's
  as-held : (x : ℕ) → held (min x (2 ^ 128 - 1)) ≡ held x
  as-held x =
      let a : min x (2 ^ 128 - 1) ≡ value (held x) + 0 = omega (arith, value-held x) in
      let b : x + 0 ≡ x = omega arith in
      ap held a ∙ held-sum x 0 ∙ ap held b

  next-is : next ≡ record { service = held (service_at s π now i); weight = weight_at π i }
  unfolding service_by
  next-is = ap (λ (x : List ℕ). record { service = x; weight = weight_at π i }) (sym (as-held _))

  abbrev share : Pick → Option Share
  share = share_of s π now

  -- i against the leader so far
  compared : (r : Pick) → cond (undercuts next (share r)) (Some next) (share r) ≡ share (against (deserves s π now) i r)
  unfolding deserves
  compared nobody = ap Some next-is
  compared (at f) = ap (λ (t : Bool). cond t (Some next) (share (at f))) test ∙ go (deserves s π now i f)
    where
      mine : value next.service ≡ service_at s π now i
      mine = ap (λ (l : Share). value l.service) next-is ∙ service-exact s π now i

      test : undercuts next (share (at f)) ≡ deserves s π now i f
      test = ap₂ (λ (x y : ℕ). more_deserving x (weight_at π i) y (weight_at π f)) mine (service-exact s π now f)

      go : (t : Bool) → cond t (Some next) (share (at f)) ≡ share (cond t (at i) (at f))
      go true = ap Some next-is
      go false = refl

  abbrev before : Pick
  before = floor_of s π now i

  -- one that is present is compared
  pub floor-turned : present s i ≡ true → leader (share before) (vcpu_at s i) account now ≡ share (floor_of s π now (suc i))
  unfolding scan
  floor-turned p = rw p (go (pooled s i && was_schedulable π (i / 8) (i % 8)))
    where
      go : (t : Bool) → cond t (cond (undercuts next (share before)) (Some next) (share before)) (share before)
          ≡ share (cond t (against (deserves s π now) i before) before)
      go true = compared before
      go false = refl

  -- one that is not is passed over
  pub floor-absent : present s i ≡ false → floor_of s π now (suc i) ≡ before
  unfolding scan
  floor-absent p = rw p
