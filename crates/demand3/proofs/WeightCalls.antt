-- Along any list of calls the weights looked up are those that its weight calls leave. Assumes nothing.
use Prim.Native.Nat.{ℕ, ◌/◌, ◌%◌, max}
use mathlib.Core.Bool.{Bool, true, false, cond, ◌&&◌}
use mathlib.Core.Path.{◌≡◌, refl, sym, ◌∙◌, ap, ap₂, subst, subst₂}
use mathlib.Core.List.{List, [], ◌∷◌}
use native.Mathlib.Omega.{arith}
use lib.Dec.{eqb}
use Rattle.system.specs.declared.System.{System}
use Rattle.system.specs.Slots.{slot}
use Rattle.policy.specs.declared.Scheduler.{Scheduler}
use Rattle.policy.specs.Accounts.{default_weight, in_shape, covers, weight_of, set_weight, set_wake_boost}
use Rattle.policy.specs.Accounting.{accounted}
use Rattle.policy.proofs.Laws.{Tabled, covers_below, defaults, set-weighed, set-weight-tabled, cleared}
use Rattle.policy.proofs.Laws.{cleared-tabled, accounted-renewal}
use Rattle.host.specs.declared.Host.{Host}
use Rattle.calls.specs.declared.Call.{Call}
use Rattle.host.specs.Step.{step}
use Rattle.demand3.specs.ServiceMachine.{service_machine}
use Rattle.demand3.specs.Lists.{entry_of, after_all}
use Rattle.demand3.specs.Book.{Book, Shape}
use Rattle.demand3.specs.Weights.{weight_by, weight_through}
use Rattle.demand3.proofs.EveryCall.{Kept, step-goes}
use Rattle.demand3.proofs.ServiceMachine.{advance-traced, service_lawful}
use Rattle.demand3.proofs.SetWeight.{set-weight}

-- a policy of e domains of u vCPUs whose weights are w in its shape
pub record Weighs (e u : ℕ) (w : ℕ → ℕ → ℕ) (π : Scheduler) : Type 0 where
  pub tabled : Tabled π
  pub domains : π.domain_count ≡ e
  pub vcpus : π.vcpus_per_domain ≡ u
  pub covered : (d v : ℕ) → covers π d v ≡ true → weight_of π d v ≡ w d v

-- so that all are known: outside the shape it is the default
pub weighs-all : {e u : ℕ} {w : ℕ → ℕ → ℕ} {π : Scheduler} → Weighs e u w π → (d v : ℕ)
    → weight_of π d v ≡ cond (in_shape e u d v) (w d v) default_weight
weighs-all {e} {u} {w} {π} W d v = go (covers π d v) refl
  where
    same : covers π d v ≡ in_shape e u d v
    same = ap₂ (λ (m n : ℕ). in_shape m n d v) W.domains W.vcpus

    go : (b : Bool) → covers π d v ≡ b → weight_of π d v ≡ cond (in_shape e u d v) (w d v) default_weight
    go true c = rw (sym same ∙ c) (W.covered d v c)
    go false c = rw (sym same ∙ c) (defaults.outside-weight π d v c)

-- a policy of the same shape, with weights w'
reweighed : {e u : ℕ} {w : ℕ → ℕ → ℕ} {π ρ : Scheduler} (w' : ℕ → ℕ → ℕ) → Weighs e u w π → Tabled ρ
    → ρ.domain_count ≡ π.domain_count → ρ.vcpus_per_domain ≡ π.vcpus_per_domain
    → ((d v : ℕ) → covers π d v ≡ true → weight_of ρ d v ≡ w' d v) → Weighs e u w' ρ
reweighed w' W t m n f =
    record {
      tabled = t;
      domains = m ∙ W.domains;
      vcpus = n ∙ W.vcpus;
      covered = λ d v c. f d v (sym (ap₂ (λ (x y : ℕ). in_shape x y d v) m n) ∙ c);
    }

-- ---- the calls of the policy

module _ {e u : ℕ} {w : ℕ → ℕ → ℕ} {π : Scheduler} (W : Weighs e u w π) where
  set-weighs : (d v x : ℕ) → Weighs e u (λ d' v'. weight_by d' v' (w d' v') (Call.SetWeight d v x)) (set_weight π d v x)
  set-weighs d v x =
      let r = (set-weighed π W.tabled d v x).same in
      reweighed _ W (set-weight-tabled π W.tabled d v x) r.domains r.vcpus
      (λ d' v' c. set-weight π W.tabled d v x d' v' c ∙ ap (cond (eqb d d' && eqb v v') (max x 1)) (W.covered d' v' c))

  boost-weighs : (on : Bool) → Weighs e u w (set_wake_boost π on)
  boost-weighs on =
      let r = cleared π on in
      reweighed w W (cleared-tabled π W.tabled on) r.domains r.vcpus (λ d v c. r.weight d v ∙ W.covered d v c)

  account-weighs : (s : System) (now : ℕ) → Weighs e u w (accounted s π now)
  account-weighs s now =
      let r = (accounted-renewal s π W.tabled now 0).same in
      reweighed w W (record { accounts = r.tabled ∙ W.tabled.accounts }) r.domains r.vcpus (λ d v c. kept d v c ∙ W.covered d v c)
    where
      kept : (d v : ℕ) → covers π d v ≡ true → weight_of (accounted s π now) d v ≡ weight_of π d v
      kept d v c =
          let l = (covers_below π d v c).1 in
          let x : slot d v / 8 ≡ d = omega arith in
          let y : slot d v % 8 ≡ v = omega arith in
          subst₂ (λ (m n : ℕ). weight_of (accounted s π now) m n ≡ weight_of π m n) x y (accounted-renewal s π W.tabled now (slot d v)).weight

-- ---- along a list

step-weighs : {k : Shape} {b : Book} {h : Host} {e u : ℕ} {w : ℕ → ℕ → ℕ} (c : Call) → Kept service_machine k b h
    → Weighs e u w h.scheduler → Weighs e u (λ d v. weight_by d v (w d v) c) (step h c).host.scheduler
unfolding step
step-weighs (Call.Ask d v q) K W = W
step-weighs (Call.OfflineAll d now) K W = W
step-weighs (Call.SetWeight d v x) K W = set-weighs W d v x
step-weighs (Call.SetWakeBoost on) K W = boost-weighs W on
step-weighs {h = h} {e = e} {u = u} {w = w} (Call.Advance now) K W =
    subst (Weighs e u w) (sym (advance-traced h now K.in_step.sound).policy) (account-weighs W h.system now)

pub after-weighs : {k : Shape} {b : Book} {e u : ℕ} {w : ℕ → ℕ → ℕ} (cs : List Call) (h : Host)
    → Kept service_machine k b h → Weighs e u w h.scheduler
    → Weighs e u (λ d v. weight_through d v (w d v) cs) (after_all service_machine h cs).scheduler
unfolding after_all weight_through
after-weighs [] h K W = W
after-weighs {k = k} {b = b} (c ∷ cs) h K W =
    after-weighs {b = (entry_of service_machine k h b c).book} cs _ (step-goes service_lawful c K).kept (step-weighs c K W)
