-- What each call of a pool list keeps: no offset is set, and with a slice of 1 or more the lag is bounded up to g
-- after the latest advance. Assumes nothing.
use Prim.Native.Nat.{ℕ, ◌+◌, ◌-◌, ◌/◌, ◌%◌, ◌^◌, ◌≤◌, ◌<◌}
use mathlib.Core.Bool.{Bool, true, false, false≢true}
use mathlib.Core.Path.{◌≡◌, refl, sym, ◌∙◌, ap, subst}
use mathlib.Core.List.{List}
use native.Mathlib.Omega.{arith}
use Rattle.system.specs.declared.VirtualCpu.{VirtualCpu}
use Rattle.system.specs.declared.System.{System}
use Rattle.system.specs.Writes.{Tables, present-back}
use Rattle.system.specs.Slots.{Present, slots}
use Rattle.system.specs.Reads.{runtime_at, pooled}
use Rattle.system.specs.States.{schedulable}
use Rattle.verdict.specs.Sound.{Sound}
use Rattle.sched.specs.Invariants.{Keeps}
use Rattle.moves.specs.declared.Choice.{Choice}
use Rattle.moves.specs.declared.Choice.TheVariants.{Rest}
use Rattle.scans.specs.Scan.{Pick, nobody, at}
use Rattle.policy.specs.declared.Scheduler.{Scheduler}
use Rattle.policy.specs.Accounts.{covers, was_schedulable, set_wake_boost}
use Rattle.policy.specs.Standing.{weight_at}
use Rattle.rules.specs.Choices.{choice}
use Rattle.rules.proofs.Laws.{Trace, trace-keeps, trace-pooled}
use Rattle.policy.specs.Accounting.{floor, accounted}
use Rattle.policy.specs.FloorLaws.{floor-stayed}
use Rattle.policy.specs.Settings.{Cleared}
use Rattle.policy.specs.Renewal.{HasAccount, Unlifted}
use Rattle.policy.specs.Renewal as renewal
use Rattle.policy.proofs.Laws.{Tabled, renew_same, accounted-renewal, cleared, cleared-tabled}
use Rattle.demand3.proofs.Lag.{Lag}
use Rattle.demand3.proofs.LagMoves.{Plain, trace-lag, rest-lag}
use Rattle.advance.specs.ServiceRule.{rule_of}
use Rattle.demand3.proofs.Departures.{Shrinks, shrinks_lag}

-- run times are words
abbrev pub Words : System → Type 0
Words s = (j : ℕ) → runtime_at s j < 2 ^ 64

-- Q + G − 1
abbrev pub slack : Scheduler → ℕ → ℕ
slack π g = π.quantum + g - 1

-- after an advance at clock t
pub record Pooling (g t : ℕ) (s : System) (π : Scheduler) : Type 0 where
  pub bounded : 1 ≤ π.quantum → (r : ℕ) → t ≤ r → r ≤ t + g → Lag (weight_at π) (slack π g) s r
  pub plain : Plain π
  pub tabled : Tabled π
  pub words : Words s
  -- nobody in the pool is new to it
  pub seen : (i : ℕ) → Present s i → pooled s i ≡ true → covers π (i / 8) (i % 8) ≡ true
      → was_schedulable π (i / 8) (i % 8) ≡ true

-- the lag depends on the weights alone
same-weights : {w w' : ℕ → ℕ} {lim now : ℕ} {s : System} → ((i : ℕ) → w i ≡ w' i) → Lag w lim s now → Lag w' lim s now
same-weights {w} {w'} {lim} {now} {s} e L = subst (λ (u : ℕ → ℕ). Lag u lim s now) (λ x i. e i x) L

-- ---- an advance

module _ (s : System) (π : Scheduler) (now g : ℕ) (fit : now < 2 ^ 64) (tb : Tables s) (S : Sound s) (words : Words s)
    (L : Tabled π) where
  abbrev ρ : Scheduler
  ρ = accounted s π now

  same-slice : ρ.quantum ≡ π.quantum
  unfolding accounted
  same-slice = (renew_same s π now (slots s)).quantum

  same_shape : (d v : ℕ) → covers ρ d v ≡ covers π d v
  unfolding accounted
  same_shape d v = let e = renew_same s π now (slots s) in rw (e.domains, e.vcpus)

  tabled' : Tabled ρ
  unfolding accounted
  tabled' = record { accounts = (renew_same s π now (slots s)).tabled ∙ L.accounts }

  -- an advance that sets no offset, on a system where the lag is bounded at its clock, and comes to rest
  settles_pooling : {t : System} {cs : List Choice} → Plain ρ → (1 ≤ π.quantum → Lag (weight_at π) (slack π g) s now)
      → Trace (rule_of ρ) now s cs t → (1 ≤ π.quantum → choice t (rule_of ρ) now ≡ Rest) → Pooling g now t ρ
  settles_pooling {t} P lag tr e =
      let k = trace-keeps tr tb S in
      record {
        bounded = λ q r lo up.
            let l : 1 ≤ π.quantum = omega (arith, same-slice) in
            let here =
            same-weights (λ i. sym (accounted-renewal s π L now i).weight)
            (subst (λ (q : ℕ). Lag (weight_at π) (q + g - 1) s now) (sym same-slice) (lag l)) in
            rest-lag ρ P (slack ρ g) t now g r fit (k.times words).word k.sound (trace-lag ρ P (slack ρ g) tr fit words tb S here) (e l)
            (omega arith) (omega arith) lo up;
        plain = P;
        tabled = tabled';
        words = (k.times words).word;
        seen = λ i h p c.
            let a : HasAccount s π i = record { present = present-back k.shape h; covered = sym (same_shape (i / 8) (i % 8)) ∙ c } in
            (accounted-renewal s π L now i).snapshot a ∙ (sym (trace-pooled tr tb S i) ∙ p);
      }

  unlifted : Plain π → ((i : ℕ) → Unlifted s π now i) → Plain ρ
  unlifted P f =
      record {
        offsets = λ i. (accounted-renewal s π L now i).unlifted (f i) ∙ P.offsets i;
        weights = λ i. omega (arith, (accounted-renewal s π L now i).weight, P.weights i);
      }

-- the first advance finds no floor, as nobody was in the pool before
no_floor : (s : System) (π : Scheduler) (now : ℕ) → ((i : ℕ) → was_schedulable π (i / 8) (i % 8) ≡ false)
    → floor s π now ≡ nobody
no_floor s π now u = go (floor s π now) refl
  where
    go : (r : Pick) → floor s π now ≡ r → r ≡ nobody
    go nobody e = refl
    go (at f) e = absurd (false≢true (sym (u f) ∙ (floor-stayed s π now f e).was-pooled))

pub first-advance : {s t : System} {π : Scheduler} {cs : List Choice} (now g : ℕ) → now < 2 ^ 64 → Tables s
    → Sound s → Words s
    → Tabled π → Plain π → ((i : ℕ) → was_schedulable π (i / 8) (i % 8) ≡ false) → Lag (weight_at π) (slack π g) s now
    → Trace (rule_of (accounted s π now)) now s cs t
    → (1 ≤ π.quantum → choice t (rule_of (accounted s π now)) now ≡ Rest) → Pooling g now t (accounted s π now)
first-advance {s} {t} {π} now g fit tb S w L P u lag tr e =
    settles_pooling s π now g fit tb S w L (unlifted s π now g fit tb S w L P (λ i. renewal.no_floor (no_floor s π now u))) (λ q. lag) tr e

pub next-advance : {s t : System} {π : Scheduler} {cs : List Choice} (t₀ now g : ℕ) → now < 2 ^ 64 → Tables s
    → Sound s → Pooling g t₀ s π → t₀ ≤ now → now ≤ t₀ + g → Trace (rule_of (accounted s π now)) now s cs t
    → (1 ≤ π.quantum → choice t (rule_of (accounted s π now)) now ≡ Rest) → Pooling g now t (accounted s π now)
next-advance {s} {t} {π} t₀ now g fit tb S p lo up tr e =
    settles_pooling s π now g fit tb S p.words p.tabled
    (unlifted s π now g fit tb S p.words p.tabled p.plain
    (λ i. renewal.not-joined (λ j. false≢true (sym j.was-not ∙ p.seen i j.account.present j.is-pooled j.account.covered))))
    (λ q. p.bounded q now lo up) tr e

-- ---- the other calls

pub departure : {s s' : System} {π : Scheduler} {g t : ℕ} → Shrinks s s' → Keeps s s' → Pooling g t s π
    → Pooling g t s' π
departure {s} {s'} {π} x k p =
    record {
      bounded = λ q r lo up. shrinks_lag x (p.bounded q r lo up);
      plain = p.plain;
      tabled = p.tabled;
      words = (k.times p.words).word;
      seen = λ i h q c.
          let e = x.same i h q in
          p.seen i (present-back x.shape h) (sym (ap (λ (v : VirtualCpu). schedulable v.state) e) ∙ q) c;
    }

pub boosted : {s : System} {π : Scheduler} {g t : ℕ} (on : Bool) → Pooling g t s π → Pooling g t s (set_wake_boost π on)
unfolding set_wake_boost
boosted {s} {π} on p =
    record {
      bounded = λ q r lo up. same-weights (λ i. sym (weight i)) (p.bounded q r lo up);
      plain = record { offsets = λ i. look.offset (i / 8) (i % 8); weights = λ i. omega (arith, weight i, p.plain.weights i) };
      tabled = cleared-tabled π p.tabled on;
      words = p.words;
      seen = λ i h q c. look.snapshot (i / 8) (i % 8) ∙ p.seen i h q c;
    }
  where
    look : Cleared π on (set_wake_boost π on)
    look = cleared π on

    weight : (i : ℕ) → weight_at (set_wake_boost π on) i ≡ weight_at π i
    weight i = look.weight (i / 8) (i % 8)
