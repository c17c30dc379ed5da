-- What was seen once slots were looked at: of a flag that is still down, no slot so far has what it stands for. Assumes nothing.
use Prim.Native.Nat.{ℕ, suc, ◌%◌, ◌^◌, ◌<◌}
use mathlib.Core.Bool.{Bool, true, false, cond, not, ◌&&◌, ◌||◌, false≢true, true≢false, or-true}
use mathlib.Core.Path.{◌≡◌, refl, sym, ◌∙◌, ap}
use native.Mathlib.Decide.{ℕ_discrete}
use native.Mathlib.Nat.{zero-div}
use native.Mathlib.Omega.{arith}
use mathlib.Core.List.{List, []}
use lib.ListN.{get_or}
use lib.Dec.{eqb}
use borrow.Author.Tests.{lt-ltb, le-leb, eqb-true}
use Rattle.scans.specs.Booleans.{all_two}
use Rattle.masks.specs.Masks.{bit}
use Rattle.masks.specs.Sets.{set_of-bit}
use Rattle.system.specs.declared.System.{System}
use Rattle.system.specs.Records.{elapsed}
use Rattle.system.specs.Reads.{vcpu_at, state_at, pooled, is_idle, idle_at}
use Rattle.system.specs.Slots.{Present, pcpus, slots, present, present-is}
use Rattle.system.specs.States.{is_runnable}
use Rattle.sched.specs.CanRun.{CanRun}
use Rattle.moves.specs.declared.Choice.{Choice}
use Rattle.moves.specs.declared.Choice.TheVariants.{Run, Preempt, Rest}
use Rattle.policy.specs.declared.Scheduler.{Scheduler}
use Rattle.policy.specs.declared.Account.{Account}
use Rattle.policy.specs.Accounts.{Tabled}
use Rattle.policy.specs.Accounting.{accounted}
use Rattle.policy.proofs.Laws.{renews-nothing}
use Rattle.rules.specs.Rules.{Rule}
use Rattle.rules.specs.Choices.{is_expired, choice}
use Rattle.rules.proofs.ChoiceLaws.{choice-run, choice-preempt, choice-beaten}
use Rattle.advance.specs.declared.Survey.{Survey}
use Rattle.settling.specs.IdleSet.{idle_set}
use Rattle.advance.specs.Survey.{survey_with, may_move, None, was_in, changed_at, expired_at, Seen}

or_left : (a b : Bool) → (a || b) ≡ false → a ≡ false
or_left true b e = e
or_left false b e = refl

or_right : (a b : Bool) → (a || b) ≡ false → b ≡ false
or_right true b e = absurd (true≢false e)
or_right false b e = e

is-raised : (b : Bool) → (b ≡ false → ⊥) → b ≡ true
is-raised true n = refl
is-raised false n = absurd (n refl)

-- with slot i looked at, or passed over as it has no vCPU
module _ {s : System} {l : List Account} {q now : ℕ} {survey : Survey} {i : ℕ} (S : Seen s l q now survey i) where
  -- one that was looked at raised the flag, unless f does not hold of it
  next : (f : ℕ → Bool) (b : Bool) → (b ≡ false → None s f i) → (f i || b) ≡ false → None s f (suc i)
  next f b h e j k p = go (ℕ_discrete j i)
    where
      go : Dec (j ≡ i) → f j ≡ false
      go (yes x) = rw x (or_left (f i) b e)
      go (no n) = h (or_right (f i) b e) j (omega arith) p

  pub seen_next : {r : Survey} → r ≡ survey_with survey (vcpu_at s i) (get_or l i (record { weight = 0; offset = []; was_schedulable = false })) q now
      → Seen s l q now r (suc i)
  seen_next e =
      rw e
      (record {
        changed = next (changed_at s l) survey.changed S.changed;
        waits = next (λ j. is_runnable (state_at s j)) survey.waits S.waits;
        expired = next (expired_at s q now) survey.expired S.expired;
      })

  pass : (f : ℕ → Bool) → present s i ≡ false → None s f i → None s f (suc i)
  pass f a h j k p = go (ℕ_discrete j i)
    where
      go : Dec (j ≡ i) → f j ≡ false
      go (yes x) = absurd (false≢true (sym (ap (present s) x ∙ a) ∙ p))
      go (no n) = h j (omega arith) p

  pub seen-absent : present s i ≡ false → Seen s l q now survey (suc i)
  seen-absent a =
      record {
        changed = λ e. pass (changed_at s l) a (S.changed e);
        waits = λ e. pass (λ j. is_runnable (state_at s j)) a (S.waits e);
        expired = λ e. pass (expired_at s q now) a (S.expired e);
      }

-- ---- once all were looked at

module _ (s : System) (π : Scheduler) (now : ℕ) where
  -- an empty set has no idle pCPU
  none-idle : idle_set s ≡ 0 → (p : ℕ) → p < 64 → idle_at s p ≡ false
  unfolding idle_set
  none-idle e p l =
      sym (set_of-bit (λ q. idle_at s q) 64 p l) ∙ ap (λ (x : ℕ). bit x p) e ∙ ap (λ (x : ℕ). eqb (x % 2) 1) (zero-div (2 ^ p))

  module _ {survey : Survey} (S : Seen s π.accounts π.quantum now survey (slots s)) where
    -- the pool is as it was
    same-pool : survey.changed ≡ false → (i : ℕ) → i < slots s → present s i ≡ true → pooled s i ≡ was_in π.accounts i
    same-pool e i l p = go (pooled s i) (was_in π.accounts i) (S.changed e i l p)
      where
        go : (a b : Bool) → cond a (not b) b ≡ false → a ≡ b
        go true true x = refl
        go true false x = absurd (true≢false x)
        go false b x = sym x

    -- and an accounting changes nothing
    pub not-renewed : Tabled π → survey.changed ≡ false → accounted s π now ≡ π
    not-renewed L e = renews-nothing s π L now (same-pool e)

    -- whoever waits, or is expired, raised the flag
    waiting : (i : ℕ) → Present s i → is_runnable (state_at s i) ≡ true → survey.waits ≡ true
    waiting i h r = let x = present-is h in is-raised survey.waits (λ e. true≢false (sym r ∙ S.waits e i x.0 x.1))

    late : (i : ℕ) → Present s i → is_expired π.quantum (elapsed (vcpu_at s i) now) (state_at s i) ≡ true → survey.expired ≡ true
    late i h r = let x = present-is h in is-raised survey.expired (λ e. true≢false (sym r ∙ S.expired e i x.0 x.1))

    -- nothing can move, under any rule of that slice
    pub nothing-moves : (ρ : Rule) → ρ.slice ≡ π.quantum → may_move survey (idle_set s) ≡ false → choice s ρ now ≡ Rest
    nothing-moves ρ q e = go (choice s ρ now) refl
      where
        -- a dispatch is onto an idle pCPU
        run : {i p : ℕ} → CanRun s i p → (w d : Bool) → survey.waits ≡ w → eqb (idle_set s) 0 ≡ d → (w && (not d || survey.expired)) ≡ false → ⊥
        run {i} c false d f g m = true≢false (sym (waiting i c.present (ap is_runnable c.ready)) ∙ f)
        run c true false f g m = true≢false m
        run {i} {p} c true true f g m =
            true≢false
            (sym (all_two (lt-ltb p (pcpus s) c.exists) (ap is_idle c.free)) ∙ none-idle (eqb-true _ _ g) p (omega (arith, c.exists)))

        -- a preemption is of an expired runner, for one that waits
        preempt : (w x d : Bool) → w ≡ true → x ≡ true → (w && (d || x)) ≡ false → ⊥
        preempt w x d f g m = true≢false (sym (rw (f, g) (or-true d)) ∙ m)

        go : (c : Choice) → choice s ρ now ≡ c → c ≡ Rest
        go (Run i p) h = absurd (run (choice-run s ρ now i p h) survey.waits (eqb (idle_set s) 0) refl refl e)
        go (Preempt i p) h =
            let c = choice-preempt s ρ now i p h in
            let r = (choice-beaten s ρ now i p h).1 in
            absurd
            (preempt survey.waits survey.expired (not (eqb (idle_set s) 0)) (waiting _ r.present (ap is_runnable r.ready))
            (late i c.present
            (ap (is_expired π.quantum (elapsed (vcpu_at s i) now)) c.on ∙ le-leb π.quantum _ (omega (arith, c.late)))) e)
        go Rest h = refl
