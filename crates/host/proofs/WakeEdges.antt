-- Who is in the pool at one advance has no wake edge at the next, whatever is called between the two. Assumes nothing.
use Prim.Native.Nat.{ℕ, ◌/◌, ◌%◌, ◌<◌}
use mathlib.Core.Bool.{Bool, true, false, cond, true≢false}
use mathlib.Core.Path.{◌≡◌, refl, sym, ◌∙◌, ap, subst}
use mathlib.Core.List.{[], ◌∷◌}
use native.Mathlib.Omega.{arith}
use lib.Dec.{ltb}
use borrow.Author.Tests.{ltb-true}
use Rattle.scans.specs.Booleans.{zero_one}
use Rattle.system.specs.declared.RunState.{RunState}
use Rattle.system.specs.declared.RunState.TheVariants.{Offline, Runnable, Running, Blocked}
use Rattle.system.specs.declared.System.{System}
use Rattle.system.specs.declared.Answer.{Answer}
use Rattle.system.specs.declared.Answer.TheVariants.{Done, BadDomain, BadVcpu, Unsound}
use Rattle.system.specs.Answers.{told, SystemOutcome}
use Rattle.system.specs.Reads.{vcpu_at, pooled}
use Rattle.system.specs.States.{schedulable}
use Rattle.system.specs.Slots.{domains, vcpus, slot, slots, Present}
use Rattle.system.specs.Writes.{present-back}
use Rattle.verdict.specs.Sound.{Sound, sound_iff}
use Rattle.verdict.specs.Violations.{invariants_hold}
use Rattle.changes.specs.Changes.{blocked}
use Rattle.sched.specs.Steps.{applied, tested, requested, block}
use Rattle.policy.specs.declared.Scheduler.{Scheduler}
use Rattle.policy.specs.Accounts.{covers, offset_of, was_schedulable}
use Rattle.policy.specs.Accounting.{accounted}
use Rattle.policy.specs.Renewal.{not-joined}
use Rattle.policy.proofs.Laws as policy
use Rattle.advance.specs.Advance.{AdvanceResult, sound_advance, advance}
use Rattle.advance.specs.Answered.{AdvanceAnswered, advance-answered}
use Rattle.advance.specs.Enacting.{Does}
use Rattle.advance.proofs.Laws.{advance-does}
use Rattle.host.specs.declared.Host.{Host}
use Rattle.calls.specs.declared.Call.{Call}
use Rattle.calls.specs.declared.Request.{Request}
use Rattle.host.specs.Step.{step, host_after}
use Rattle.host.specs.WakeEdges.{TabledHost, StayedNoEdge, BlockAndWakeNoEdge}
use Rattle.host.proofs.Snapshots.{calls_same}

-- ---- an advance

-- one that is made renews the accounts, and the system was sound
advance-made : (h : Host) (now : ℕ) → (step h (Call.Advance now)).number ≡ told Done
    → Sound h.system × ((step h (Call.Advance now)).host.scheduler ≡ accounted h.system h.scheduler now)
unfolding step advance
advance-made h now e = go (invariants_hold h.system) refl e
  where
    outcome : Bool → AdvanceResult
    outcome b = cond b (sound_advance h.system h.scheduler now) (record { number = told Unsound; system = h.system; policy = h.scheduler; moves = [] })

    go : (b : Bool) → invariants_hold h.system ≡ b → (outcome b).number ≡ told Done
        → Sound h.system × ((outcome b).policy ≡ accounted h.system h.scheduler now)
    go true x f = ((sound_iff h.system).0 x, refl)
    go false x f = absurd (omega arith)

-- whoever is in the snapshot keeps its offset
next-offset : (h : Host) (now i : ℕ) → policy.Tabled h.scheduler
    → (covers h.scheduler (i / 8) (i % 8) ≡ true → was_schedulable h.scheduler (i / 8) (i % 8) ≡ true)
    → offset_of (step h (Call.Advance now)).host.scheduler (i / 8) (i % 8) ≡ offset_of h.scheduler (i / 8) (i % 8)
unfolding step advance
next-offset h now i L f = go (invariants_hold h.system)
  where
    go : (b : Bool)
        → offset_of (cond {A = AdvanceResult} b (sound_advance h.system h.scheduler now)
        (record { number = told Unsound; system = h.system; policy = h.scheduler; moves = [] })).policy (i / 8) (i % 8)
        ≡ offset_of h.scheduler (i / 8) (i % 8)
    go true =
        (policy.accounted-renewal h.system h.scheduler L now i).unlifted
        (not-joined (λ j. true≢false (sym (f j.account.covered) ∙ j.was-not)))
    go false = refl

-- the accounts renewed have the policy's shape, and as many of them
module _ (s : System) (π : Scheduler) (now : ℕ) where
  renewed-shape : (d v : ℕ) → covers (accounted s π now) d v ≡ covers π d v
  unfolding accounted
  renewed-shape d v = let e = policy.renew_same s π now (slots s) in rw (e.domains, e.vcpus)

  renewed-tabled : policy.Tabled π → policy.Tabled (accounted s π now)
  unfolding accounted
  renewed-tabled L = record { accounts = (policy.renew_same s π now (slots s)).tabled ∙ L.accounts }

pub stayed_no_edge : StayedNoEdge
stayed_no_edge h T t₁ t₂ between n e i p q =
    let y = calls_same a between n (subst policy.Tabled (sym renews) (renewed-tabled h.system h.scheduler t₁ L)) in
    next-offset (host_after a between) t₂ i y.tabled
    (λ c. y.snapshot i ∙ snapshot (sym (y.shape (i / 8) (i % 8)) ∙ c))
  where
    a : Host
    a = (step h (Call.Advance t₁)).host

    L : policy.Tabled h.scheduler
    L = record { accounts = T.accounts }

    renews : a.scheduler ≡ accounted h.system h.scheduler t₁
    renews = (advance-made h t₁ e).1

    snapshot : covers a.scheduler (i / 8) (i % 8) ≡ true → was_schedulable a.scheduler (i / 8) (i % 8) ≡ true
    snapshot c =
        let had : covers h.scheduler (i / 8) (i % 8) ≡ true =
        sym (renewed-shape h.system h.scheduler t₁ (i / 8) (i % 8)) ∙ (ap (λ (π : Scheduler). covers π (i / 8) (i % 8)) (sym renews) ∙ c) in
        ap (λ (π : Scheduler). was_schedulable π (i / 8) (i % 8)) renews
        ∙ ((policy.accounted-renewal h.system h.scheduler L t₁ i).snapshot (record { present = p; covered = had }) ∙ q)

-- ---- a block and a wake

-- a block that is accepted finds its vCPU in the pool of a sound system
record Blocks (s : System) (d v : ℕ) : Type 0 where
  sound : Sound s
  present : Present s (slot d v)
  vcpu : v < 8
  is_in_pool : pooled s (slot d v) ≡ true

passes : (s : System) (b : Bool) (a : Answer) (r : SystemOutcome) → (told a ≡ told Done → ⊥) → (tested b a s r).number ≡ told Done
    → (b ≡ true) × (r.number ≡ told Done)
passes s true a r n e = (refl, e)
passes s false a r n e = absurd (n e)

block-blocks : (s : System) (d v now : ℕ) → (block s d v now).number ≡ told Done → Blocks s d v
unfolding requested applied
block-blocks s d v now e =
    let x = passes s (invariants_hold s) Unsound _ (λ f. omega arith) e in
    let y = passes s (ltb d (domains s)) BadDomain _ (λ f. omega arith) x.1 in
    let z = passes s (ltb v (vcpus s)) BadVcpu _ (λ f. omega arith) y.1 in
    let l = ltb-true d (domains s) y.0 in
    let m = ltb-true v (vcpus s) z.0 in
    record {
      sound = (sound_iff s).0 x.0;
      present = record { domain = omega arith; vcpu = omega arith };
      vcpu = omega arith;
      is_in_pool = found (vcpu_at s (slot d v)).state z.1;
    }
  where
    found : (st : RunState) → (applied s (slot d v) (blocked (vcpu_at s (slot d v)) now st)).number ≡ told Done → schedulable st ≡ true
    found Offline f = absurd (omega arith)
    found Runnable f = refl
    found (Running p) f = refl
    found Blocked f = absurd (omega arith)

module _ (h : Host) (T : TabledHost h) (t₁ d v : ℕ) (B : Blocks (step h (Call.Advance t₁)).host.system d v) where
  -- an advance that leaves a sound system found one
  found-sound : Sound h.system
  unfolding step
  found-sound = go (invariants_hold h.system) refl
    where
      A : AdvanceAnswered h.system h.scheduler (advance h.system h.scheduler t₁)
      A = advance-answered h.system h.scheduler t₁

      go : (b : Bool) → invariants_hold h.system ≡ b → Sound h.system
      go true e = (sound_iff h.system).0 e
      go false e = subst Sound (A.refused (λ f. omega (arith, A.tells.unsound e))).0 B.sound

  does : Does h.system h.scheduler t₁ (advance h.system h.scheduler t₁)
  does = advance-does h.system h.scheduler t₁ T.system found-sound

  -- and its vCPU in the pool
  stays_put : (now t₂ : ℕ)
      → offset_of (step (host_after (step h (Call.Advance t₁)).host (Call.Ask d v (Request.Block now) ∷ Call.Ask d v Request.Wake ∷ [])) (Call.Advance t₂)).host.scheduler
      (slot d v / 8) (slot d v % 8)
      ≡ offset_of (step h (Call.Advance t₁)).host.scheduler (slot d v / 8) (slot d v % 8)
  unfolding step host_after
  stays_put now t₂ =
      stayed_no_edge h T t₁ t₂ (Call.Ask d v (Request.Block now) ∷ Call.Ask d v Request.Wake ∷ []) ((λ t f. zero_one cc), ((λ t f. zero_one cc), tt)) does.number (slot d v)
      (present-back does.keeps.shape B.present) (sym (does.pool (slot d v)) ∙ B.is_in_pool)

pub block-and-wake_no_edge : BlockAndWakeNoEdge
unfolding step host_after
block-and-wake_no_edge h T t₁ now t₂ d v e =
    let B = block-blocks (step h (Call.Advance t₁)).host.system d v now e in
    let l = B.vcpu in
    let x : slot d v / 8 ≡ d = omega arith in
    let y : slot d v % 8 ≡ v = omega arith in
    rw (x, y) at (stays_put h T t₁ d v B now t₂)
