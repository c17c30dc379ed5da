-- Through an advance, and for a while after it, nobody of the pool gets further ahead of one that waits. Assumes
-- nothing.
use Prim.Native.Nat.{ℕ, suc, ◌+◌, ◌-◌, ◌*◌, ◌/◌, ◌%◌, ◌^◌, ◌≤◌, ◌<◌}
use mathlib.Core.Bool.{Bool, true, false, false≢true}
use mathlib.Core.Path.{◌≡◌, refl, sym, ◌∙◌, ap}
use mathlib.Core.List.{List}
use native.Mathlib.Omega.{arith}
use native.Mathlib.Nat.{mul-le-mul_right}
use lib.Dec.{leb}
use borrow.Author.Tests.{leb-true, leb-false}
use Rattle.system.specs.declared.RunState.{RunState}
use Rattle.system.specs.declared.RunState.TheVariants.{Offline, Runnable, Running, Blocked}
use Rattle.system.specs.declared.System.{System}
use Rattle.system.specs.Records.{elapsed, flight, in_flight}
use Rattle.system.specs.Reads.{vcpu_at, state_at, runtime_at}
use Rattle.system.specs.Writes.{Tables}
use Rattle.system.specs.Slots.{Present}
use Rattle.system.specs.States.{schedulable}
use Rattle.verdict.specs.Sound.{Sound}
use Rattle.sched.specs.CanRun.{CanRun}
use Rattle.moves.specs.declared.Choice.{Choice}
use Rattle.moves.specs.declared.Choice.TheVariants.{Run, Preempt, Rest}
use Rattle.policy.specs.declared.Scheduler.{Scheduler}
use Rattle.rules.specs.Settle.{enacted}
use Rattle.policy.specs.Accounts.{offset_of}
use Rattle.policy.specs.Standing.{weight_at}
use Rattle.rules.specs.Choices.{choice}
use Rattle.rules.specs.Due.{chosen}
use Rattle.rules.specs.ChoiceLaws.{CanPreempt}
use Rattle.rules.proofs.ChoiceLaws.{choice-least, choice-beaten, choice-unbeaten}
use Rattle.rules.proofs.Laws.{run-wrote, run-keeps, preempt-wrote, preempt-keeps, Trace, rest, run, preempt}
use Rattle.policy.specs.Exact.{weight_pos}
use Rattle.demand3.proofs.ExactRanking.{raw_service, Level, level_ranks, beats-before, beats-not}
use Rattle.demand3.proofs.Lag.{Pool, waits, Lag, raw-waiting, raw-running, on-lag, off-lag}
use Rattle.advance.specs.ServiceRule.{rule_of}

-- no offset is set, and weights are those of 32 bits
pub record Plain (π : Scheduler) : Type 0 where
  pub offsets : (i : ℕ) → offset_of π (i / 8) (i % 8) ≡ 0
  pub weights : (i : ℕ) → weight_at π i < 2 ^ 32

-- run times and the clock are words
pub plain_level : {s : System} {π : Scheduler} {now : ℕ} → Plain π → ((i : ℕ) → runtime_at s i < 2 ^ 64)
    → now < 2 ^ 64 → Level s π now
unfolding in_flight
plain_level {s} {π} {now} P t h =
    record { offsets = P.offsets; weights = P.weights; services = λ i. omega (arith, t i, flown i (vcpu_at s i).state) }
  where
    flown : (i : ℕ) (st : RunState) → flight (vcpu_at s i) now st ≤ now
    flown i Offline = omega arith
    flown i Runnable = omega arith
    flown i (Running p) = omega arith
    flown i Blocked = omega arith

module _ (π : Scheduler) (P : Plain π) (lim : ℕ) where
  abbrev w : ℕ → ℕ
  w = weight_at π

  run-lag : (s : System) (now i p : ℕ) → now < 2 ^ 64 → ((j : ℕ) → runtime_at s j < 2 ^ 64) → Tables s
      → Lag w lim s now → CanRun s i p
      → choice s (rule_of π) now ≡ Run i p → Lag w lim (enacted s now (Run i p)).system now
  run-lag s now i p fit t tb L c e =
      let l = plain_level P t fit in
      on-lag w (weight_pos π) lim now L c (run-wrote s now i p tb c)
      (λ j h r. beats-not l j i (choice-least s (rule_of π) now (level_ranks l) i p j p e
      (record { present = h; ready = r; exists = c.exists; free = c.free; affine = L.full j p h c.exists (rw r waits) }) refl))

  preempt-lag : (s : System) (now i p : ℕ) → now < 2 ^ 64 → ((j : ℕ) → runtime_at s j < 2 ^ 64) → Tables s → Sound s
      → Lag w lim s now → Present s i → state_at s i ≡ Running p → choice s (rule_of π) now ≡ Preempt i p
      → Lag w lim (enacted s now (Preempt i p)).system now
  preempt-lag s now i p fit t tb S L h on e =
      let l = plain_level P t fit in
      let k = choice-beaten s (rule_of π) now i p e in
      off-lag w (weight_pos π) lim now k.0 fit L h on (preempt-wrote s now i p tb S h on) k.1.present k.1.ready
      (beats-before l k.0 i k.1.wins)

  pub trace-lag : {now : ℕ} {s t : System} {cs : List Choice} → Trace (rule_of π) now s cs t → now < 2 ^ 64
      → ((j : ℕ) → runtime_at s j < 2 ^ 64) → Tables s → Sound s → Lag w lim s now → Lag w lim t now
  trace-lag rest fit h tb S L = L
  trace-lag {now = now} (run {s} {i = i} {p = p} e c r) fit h tb S L =
      let k = run-keeps s now i p tb S c in
      trace-lag r fit (k.times h).word (k.shape.tables tb) k.sound (run-lag s now i p fit h tb L c e)
  trace-lag {now = now} (preempt {s} {i = i} {p = p} (chosen e) c r) fit h tb S L =
      let k = preempt-keeps s now i p tb S c.present in
      trace-lag r fit (k.times h).word (k.shape.tables tb) k.sound (preempt-lag s now i p fit h tb S L c.present c.on e)

  -- time passes: up to g ticks after an advance that came to rest
  pub rest-lag : (s : System) (now g r : ℕ) → now < 2 ^ 64 → ((j : ℕ) → runtime_at s j < 2 ^ 64) → Sound s
      → Lag w lim s now
      → choice s (rule_of π) now ≡ Rest → 1 ≤ π.quantum → π.quantum + g ≤ suc lim → now ≤ r → r ≤ now + g
      → Lag w lim s r
  rest-lag s now g r fit t S L e hq hl lo up =
      record {
        lag = λ i j hi hj h x. lag' i j hi hj (state_at s i) refl h x;
        base = λ i j p hi hj h x. rw (still j x) (L.base i j p hi hj h x);
        full = L.full;
        past = λ i p hi h. omega (arith, L.past i p hi h);
        early = L.early;
        spare = λ i hi h. omega (arith, L.spare i hi h);
      }
    where
      still : (j : ℕ) → state_at s j ≡ Runnable → raw_service s r j ≡ raw_service s now j
      still j x = raw-waiting s r j x ∙ sym (raw-waiting s now j x)

      grows : (a b x c m : ℕ) → a * m ≤ b → x ≤ c → (a + x) * m ≤ b + c * m
      grows a b x c m l k = omega (arith, l, mul-le-mul_right m k)

      runner : (i j p : ℕ) → Present s i → Present s j → state_at s i ≡ Running p → state_at s j ≡ Runnable
          → (b : Bool) → leb π.quantum (elapsed (vcpu_at s i) now) ≡ b
          → raw_service s r i * w j ≤ raw_service s r j * w i + lim * w j
      runner i j p hi hj h x true b =
          let c : CanPreempt s (rule_of π) now i p = record { present = hi; on = h; late = leb-true _ _ b } in
          let u = beats-not (plain_level P t fit) j i
          (choice-unbeaten s (rule_of π) now i p j e c hj x refl (L.full j p hj (S.runs i p hi h).exists (rw x waits))) in
          let d = L.past i p hi h in
          let y : raw_service s r i ≡ raw_service s now i + (r - now) = omega (arith, raw-running s r i p h, raw-running s now i p h) in
          rw (still j x, y) (grows (raw_service s now i) (raw_service s now j * w i) (r - now) lim (w j) u (omega arith))
      runner i j p hi hj h x false b =
          let d = L.past i p hi h in
          let y = leb-false π.quantum (elapsed (vcpu_at s i) now) b in
          rw (still j x, raw-running s r i p h)
          (grows (vcpu_at s i).runtime (raw_service s now j * w i) (elapsed (vcpu_at s i) r) lim (w j) (L.base i j p hi hj h x) (omega arith))

      lag' : (i j : ℕ) → Present s i → Present s j → (st : RunState) → state_at s i ≡ st → Pool (state_at s i)
          → state_at s j ≡ Runnable → raw_service s r i * w j ≤ raw_service s r j * w i + lim * w j
      lag' i j hi hj Offline q h x = absurd (false≢true (sym (ap schedulable q) ∙ h))
      lag' i j hi hj Runnable q h x = rw (still i q, still j x) (L.lag i j hi hj h x)
      lag' i j hi hj (Running p) q h x = runner i j p hi hj q x (leb π.quantum (elapsed (vcpu_at s i) now)) refl
      lag' i j hi hj Blocked q h x = absurd (false≢true (sym (ap schedulable q) ∙ h))
