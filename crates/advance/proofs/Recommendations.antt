-- What `next` recommends is done: the mechanism's own calls accept it, and do what an advance does of it. Assumes nothing.
use Prim.Native.Nat.{ℕ, ◌/◌, ◌%◌}
use mathlib.Core.Bool.{Bool, true, false}
use mathlib.Core.Path.{◌≡◌, refl, sym, ◌∙◌, ap, ap₂}
use native.Mathlib.Omega.{arith}
use borrow.Author.Tests.{lt-ltb}
use Rattle.scans.specs.Booleans.{zero_one}
use Rattle.system.specs.declared.System.{System}
use Rattle.system.specs.Answers.{SystemOutcome}
use Rattle.system.specs.Slots.{pcpus, slot, Present, slot-below, slot_of}
use Rattle.verdict.specs.Violations.{invariants_hold}
use Rattle.verdict.specs.Sound.{Sound, sound_iff}
use Rattle.calls.specs.declared.Request.{Request}
use Rattle.sched.specs.Steps.{made, requested, run, preempt}
use Rattle.sched.specs.CanRun.{CanRun}
use Rattle.sched.proofs.Laws.{requested-made}
use Rattle.moves.specs.declared.Choice.{Choice}
use Rattle.moves.specs.declared.Choice.TheVariants.{Run, Preempt, Rest}
use Rattle.policy.specs.declared.Scheduler.{Scheduler}
use Rattle.rules.specs.Settle.{enacted}
use Rattle.changes.specs.Changes.{reaches}
use Rattle.advance.specs.declared.Decision.{Decision}
use Rattle.advance.specs.declared.Decision.TheVariants as decision
use Rattle.rules.specs.Choices.{choice}
use Rattle.advance.specs.Advance.{named, recommended, next}
use Rattle.advance.specs.Outcomes.{named_as}
use Rattle.advance.specs.BackToLast.{RunPlaced}
use Rattle.advance.specs.ByIds.{RunAccepted, PreemptAccepted}
use Rattle.rules.proofs.ChoiceLaws.{choice-run, choice-back, choice-lowest, choice-preempt}
use Rattle.rules.proofs.Laws.{run-enacted, preempt-enacted}
use Rattle.advance.specs.ServiceRule.{rule_of}

-- a request by the ids of slot i is made at slot i
request_made : (s : System) → Sound s → (i : ℕ) → Present s i → (q : Request) → reaches q (pcpus s) ≡ true
    → requested s (i / 8) (i % 8) q ≡ made s i q
request_made s S i h q r =
    requested-made s S (i / 8) (i % 8) h.domain h.vcpu q r ∙ ap (λ (j : ℕ). made s j q) (slot_of i)

module _ (s : System) (S : Sound s) (now i p : ℕ) where
  -- an advance's dispatch is the call `run`
  pub enacted-run : CanRun s i p → enacted s now (Run i p) ≡ run s (i / 8) (i % 8) p now
  unfolding enacted
  enacted-run c = sym (request_made s S i c.present (Request.Run p now) (lt-ltb p (pcpus s) c.exists))

  -- and its preemption the call `preempt`
  pub enacted-preempt : Present s i → enacted s now (Preempt i p) ≡ preempt s (i / 8) (i % 8) now
  unfolding enacted
  enacted-preempt h = sym (request_made s S i h (Request.Preempt now) refl)

module _ (s : System) (π : Scheduler) (now : ℕ) where
  -- a decision other than Idle is that of the choice, on a sound system
  decided : (D : Decision) → (D ≡ decision.Idle → ⊥) → (next s π now).decision ≡ D → Sound s × (named (choice s (rule_of π) now) ≡ D)
  unfolding next
  decided D n e = go (invariants_hold s) refl e
    where
      go : (b : Bool) → invariants_hold s ≡ b
          → (recommended b (choice s (rule_of π) now)).decision ≡ D
          → Sound s × (named (choice s (rule_of π) now) ≡ D)
      go true h f = ((sound_iff s).0 h, f)
      go false h f = absurd (n (sym f))

  -- the choice that a decision stands for, by the ids that it names
  pub record Chosen (d v : ℕ) (c : Choice) : Type 0 where
    pub sound : Sound s
    pub domain : slot d v / 8 ≡ d
    pub vcpu : slot d v % 8 ≡ v
    pub is : choice s (rule_of π) now ≡ c

  pub chosen-run : (d v p : ℕ) → (next s π now).decision ≡ decision.Run d v p → Chosen d v (Run (slot d v) p)
  chosen-run d v p e =
      let x = decided (decision.Run d v p) (λ f. zero_one cc) e in
      go x.0 (choice s (rule_of π) now) refl x.1
    where
      go : Sound s → (c : Choice) → choice s (rule_of π) now ≡ c → named c ≡ decision.Run d v p → Chosen d v (Run (slot d v) p)
      go S (Run i q) f h =
          let a : i / 8 ≡ d = cc in
          let b : i % 8 ≡ v = cc in
          let k : q ≡ p = cc in
          let j : i ≡ slot d v = omega arith in
          record { sound = S; domain = rw (← j) a; vcpu = rw (← j) b; is = rw (← j, ← k) f }
      go S (Preempt i q) f h = absurd (zero_one cc)
      go S Rest f h = absurd (zero_one cc)

  pub chosen-preempt : (d v p : ℕ) → (next s π now).decision ≡ decision.Preempt d v p → Chosen d v (Preempt (slot d v) p)
  chosen-preempt d v p e =
      let x = decided (decision.Preempt d v p) (λ f. zero_one cc) e in
      go x.0 (choice s (rule_of π) now) refl x.1
    where
      go : Sound s → (c : Choice) → choice s (rule_of π) now ≡ c → named c ≡ decision.Preempt d v p → Chosen d v (Preempt (slot d v) p)
      go S (Preempt i q) f h =
          let a : i / 8 ≡ d = cc in
          let b : i % 8 ≡ v = cc in
          let k : q ≡ p = cc in
          let j : i ≡ slot d v = omega arith in
          record { sound = S; domain = rw (← j) a; vcpu = rw (← j) b; is = rw (← j, ← k) f }
      go S (Run i q) f h = absurd (zero_one cc)
      go S Rest f h = absurd (zero_one cc)

  -- whoever is chosen is named by its ids: a slot's domain is below 16
  domain-is : {i : ℕ} → Present s i → i / 8 % 16 ≡ i / 8
  domain-is h = let l = slot-below h in omega arith

  pub names : (c : Choice) → choice s (rule_of π) now ≡ c → named_as c ≡ named c
  names (Run i p) e = ap (λ (d : ℕ). decision.Run d (i % 8) p) (domain-is (choice-run s (rule_of π) now i p e).present)
  names (Preempt i p) e = ap (λ (d : ℕ). decision.Preempt d (i % 8) p) (domain-is (choice-preempt s (rule_of π) now i p e).present)
  names Rest e = refl

-- who is told to run a vCPU, and runs it, is told 0
pub next-run-accepted : RunAccepted
next-run-accepted s π now d v p e =
    let x = chosen-run s π now d v p e in
    let c = choice-run s (rule_of π) now (slot d v) p x.is in
    ap₂ (λ (d v : ℕ). (run s d v p now).number) (sym x.domain) (sym x.vcpu)
    ∙ ap (λ (r : SystemOutcome). r.number) (sym (enacted-run s x.sound now (slot d v) p c) ∙ run-enacted s now (slot d v) p c)

-- and so is who is told to preempt one, and does
pub next-preempt-accepted : PreemptAccepted
next-preempt-accepted s π now d v p e =
    let x = chosen-preempt s π now d v p e in
    let c = choice-preempt s (rule_of π) now (slot d v) p x.is in
    ap₂ (λ (d v : ℕ). (preempt s d v now).number) (sym x.domain) (sym x.vcpu)
    ∙ ap (λ (r : SystemOutcome). r.number)
    (sym (enacted-preempt s x.sound now (slot d v) p c.present) ∙ preempt-enacted s now (slot d v) p c.on)

-- where a Run that is recommended goes
pub next-placed : RunPlaced
next-placed s π now d v p e =
    let f = (chosen-run s π now d v p e).is in
    record {
      can = choice-run s (rule_of π) now (slot d v) p f;
      back = choice-back s (rule_of π) now (slot d v) p f;
      lowest = λ n q. choice-lowest s (rule_of π) now (slot d v) p q f n;
    }
