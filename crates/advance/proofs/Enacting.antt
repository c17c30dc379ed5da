-- Every move of an advance is what `next` answers there, and the mechanism's own call makes it and is told 0; an advance ends at rest or at its
-- limit. Assumes nothing.
use Prim.Native.Nat.{ℕ, ◌≤◌}
use mathlib.Core.Path.{◌≡◌, refl, sym, ◌∙◌, ap, subst}
use mathlib.Core.Logic.{◌⊎◌, inl, inr}
use mathlib.Core.List.{List, [], ◌∷◌, ◌++◌}
use native.Mathlib.Omega.{arith}
use lib.ListN.{length}
use Rattle.scans.specs.Booleans.{zero_one}
use Rattle.system.specs.declared.System.{System}
use Rattle.system.specs.Answers.{SystemOutcome}
use Rattle.system.specs.Writes.{Tables}
use Rattle.system.specs.Slots.{slots}
use Rattle.verdict.specs.Sound.{Sound, sound_iff}
use Rattle.moves.specs.declared.Choice.{Choice}
use Rattle.moves.specs.declared.Choice.TheVariants.{Run, Preempt, Rest}
use Rattle.policy.specs.declared.Scheduler.{Scheduler}
use Rattle.policy.specs.Accounting.{accounted}
use Rattle.policy.proofs.Laws.{renew_same}
use Rattle.rules.specs.Choices.{choice}
use Rattle.rules.specs.Due.{chosen}
use Rattle.rules.specs.Settle.{Settled, settle, limit}
use Rattle.rules.proofs.Laws.{run-enacted, run-keeps, preempt-enacted, preempt-keeps}
use Rattle.rules.proofs.Laws.{Trace, rest, run, preempt, settle-trace, trace-keeps, trace-pooled, settle-ends, settle-most, advance-rests, rest-quiet}
use Rattle.advance.specs.Advance.{next, sound_advance, advance}
use Rattle.advance.specs.Enacting.{called, after_calls, recommending, Made, Does, EveryAdvance}
use Rattle.advance.specs.ServiceRule.{rule_of}
use Rattle.advance.proofs.Recommendations.{enacted-run, enacted-preempt}

-- of a sound system `next` answers the choice
next_chooses : {s : System} (π : Scheduler) (now : ℕ) {c : Choice} → Sound s → choice s (rule_of π) now ≡ c → next s π now ≡ recommending c
unfolding next
next_chooses {s} π now S e = rw ((sound_iff s).1 S) (ap recommending e)

module _ (π : Scheduler) (now : ℕ) where
  -- the system that a trace leads to is that after its calls
  trace-calls : {s t : System} {cs : List Choice} → Trace (rule_of π) now s cs t → Tables s → Sound s → t ≡ after_calls s now cs
  unfolding after_calls
  trace-calls rest T S = refl
  trace-calls (run {s} {i = i} {p = p} {cs = cs} e c r) T S =
      let k = run-keeps s now i p T S c in
      trace-calls r (k.shape.tables T) k.sound
      ∙ ap (λ (x : SystemOutcome). after_calls x.system now cs) (enacted-run s S now i p c)
  trace-calls (preempt {s} {i = i} {p = p} {cs = cs} e c r) T S =
      let k = preempt-keeps s now i p T S c.present in
      trace-calls r (k.shape.tables T) k.sound
      ∙ ap (λ (x : SystemOutcome). after_calls x.system now cs) (enacted-preempt s S now i p c.present)

  -- each move of a trace is made where those before it lead
  trace-made : {s t : System} {cs : List Choice} → Trace (rule_of π) now s cs t → Tables s → Sound s
      → (before after : List Choice) (c : Choice) → cs ≡ before ++ (c ∷ after) → Made (after_calls s now before) π now c
  unfolding after_calls
  trace-made rest T S [] after c h = absurd (zero_one cc)
  trace-made rest T S (x ∷ before) after c h = absurd (zero_one cc)
  trace-made (run {s} {i = i} {p = p} e can r) T S [] after c h =
      let x : Run i p ≡ c = cc in
      subst (Made s π now) x
      (record {
        moves = λ f. zero_one cc;
        answered = next_chooses π now S e;
        accepted = ap (λ (o : SystemOutcome). o.number) (sym (enacted-run s S now i p can) ∙ run-enacted s now i p can);
      })
  trace-made (run {s} {i = i} {p = p} e can r) T S (x ∷ before) after c h =
      let k = run-keeps s now i p T S can in
      let y : Run i p ≡ x = cc in
      subst (λ (o : System). Made (after_calls o now before) π now c)
      (ap (λ (o : SystemOutcome). o.system) (enacted-run s S now i p can) ∙ ap (λ (z : Choice). (called s now z).system) y)
      (trace-made r (k.shape.tables T) k.sound before after c (cc))
  trace-made (preempt {s} {i = i} {p = p} (chosen e) can r) T S [] after c h =
      let x : Preempt i p ≡ c = cc in
      subst (Made s π now) x
      (record {
        moves = λ f. zero_one cc;
        answered = next_chooses π now S e;
        accepted = ap (λ (o : SystemOutcome). o.number) (sym (enacted-preempt s S now i p can.present) ∙ preempt-enacted s now i p can.on);
      })
  trace-made (preempt {s} {i = i} {p = p} e can r) T S (x ∷ before) after c h =
      let k = preempt-keeps s now i p T S can.present in
      let y : Preempt i p ≡ x = cc in
      subst (λ (o : System). Made (after_calls o now before) π now c)
      (ap (λ (o : SystemOutcome). o.system) (enacted-preempt s S now i p can.present) ∙ ap (λ (z : Choice). (called s now z).system) y)
      (trace-made r (k.shape.tables T) k.sound before after c (cc))

-- accounting keeps the slice
pub accounted-slice : (s : System) (π : Scheduler) (now : ℕ) → (accounted s π now).quantum ≡ π.quantum
unfolding accounted
accounted-slice s π now = (renew_same s π now (slots s)).quantum

pub advance-does : EveryAdvance
unfolding advance
advance-does s π now T S = rw ((sound_iff s).1 S) does
  where
    ρ : Scheduler
    ρ = accounted s π now

    settled : Settled
    settled = settle (rule_of ρ) now (limit s) s

    trace : Trace (rule_of ρ) now s settled.moves settled.system
    trace = settle-trace (rule_of ρ) now (limit s) s

    idle : choice settled.system (rule_of ρ) now ≡ Rest → next settled.system ρ now ≡ recommending Rest
    idle e = next_chooses ρ now (trace-keeps trace T S).sound e

    at-end : (choice settled.system (rule_of ρ) now ≡ Rest) ⊎ (length settled.moves ≡ limit s)
        → (next settled.system ρ now ≡ recommending Rest) ⊎ (length settled.moves ≡ limit s)
    at-end (inl e) = inl (idle e)
    at-end (inr e) = inr e

    rests : 1 ≤ π.quantum → choice settled.system (rule_of ρ) now ≡ Rest
    rests q = advance-rests (rule_of ρ) now s (omega (arith, accounted-slice s π now)) T S

    does : Does s π now (sound_advance s π now)
    does =
        record {
          number = refl;
          policy = refl;
          made = trace-made ρ now trace T S;
          system = trace-calls ρ now trace T S;
          keeps = trace-keeps trace T S;
          pool = trace-pooled trace T S;
          ends = at-end (settle-ends (rule_of ρ) now (limit s) s);
          most = settle-most (rule_of ρ) now (limit s) s;
          rests = λ q. idle (rests q);
          placed = λ q i p c. rest-quiet settled.system (rule_of ρ) now i p (rests q) c refl;
        }
