-- `next` and `advance` are the page's, of any system and any policy. Assumes nothing.
use Prim.Native.Nat.{ℕ, zero, suc, ◌/◌, ◌%◌}
use mathlib.Core.Bool.{Bool, true, false, cond}
use mathlib.Core.List.{[], ◌∷◌, map}
use mathlib.Core.Path.{◌≡◌, refl, sym, ◌∙◌, ap, ap₂}
use native.Mathlib.Omega.{arith}
use Rattle.system.specs.declared.System.{System}
use Rattle.system.specs.Slots.{slot_of}
use Rattle.verdict.specs.Violations.{invariants_hold}
use Rattle.calls.specs.declared.Request.{Request}
use Rattle.sched.specs.Steps.{made}
use Rattle.moves.specs.declared.Choice.{Choice}
use Rattle.moves.specs.declared.Choice.TheVariants.{Run, Preempt, Rest}
use Rattle.policy.specs.declared.Scheduler.{Scheduler}
use Rattle.policy.specs.Accounting as accounting
use Rattle.rules.specs.Choices.{choice}
use Rattle.rules.specs.Settle as settle
use Rattle.rules.specs.Settle.{enacted, go_on}
use Rattle.advance.specs.declared.Decision.{Decision}
use Rattle.advance.specs.declared.Decision.TheVariants as decision
use Rattle.advance.specs.ServiceRule.{rule_of}
use Rattle.advance.specs.Advance as advance
use Rattle.advance.specs.Advance.{named}
use Rattle.page.specs.Page as page
use Rattle.page.specs.Page.{Told}
use Rattle.page.proofs.Next.{next-is}
use Rattle.page.proofs.Accounting.{accounted-is}
use Rattle.page.proofs.Verdict.{sound-is}
use Rattle.page.proofs.Calls.{done-by, made-is}

abbrev pub recommended : advance.NextOutcome → page.Recommended
recommended r = record { number = r.number; decision = r.decision }

pub next-told-is : (s : System) (π : Scheduler) (now : ℕ) → recommended (advance.next s π now) ≡ page.next_told s π now
unfolding advance.next page.next_told
next-told-is s π now = go (invariants_hold s) ∙ ap₂ answer (sound-is s) (next-is s π now)
  where
    answer : Bool → Decision → page.Recommended
    answer b r = cond b (record { number = 0; decision = r }) (record { number = 8; decision = decision.Idle })

    go : (b : Bool) → recommended (advance.recommended b (choice s (rule_of π) now)) ≡ answer b (named (choice s (rule_of π) now))
    go true = refl
    go false = refl

-- the moves by ids
abbrev settled : settle.Settled → page.Settled
settled r = record { system = r.system; moves = map named r.moves }

move-is : (s : System) (i : ℕ) (q : Request) → (made s i q).system ≡ (done-by s (i / 8) (i % 8) q).system
move-is s i q =
    ap (λ (j : ℕ). (made s j q).system) (sym (slot_of i)) ∙ ap (λ (r : Told). r.system) (made-is s (i / 8) (i % 8) (omega arith) q)

abbrev after : Decision → page.Settled → page.Settled
after c r = record { system = r.system; moves = c ∷ r.moves }

pub settle_is : (π : Scheduler) (now k : ℕ) (s : System) → settled (settle.settle (rule_of π) now k s) ≡ page.settle π now k s
unfolding settle.settle page.settle enacted
settle_is π now zero s = refl
settle_is π now (suc k) s = step (choice s (rule_of π) now) (λ t. settle_is π now k t) ∙ ap (page.enact (λ t. page.settle π now k t) s now) (next-is s π now)
  where
    step : (c : Choice) → ((t : System) → settled (settle.settle (rule_of π) now k t) ≡ page.settle π now k t)
        → settled (go_on (λ t. settle.settle (rule_of π) now k t) s now c) ≡ page.enact (λ t. page.settle π now k t) s now (named c)
    step (Run i p) ih =
        ap (after (decision.Run (i / 8) (i % 8) p)) (ih _ ∙ ap (page.settle π now k) (move-is s i (Request.Run p now)))
    step (Preempt i p) ih =
        ap (after (decision.Preempt (i / 8) (i % 8) p)) (ih _ ∙ ap (page.settle π now k) (move-is s i (Request.Preempt now)))
    step Rest ih = refl

abbrev pub advanced : advance.AdvanceResult → page.Advanced
advanced a = record { number = a.number; system = a.system; policy = a.policy; moves = map named a.moves }

pub advance-is : (s : System) (π : Scheduler) (now : ℕ) → advanced (advance.advance s π now) ≡ page.advance s π now
unfolding advance.advance page.advance
advance-is s π now =
    go (invariants_hold s) (accounting.accounted s π now)
    ∙ ap₂ answer (sound-is s) (accounted-is s π now)
  where
    answer : Bool → Scheduler → page.Advanced
    answer b ρ =
        let r = page.settle ρ now (page.limit s) s in
        cond b (record { number = 0; system = r.system; policy = ρ; moves = r.moves })
        (record { number = 8; system = s; policy = π; moves = [] })

    at-end : Scheduler → page.Settled → page.Advanced
    at-end ρ r = record { number = 0; system = r.system; policy = ρ; moves = r.moves }

    go : (b : Bool) (ρ : Scheduler)
        → advanced (cond b
        (let r = settle.settle (rule_of ρ) now (settle.limit s) s in record { number = 0; system = r.system; policy = ρ; moves = r.moves })
        (record { number = 8; system = s; policy = π; moves = [] }))
        ≡ answer b ρ
    go true ρ =
        ap (at-end ρ)
        (settle_is ρ now (page.limit s) s)
    go false ρ = refl
