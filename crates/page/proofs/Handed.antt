-- What the code's contracts hand back, in the page's words. Assumes nothing.
use Rattle.std.specs.Prelude.{ℕ, ◌≡◌, Result, Ok, Err, IfErr, length}
use Rattle.std.proofs.Common.{refl, sym, ap, ◌∙◌}
use Rattle.system.specs.declared.Answer.{Answer}
use Rattle.system.specs.declared.Answer.TheVariants.{TooLarge, Unsound}
use Rattle.system.specs.declared.System.{System}
use Rattle.system.specs.Answers.{SystemOutcome, system_outcome}
use Rattle.system.specs.Shape as shape
use Rattle.policy.specs.declared.Scheduler.{Scheduler}
use Rattle.policy.specs.Accounts as accounts
use Rattle.advance.specs.declared.Decision.{Decision}
use Rattle.advance.specs.declared.Decision.TheVariants as decision
use Rattle.advance.specs.declared.Outcome.{Outcome}
use Rattle.advance.specs.Advance as advances
use Rattle.advance.specs.Outcomes.{AdvanceOutcome, next_outcome, advance_outcome, counted}
use Rattle.host.specs.declared.Host.{Host}
use Rattle.calls.specs.declared.Call.{Call}
use Rattle.host.specs.Step as steps
use Rattle.host.specs.Outcomes as hosts
use Rattle.host.specs.Outcomes.{HostOutcome, host_outcome, step_counted}
use Rattle.page.specs.Page as page
use Rattle.page.specs.Steps.{Step, Hands, step, build}
use Rattle.page.specs.Handed.{number_told, else_nothing, HandsSystem, HandsNewSystem, HandsNewPolicy, HandsNewHost}
use Rattle.page.specs.Handed.{HandsDecision, HandsAdvance}
use Rattle.page.proofs.Calls.{tell}
use Rattle.page.proofs.Policy.{tell-policy, built-system-is, built-policy-is}
use Rattle.page.proofs.Advance.{recommended, next-told-is, advance-is}
use Rattle.page.proofs.Steps.{answer-is, as_many, step_is, build-is}

pub hands-system : (a : Answer) (s : System) (x : SystemOutcome) (e : page.Told)
    → system_outcome a s ≡ x → tell x ≡ e → HandsSystem a s e
hands-system a s x e says is =
    let t = ap tell says ∙ is in
    record {
      number = sym (answer-is a) ∙ ap (λ (t : page.Told). t.number) t;
      system = ap (λ (t : page.Told). t.system) t;
    }

-- ---- what building hands back

-- a result, as it is told
system_told : (r : Result System Answer)
    → tell (shape.built_outcome r) ≡ record { number = number_told r; system = else_nothing (page.new_system 0 0 0) r }
unfolding shape.fresh page.new_system
system_told (Ok s) = refl
system_told (Err a) = refl

pub hands-new-system : (d v p : ℕ) (r : Result System Answer) → shape.built_outcome r ≡ shape.built_system d v p
    → IfErr r (λ a. a ≡ TooLarge) → HandsNewSystem r (page.new_system_told d v p)
hands-new-system d v p r says large =
    let t = sym (system_told r) ∙ (ap tell says ∙ built-system-is d v p) in
    record {
      number = ap (λ (t : page.Told). t.number) t;
      system = ap (λ (t : page.Told). t.system) t;
      refused = large;
    }

policy_told : (r : Result Scheduler Answer)
    → tell-policy (accounts.built_outcome r) ≡ record { number = number_told r; policy = else_nothing (page.new_policy 0 0 0) r }
unfolding accounts.fresh_policy page.new_policy
policy_told (Ok π) = refl
policy_told (Err a) = refl

pub hands-new-policy : (d v q : ℕ) (r : Result Scheduler Answer) → accounts.built_outcome r ≡ accounts.built_policy d v q
    → IfErr r (λ a. a ≡ TooLarge) → HandsNewPolicy r (page.new_policy_told d v q)
hands-new-policy d v q r says large =
    let t = sym (policy_told r) ∙ (ap tell-policy says ∙ built-policy-is d v q) in
    record {
      number = ap (λ (t : page.PolicyTold). t.number) t;
      policy = ap (λ (t : page.PolicyTold). t.policy) t;
      refused = large;
    }

abbrev no_host : Host
no_host = record { system = page.new_system 0 0 0; scheduler = page.new_policy 0 0 0 }

host_told : (r : Result Host Answer)
    → hosts.built_outcome r ≡ record { number = number_told r; host = else_nothing no_host r; count = 0 }
unfolding shape.fresh accounts.fresh_policy page.new_system page.new_policy
host_told (Ok h) = refl
host_told (Err a) = refl

pub hands-new-host : (d v p q : ℕ) (r : Result Host Answer) → hosts.built_outcome r ≡ hosts.built_host d v p q
    → IfErr r (λ a. a ≡ TooLarge) → HandsNewHost r (build d v p q)
hands-new-host d v p q r says large =
    let t = sym (host_told r) ∙ (says ∙ build-is d v p q) in
    record {
      number = ap (λ (x : HostOutcome). x.number) t;
      host = ap (λ (x : HostOutcome). x.host) t;
      refused = large;
    }

-- ---- what moves hand back
decision_told : (r : Result Decision Answer)
    → recommended (next_outcome r) ≡ record { number = number_told r; decision = else_nothing decision.Idle r }
decision_told (Ok c) = refl
decision_told (Err a) = refl

module _ (s : System) (π : Scheduler) (now : ℕ) where
  pub hands-decision : (r : Result Decision Answer) → next_outcome r ≡ advances.next s π now
      → IfErr r (λ a. a ≡ Unsound) → HandsDecision r (page.next_told s π now)
  hands-decision r says unsound =
      let t = sym (decision_told r) ∙ (ap recommended says ∙ next-told-is s π now) in
      record {
        number = ap (λ (t : page.Recommended). t.number) t;
        decision = ap (λ (t : page.Recommended). t.decision) t;
        refused = unsound;
      }

  pub hands-advance : (r : Outcome) (u : System) (ρ : Scheduler)
      → advance_outcome r u ρ ≡ counted (advances.advance s π now) → HandsAdvance r u ρ (page.advance s π now)
  hands-advance r u ρ says =
      let t = advance-is s π now in
      record {
        number =
            sym (answer-is r.answer)
            ∙ (ap (λ (x : AdvanceOutcome). x.number) says ∙ ap (λ (t : page.Advanced). t.number) t);
        system = ap (λ (x : AdvanceOutcome). x.system) says ∙ ap (λ (t : page.Advanced). t.system) t;
        policy = ap (λ (x : AdvanceOutcome). x.policy) says ∙ ap (λ (t : page.Advanced). t.policy) t;
        count =
            ap (λ (x : AdvanceOutcome). x.count) says
            ∙ (as_many (advances.advance s π now).moves ∙ ap (λ (t : page.Advanced). length t.moves) t);
      }

pub hands-step : (h : Host) (c : Call) (r : Outcome) (g : Host)
    → host_outcome r g ≡ step_counted (steps.step h c) → Hands r g (step h c)
hands-step h c r g says =
    let t = step_is h c in
    record {
      number = sym (answer-is r.answer) ∙ (ap (λ (x : HostOutcome). x.number) says ∙ ap (λ (x : Step). x.number) t);
      host = ap (λ (x : HostOutcome). x.host) says ∙ ap (λ (x : Step). x.host) t;
      count =
          ap (λ (x : HostOutcome). x.count) says
          ∙ (as_many (steps.step h c).moves ∙ ap (λ (x : Step). length x.moves) t);
    }
