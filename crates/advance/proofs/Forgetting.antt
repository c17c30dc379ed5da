-- Nothing but the pCPU of a Run depends on the pCPUs that vCPUs were last on. Assumes nothing.
use Rattle.std.specs.Prelude.{Option, None, Some, is_none}
use Rattle.std.specs.Option.{option_or}
use Prim.Native.Nat.{ℕ, zero, suc, ◌*◌, ◌/◌, ◌%◌}
use mathlib.Core.Bool.{Bool, true, false, cond, ◌&&◌}
use mathlib.Core.Path.{◌≡◌, refl, sym, ◌∙◌, ap, ap₂, subst}
use mathlib.Core.Logic.{◌⊎◌, inl, inr}
use mathlib.Core.List.{List, [], ◌∷◌, map}
use native.Mathlib.Omega.{arith}
use lib.Dec.{ltb}
use lib.ListN.{get_or}
use Rattle.scans.specs.Booleans.{zero_one}
use Rattle.service.specs.Service.{more_deserving}
use Rattle.system.specs.declared.RunState.TheVariants.{Offline}
use Rattle.system.specs.declared.VirtualCpu.{VirtualCpu}
use Rattle.system.specs.declared.Occupant.{Occupant}
use Rattle.system.specs.declared.Occupant.TheVariants.{Idle, Vcpu}
use Rattle.system.specs.declared.System.{System}
use Rattle.system.specs.Records.{no_pcpu, elapsed, in_flight}
use Rattle.system.specs.Reads.{vcpu_at, occupant_at, state_at, last_at, idle_at}
use Rattle.system.specs.Shape.{no_vcpu, within_sizes}
use Rattle.system.specs.Slots.{domains, vcpus, pcpus, slot, slots, present}
use Rattle.system.specs.States.{onto, is_runnable}
use Rattle.verdict.specs.declared.Violation.{Violation}
use Rattle.verdict.specs.declared.Violation.TheVariants.{Oversize}
use Rattle.verdict.specs.Violations.{vcpu_violation, slot_violation, occupant_violation, holder_violation, pcpu_violation}
use Rattle.verdict.specs.Violations.{earliest, first_violation, invariants_hold}
use Rattle.sched.specs.CanRun.{CanRun}
use Rattle.moves.specs.declared.Choice.{Choice}
use Rattle.moves.specs.declared.Choice.TheVariants.{Run, Preempt, Rest}
use Rattle.moves.specs.Decide.{Standings, decide}
use Rattle.moves.specs.BackToLast.{placed_back}
use Rattle.policy.specs.declared.Scheduler.{Scheduler}
use Rattle.policy.specs.Standing.{service_by, service_at, weight_at}
use Rattle.rules.specs.Choices.{is_expired, standings, choice, choice_by_lowest}
use Rattle.rules.proofs.ChoiceLaws.{choice-by-lowest}
use Rattle.advance.specs.Advance.{named, recommended, next}
use Rattle.advance.specs.BackToLast.{without_last, without_lasts, anywhere, AlikeAnywhere, NextForgets}
use Rattle.advance.specs.ServiceRule.{rule_of}
use Rattle.advance.proofs.Recommendations.{next-placed}

-- ---- a record of the table, but for that pCPU

same_at : (vs : List VirtualCpu) (i : ℕ) → without_last (get_or (map without_last vs) i no_vcpu) ≡ without_last (get_or vs i no_vcpu)
same_at [] i = refl
same_at (v ∷ vs) zero = refl
same_at (v ∷ vs) (suc i) = same_at vs i

-- none is kept of anybody; past the table everybody is Offline
none-at : (vs : List VirtualCpu) (i : ℕ)
    → let v = get_or (map without_last vs) i no_vcpu in
    (v.last ≡ no_pcpu) ⊎ (v.state ≡ Offline)
none-at [] i = inr refl
none-at (v ∷ vs) zero = inl refl
none-at (v ∷ vs) (suc i) = none-at vs i

module _ (s : System) where
  abbrev t : System
  t = without_lasts s

  same : (i : ℕ) → without_last (vcpu_at t i) ≡ without_last (vcpu_at s i)
  unfolding vcpu_at without_lasts
  same i = same_at s.vcpus i

  -- ---- the verdict

  slot_same : (i : ℕ) → slot_violation t i ≡ slot_violation s i
  unfolding slot_violation occupant_at without_lasts
  slot_same i =
      ap
      (λ (v : VirtualCpu). cond (ltb (i % 8) (vcpus s)) (vcpu_violation s (i / 8) (i % 8) v.affinity v.state) None)
      (same i)

  pcpu-same : (p : ℕ) → pcpu_violation t p ≡ pcpu_violation s p
  unfolding pcpu_violation occupant_at without_lasts
  pcpu-same p = go (occupant_at s p)
    where
      go : (o : Occupant) → holder_violation t p o ≡ holder_violation s p o
      go Idle = refl
      go (Vcpu d v) = ap (λ (x : VirtualCpu). occupant_violation (domains s) (vcpus s) x.state p d v) (same (slot d v))

  verdict-same : first_violation t ≡ first_violation s
  unfolding first_violation without_lasts
  verdict-same =
      ap₂
      (λ (f g : ℕ → Option Violation).
      cond (within_sizes s.domain_count s.vcpus_per_domain s.pcpu_count)
      (option_or (earliest f (domains s * 8)) (earliest g (pcpus s)))
      (Some Oversize))
      (λ o i. slot_same i o)
      (λ o p. pcpu-same p o)

  module _ (π : Scheduler) (now : ℕ) where
    service-same : (i : ℕ) → service_at t π now i ≡ service_at s π now i
    unfolding service_by in_flight
    service-same i = ap (λ (v : VirtualCpu). service_by π v now i) (same i)

    -- the standings by the records alone, but for where they were last
    abbrev told-by : (ℕ → VirtualCpu) → Standings
    told-by w =
        record {
          waits = λ i. present s i && (is_runnable (w i).state && true);
          expired = λ i. present s i && is_expired π.quantum (elapsed (w i) now) (w i).state;
          on = λ i. onto (w i).state;
          mask = λ i. (w i).affinity;
          last = λ i. 64;
          beats = λ i j. more_deserving (service_by π (w i) now i) (weight_at π i) (service_by π (w j) now j) (weight_at π j);
          idle = idle_at s;
        }

    lowest-same : choice_by_lowest t (rule_of π) now ≡ choice_by_lowest s (rule_of π) now
    unfolding choice_by_lowest standings service_by in_flight occupant_at without_lasts
    lowest-same = ap (λ (w : ℕ → VirtualCpu). decide (told-by w) (slots s)) (λ o i. same i o)

-- who is picked is as by the rule without that pCPU
picked-by-lowest : (s : System) (π : Scheduler) (now : ℕ)
    → anywhere (named (choice s (rule_of π) now)) ≡ anywhere (named (choice_by_lowest s (rule_of π) now))
picked-by-lowest s π now =
    ap (λ (c : Choice). anywhere (named c)) (choice-by-lowest s (rule_of π) now) ∙ go (choice_by_lowest s (rule_of π) now)
  where
    go : (c : Choice) → anywhere (named (placed_back (standings s (rule_of π) now) c)) ≡ anywhere (named c)
    go (Run i p) = refl
    go (Preempt i p) = refl
    go Rest = refl

module _ (s : System) (π : Scheduler) (now : ℕ) where
  picked : anywhere (named (choice s (rule_of π) now)) ≡ anywhere (named (choice (without_lasts s) (rule_of π) now))
  picked =
      picked-by-lowest s π now
      ∙ (ap (λ (c : Choice). anywhere (named c)) (sym (lowest-same s π now)) ∙ sym (picked-by-lowest (without_lasts s) π now))

  alike : AlikeAnywhere (next s π now) (next (without_lasts s) π now)
  unfolding next invariants_hold
  alike =
      subst (λ (w : Option Violation). AlikeAnywhere (next s π now) (recommended (is_none w) (choice (without_lasts s) (rule_of π) now)))
      (sym (verdict-same s)) (go (is_none (first_violation s)))
    where
      go : (b : Bool)
          → AlikeAnywhere (recommended b (choice s (rule_of π) now)) (recommended b (choice (without_lasts s) (rule_of π) now))
      go true = record { number = refl; decision = picked }
      go false = record { number = refl; decision = refl }

  -- nobody may go back, as nobody was anywhere
  none-back : (i : ℕ) → CanRun (without_lasts s) i (last_at (without_lasts s) i) → ⊥
  unfolding vcpu_at without_lasts
  none-back i c = go (none-at s.vcpus i)
    where
      go : (last_at (without_lasts s) i ≡ no_pcpu) ⊎ (state_at (without_lasts s) i ≡ Offline) → ⊥
      go (inl e) = let l = c.exists in omega arith
      go (inr e) = let r = c.ready in zero_one cc

pub next-forgets : NextForgets
next-forgets s π now =
    record {
      verdict = verdict-same s;
      service = service-same s π now;
      alike = alike s π now;
      lowest = λ d v p q e. (next-placed (without_lasts s) π now d v p e).lowest (none-back s π now (slot d v)) q;
    }
