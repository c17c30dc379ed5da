-- Where no offset is set and no product is held, vCPUs are ranked by exact service over weight. Assumes nothing.
use Prim.Native.Nat.{ℕ, ◌+◌, ◌*◌, ◌-◌, ◌/◌, ◌%◌, ◌^◌, ◌≤◌, ◌<◌, min}
use mathlib.Core.Bool.{true, false}
use mathlib.Core.Path.{◌≡◌, sym, ◌∙◌, ap, ap₂, subst}
use native.Mathlib.Nat.{add-zero, lt_of_lt_of_le}
use lib.Dec.{ltb, lit≤}
use borrow.Author.Tests.{ltb-true, ltb-false}
use Rattle.service.specs.Service.{more_deserving}
use Rattle.service.specs.Laws.{below-limit, deserving-exact, product-below}
use Rattle.system.specs.declared.System.{System}
use Rattle.system.specs.Records.{runtime_until}
use Rattle.system.specs.Reads.{vcpu_at}
use Rattle.scans.specs.Scan.{Ranks}
use Rattle.policy.specs.declared.Scheduler.{Scheduler}
use Rattle.policy.specs.Accounts.{offset_of}
use Rattle.policy.specs.Standing.{weight_at, service_by, service_at, deserves}
use Rattle.rules.specs.Rules.{beats}
use Rattle.policy.specs.Exact.{unheld-ranks}
use Rattle.advance.specs.ServiceRule.{rule_of}

-- service without the offset
abbrev pub raw_service : System → ℕ → ℕ → ℕ
raw_service s now i = runtime_until (vcpu_at s i) now

-- no offset is set, weights are those of 32 bits, and no service times a weight can be held
pub record Level (s : System) (π : Scheduler) (now : ℕ) : Type 0 where
  pub offsets : (i : ℕ) → offset_of π (i / 8) (i % 8) ≡ 0
  pub weights : (i : ℕ) → weight_at π i < 2 ^ 32
  pub services : (i : ℕ) → raw_service s now i < 2 ^ 96

module _ {s : System} {π : Scheduler} {now : ℕ} (L : Level s π now) where
  pub service-raw : (i : ℕ) → service_at s π now i ≡ raw_service s now i
  unfolding service_by
  service-raw i =
      ap (λ (o : ℕ). min (raw_service s now i + o) (2 ^ 128 - 1)) (L.offsets i)
      ∙ (ap (λ (n : ℕ). min n (2 ^ 128 - 1)) (add-zero (raw_service s now i)) ∙ below-limit _ (2 ^ 128) (lt_of_lt_of_le (L.services i) (lit≤ tt)))

  pub beats-exact : (i j : ℕ)
      → beats (rule_of π) s now i j ≡ ltb (raw_service s now i * weight_at π j) (raw_service s now j * weight_at π i)
  beats-exact i j =
      ap₂ (λ (a b : ℕ). more_deserving a (weight_at π i) b (weight_at π j)) (service-raw i) (service-raw j)
      ∙ deserving-exact (raw_service s now i) (weight_at π i) (raw_service s now j) (weight_at π j)
      (product-below _ _ (L.services i) (L.weights j)) (product-below _ _ (L.services j) (L.weights i))

  pub beats-before : (i j : ℕ) → beats (rule_of π) s now i j ≡ true
      → raw_service s now i * weight_at π j < raw_service s now j * weight_at π i
  beats-before i j e = ltb-true _ _ (sym (beats-exact i j) ∙ e)

  pub beats-not : (i j : ℕ) → beats (rule_of π) s now i j ≡ false
      → raw_service s now j * weight_at π i ≤ raw_service s now i * weight_at π j
  beats-not i j e = ltb-false _ _ (sym (beats-exact i j) ∙ e)

  pub level_ranks : {P : ℕ → Type 0} → Ranks P (beats (rule_of π) s now)
  unfolding deserves
  level_ranks =
      unheld-ranks
      (record {
        products = λ i j n l m.
            subst (λ (a : ℕ). a * weight_at π j < 2 ^ 128) (sym (service-raw i)) (product-below (raw_service s now i) (weight_at π j) (L.services i) (L.weights j));
      })
