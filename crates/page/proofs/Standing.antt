-- Counts, look-ups, service and order are the page's, of any system and any policy. Assumes nothing.
use Prim.Native.Nat.{ℕ, ◌+◌, ◌-◌, ◌*◌, ◌/◌, ◌%◌, ◌^◌}
use mathlib.Core.List.{List, [], ◌∷◌}
use mathlib.Core.Path.{◌≡◌, refl, sym, ◌∙◌, ap, ap₂}
use native.Mathlib.Omega.{arith}
use Rattle.service.specs.Service.{value, held, limbs, more_deserving}
use Rattle.system.specs.declared.RunState.{RunState}
use Rattle.system.specs.declared.RunState.TheVariants.{Offline, Runnable, Running, Blocked}
use Rattle.system.specs.declared.VirtualCpu.{VirtualCpu}
use Rattle.system.specs.declared.System.{System}
use Rattle.system.specs.Slots as slots
use Rattle.system.specs.Slots.{slot_of}
use Rattle.system.specs.Records as records
use Rattle.system.specs.Reads.{vcpu_at, occupant_at}
use Rattle.policy.specs.declared.Account.{Account}
use Rattle.policy.specs.declared.Scheduler.{Scheduler}
use Rattle.policy.specs.Accounts as accounts
use Rattle.policy.specs.Accounts.{account_at, account_of}
use Rattle.policy.specs.Standing.{service_of, service_by, service_at, deserves}
use Rattle.page.specs.Page.{vcpu, holder, account, weight, number, four, hold, in_flight, service, deserving}
use Rattle.page.specs.Page as page

pub domains_are : (s : System) → slots.domains s ≡ page.domains s
domains_are s = refl

pub vcpus_are : (s : System) → slots.vcpus s ≡ page.vcpus s
vcpus_are s = refl

pub pcpus_are : (s : System) → slots.pcpus s ≡ page.pcpus s
pcpus_are s = refl

pub vcpu-is : (s : System) (i : ℕ) → vcpu_at s i ≡ vcpu s (i / 8) (i % 8)
unfolding vcpu_at
vcpu-is s i = ap (λ (n : ℕ). vcpu_at s n) (sym (slot_of i))

pub holder-is : (s : System) (p : ℕ) → occupant_at s p ≡ holder s p
unfolding occupant_at
holder-is s p = refl

pub account-is : (π : Scheduler) (d v : ℕ) → account_of π d v ≡ account π d v
unfolding account_of account_at
account-is π d v = refl

pub weight_is : (π : Scheduler) (d v : ℕ) → accounts.weight_of π d v ≡ weight π d v
unfolding account_of account_at
weight_is π d v = refl

pub number_is : (l : List ℕ) → value l ≡ number l
unfolding value
number_is [] = refl
number_is (x ∷ xs) = ap (λ (n : ℕ). n * 2 ^ 32 + x) (number_is xs) ∙ omega arith

pub offset-is : (π : Scheduler) (d v : ℕ) → accounts.offset_of π d v ≡ number (account π d v).offset
unfolding account_of account_at
offset-is π d v = number_is (account π d v).offset

pub four_is : (n : ℕ) → held n ≡ four (hold n)
unfolding held limbs
four_is n = refl

pub flight-is : (x : VirtualCpu) (now : ℕ) → records.in_flight x now ≡ in_flight x.state (now - x.dispatched_at)
unfolding records.in_flight
flight-is x now = go x.state
  where
    go : (st : RunState) → records.flight x now st ≡ in_flight st (now - x.dispatched_at)
    go Offline = refl
    go Runnable = refl
    go (Running p) = refl
    go Blocked = refl

-- by two records
pub service-by-is : (x : VirtualCpu) (a : Account) (now : ℕ)
    → held (service_of x a now) ≡ four (hold (x.runtime + in_flight x.state (now - x.dispatched_at) + number a.offset))
service-by-is x a now =
    four_is _ ∙ ap₂ (λ (n m : ℕ). four (hold (x.runtime + n + m))) (flight-is x now) (number_is a.offset)

pub service-is : (s : System) (π : Scheduler) (now i : ℕ) → service_at s π now i ≡ service s π now (i / 8) (i % 8)
unfolding service_by account_of account_at
service-is s π now i =
    let a = account π (i / 8) (i % 8) in
    ap (λ (x : VirtualCpu). hold (x.runtime + records.in_flight x now + value a.offset)) (vcpu-is s i)
    ∙ (ap (λ (n : ℕ). hold ((vcpu s (i / 8) (i % 8)).runtime + n + value a.offset)) (flight-is (vcpu s (i / 8) (i % 8)) now)
    ∙ ap (λ (n : ℕ). hold ((vcpu s (i / 8) (i % 8)).runtime + in_flight (vcpu s (i / 8) (i % 8)).state (now - (vcpu s (i / 8) (i % 8)).dispatched_at) + n))
    (number_is a.offset))

pub deserves-is : (s : System) (π : Scheduler) (now i j : ℕ) → deserves s π now i j ≡ deserving s π now (i / 8) (i % 8) (j / 8) (j % 8)
unfolding deserves more_deserving account_of account_at
deserves-is s π now i j =
    ap₂ (λ (x y : ℕ). more_deserving x (weight π (i / 8) (i % 8)) y (weight π (j / 8) (j % 8))) (service-is s π now i) (service-is s π now j)
