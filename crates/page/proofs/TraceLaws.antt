-- A host's text is the page's, of any system and any policy. Assumes nothing.
use Prim.Native.Nat.{ℕ, zero, suc, ◌*◌, ◌/◌, ◌%◌, ◌≤◌}
use mathlib.Core.Bool.{Bool, true, false, cond}
use mathlib.Core.List.{List, [], ◌∷◌, ◌++◌, append-nil}
use mathlib.Core.Path.{◌≡◌, refl, sym, ◌∙◌, ap, ap₂}
use native.Mathlib.Omega.{arith}
use lib.Dec.{ltb}
use Rattle.system.specs.declared.RunState.{RunState}
use Rattle.system.specs.declared.RunState.TheVariants.{Offline, Runnable, Running, Blocked}
use Rattle.system.specs.declared.VirtualCpu.{VirtualCpu}
use Rattle.system.specs.declared.Occupant.{Occupant}
use Rattle.system.specs.declared.Occupant.TheVariants.{Idle, Vcpu}
use Rattle.system.specs.declared.System.{System}
use Rattle.system.specs.Reads.{vcpu_at}
use Rattle.policy.specs.declared.Scheduler.{Scheduler}
use Rattle.policy.specs.Accounts.{weight_of}
use Rattle.host_text.specs.HostText as host-text
use Rattle.text.specs.Lines as lines
use Rattle.page.specs.Page.{times, domains, vcpus, pcpus, vcpu, holder, weight}
use Rattle.page.specs.Numbers.{parts}
use Rattle.page.specs.Lines.{numbers_line}
use Rattle.page.specs.Trace as page
use Rattle.page.specs.Trace.{vcpu_line, held_line}
use Rattle.page.proofs.Loops.{by_slot, by_slots}
use Rattle.page.proofs.Standing.{vcpu-is, holder-is, weight_is}
use Rattle.page.proofs.LineLaws.{numbers-line-is, pcpu-line-is}

numbers_are : (d v : ℕ) (x : VirtualCpu) (w : ℕ)
    → host-text.vcpu_numbers d v x w
    ≡ d ∷ v ∷ page.state_numbers x.state x.dispatched_at (x.runtime ∷ x.affinity ∷ w ∷ x.last ∷ [])
numbers_are d v x w = ap (λ (l : List ℕ). d ∷ v ∷ l)
    (go x.state x.dispatched_at (x.runtime ∷ x.affinity ∷ w ∷ x.last ∷ []))
  where
    go : (st : RunState) (t : ℕ) (l : List ℕ)
        → host-text.state_number st ∷ host-text.pcpu_number st ∷ host-text.clock_number t st ∷ l ≡ page.state_numbers st t l
    go Offline t l = refl
    go Runnable t l = refl
    go (Running p) t l = refl
    go Blocked t l = refl

module _ (s : System) (π : Scheduler) where
  slot-line-is : (i : ℕ)
      → lines.numbers_line (host-text.vcpu_numbers (i / 8) (i % 8) (vcpu_at s i) (weight_of π (i / 8) (i % 8)))
      ≡ vcpu_line s π (i / 8) (i % 8)
  slot-line-is i =
      numbers-line-is _
      ∙ ap numbers_line
      (ap₂ (host-text.vcpu_numbers (i / 8) (i % 8)) (vcpu-is s i) (weight_is π (i / 8) (i % 8))
      ∙ numbers_are (i / 8) (i % 8) (vcpu s (i / 8) (i % 8)) (weight π (i / 8) (i % 8)))

  small : vcpus s ≤ 8
  small = omega arith

  abbrev rows : ℕ → List ℕ
  rows n = times (by_slot (λ d v l. l ++ vcpu_line s π d v) (vcpus s) small) n []

  rows_are : (n : ℕ) → host-text.vcpu_rows s π n ≡ rows n
  unfolding host-text.vcpu_rows times
  rows_are zero = refl
  rows_are (suc n) =
      ap₂ ◌++◌ (rows_are n) (ap (λ (l : List ℕ). cond (ltb (n % 8) (vcpus s)) l []) (slot-line-is n))
      ∙ go (ltb (n % 8) (vcpus s)) (rows n)
    where
      go : (b : Bool) (l : List ℕ) → l ++ cond b (vcpu_line s π (n / 8) (n % 8)) []
          ≡ cond b (l ++ vcpu_line s π (n / 8) (n % 8)) l
      go true l = refl
      go false l = append-nil l

  held_are : (n : ℕ) → host-text.pcpu_rows s n ≡ parts n (λ p. held_line p (holder s p))
  unfolding host-text.pcpu_rows times
  held_are zero = refl
  held_are (suc p) = ap₂ ◌++◌ (held_are p) (ap (host-text.pcpu_row p) (holder-is s p) ∙ go (holder s p))
    where
      go : (o : Occupant) → host-text.pcpu_row p o ≡ held_line p o
      go Idle = refl
      go (Vcpu d v) = pcpu-line-is p d v

pub host-text-is : (s : System) (π : Scheduler) → host-text.host_text s π ≡ page.host_text s π
unfolding host-text.host_text page.host_text
host-text-is s π =
    ap₂ ◌++◌ (rows_are s π (domains s * 8) ∙ sym (by_slots (λ d v l. l ++ vcpu_line s π d v) (vcpus s) (small s π) (domains s) []))
    (held_are s π (pcpus s))
