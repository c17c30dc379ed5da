-- Placement, `next` and the limit are the page's, of any system and any policy. Assumes nothing.
use Prim.Native.Nat.{ℕ, zero, suc, ◌-◌, ◌/◌, ◌%◌, ◌≤◌}
use mathlib.Core.Bool.{Bool, true, false, cond, ◌&&◌}
use mathlib.Core.Path.{◌≡◌, refl, sym, ◌∙◌, ap, ap₂}
use native.Mathlib.Omega.{arith}
use lib.Dec.{ltb}
use Rattle.masks.specs.Masks.{permits, first}
use Rattle.system.specs.declared.RunState.{RunState}
use Rattle.system.specs.declared.RunState.TheVariants.{Offline, Runnable, Running, Blocked}
use Rattle.system.specs.declared.VirtualCpu.{VirtualCpu}
use Rattle.system.specs.declared.Occupant.{Occupant}
use Rattle.system.specs.declared.Occupant.TheVariants.{Idle, Vcpu}
use Rattle.system.specs.declared.System.{System}
use Rattle.system.specs.Slots as slots
use Rattle.system.specs.Slots.{present}
use Rattle.system.specs.States.{onto, is_runnable}
use Rattle.system.specs.Reads as reads
use Rattle.system.specs.Reads.{vcpu_at, occupant_at}
use Rattle.scans.specs.Scan.{Pick, nobody, at, scan, some, never}
use Rattle.policy.specs.declared.Scheduler.{Scheduler}
use Rattle.moves.specs.Decide as moves
use Rattle.moves.specs.Decide.{Standings, or_run, or_preempt, decide, chosen, victim, first_idle_pcpu_for}
use Rattle.rules.specs.Choices.{standings, choice, is_expired}
use Rattle.rules.specs.Settle as settle
use Rattle.advance.specs.declared.Decision.{Decision}
use Rattle.advance.specs.ServiceRule.{rule_of, beats-deserves}
use Rattle.advance.specs.Advance.{named}
use Rattle.page.specs.Page as page
use Rattle.page.specs.Page.{vcpu, holder, fits, lowest, place, placeable, waits, runnable, deserving, beaten, loses_in, loses, best, decided, next, somebody}
use Rattle.page.proofs.Loops.{who, best-scan}
use Rattle.page.proofs.Standing.{vcpu-is, deserves-is}

pub limit_is : (s : System) → settle.limit s ≡ page.limit s
limit_is s = refl

pub idle-is : (o : Occupant) → reads.is_idle o ≡ page.is_idle o
idle-is Idle = refl
idle-is (Vcpu d v) = refl

runnable-is : (st : RunState) → (is_runnable st && true) ≡ runnable st
runnable-is Offline = refl
runnable-is Runnable = refl
runnable-is (Running p) = refl
runnable-is Blocked = refl

onto-is : (st : RunState) → onto st ≡ page.pcpu_of st
onto-is Offline = refl
onto-is Runnable = refl
onto-is (Running p) = refl
onto-is Blocked = refl

pub first-is : (f g : ℕ → Bool) (n : ℕ) → ((p : ℕ) → f p ≡ g p) → first f n ≡ lowest g n
unfolding first lowest
first-is f g zero h = refl
first-is f g (suc n) h = ap₂ (λ (b : Bool) (m : ℕ). cond b zero (suc m)) (h zero) (first-is (λ p. f (suc p)) (λ p. g (suc p)) n (λ p. h (suc p)))

and_assoc : (a b c : Bool) → ((a && b) && c) ≡ (a && (b && c))
and_assoc true b c = refl
and_assoc false b c = refl

pub some_is : (r : Pick) → some r ≡ somebody (who r)
some_is nobody = refl
some_is (at i) = refl

module _ (s : System) (π : Scheduler) (now : ℕ) where
  abbrev t : Standings
  t = standings s (rule_of π) now

  abbrev at_slot : ℕ → VirtualCpu
  at_slot i = vcpu s (i / 8) (i % 8)

  usable-is : (i p : ℕ) → moves.usable t i p ≡ fits s (at_slot i) p
  unfolding standings occupant_at
  usable-is i p =
      ap₂ (λ (b : Bool) (x : VirtualCpu). (ltb p (page.pcpus s) && b) && permits x.affinity p) (idle-is (holder s p)) (vcpu-is s i)

  last-is : (i : ℕ) → t.last i ≡ (at_slot i).last
  unfolding standings
  last-is i = ap (λ (x : VirtualCpu). x.last) (vcpu-is s i)

  mask_is : (i : ℕ) → t.mask i ≡ (at_slot i).affinity
  unfolding standings
  mask_is i = ap (λ (x : VirtualCpu). x.affinity) (vcpu-is s i)

  on-is : (i : ℕ) → t.on i ≡ page.pcpu_of (at_slot i).state
  unfolding standings
  on-is i = onto-is (vcpu_at s i).state ∙ ap (λ (x : VirtualCpu). page.pcpu_of x.state) (vcpu-is s i)

  pub placement-is : (i : ℕ) → moves.placement t i ≡ place s (i / 8) (i % 8)
  unfolding moves.placement first_idle_pcpu_for
  placement-is i =
      ap₂ (λ (p q : ℕ). cond (moves.usable t i p) p q) (last-is i) (first-is (moves.usable t i) (fits s (at_slot i)) 64 (usable-is i))
      ∙ ap (λ (b : Bool). cond b (at_slot i).last (lowest (fits s (at_slot i)) 64)) (usable-is i (at_slot i).last)

  waits-is : (i : ℕ) → t.waits i ≡ (ltb (i % 8) (page.vcpus s) && waits s (i / 8) (i % 8))
  unfolding standings
  waits-is i =
      ap (λ (b : Bool). present s i && b) (runnable-is (vcpu_at s i).state)
      ∙ ap (λ (x : VirtualCpu). present s i && runnable x.state) (vcpu-is s i)

  beats-is : (i j : ℕ) → t.beats i j ≡ deserving s π now (i / 8) (i % 8) (j / 8) (j % 8)
  unfolding standings
  beats-is i j = beats-deserves s π now i j ∙ deserves-is s π now i j

  placeable-is : (i : ℕ) → moves.placeable t i ≡ (ltb (i % 8) (page.vcpus s) && placeable s (i / 8) (i % 8))
  unfolding moves.placeable
  placeable-is i =
      ap₂ (λ (b : Bool) (p : ℕ). b && ltb p 64) (waits-is i) (placement-is i)
      ∙ and_assoc (ltb (i % 8) (page.vcpus s)) (waits s (i / 8) (i % 8)) (ltb (place s (i / 8) (i % 8)) 64)

  small : page.vcpus s ≤ 8
  small = omega arith

  pub chosen_is : who (chosen t (slots.slots s)) ≡ best s (placeable s) (deserving s π now)
  unfolding chosen
  chosen_is =
      sym (best-scan (moves.placeable t) t.beats (placeable s) (deserving s π now) (page.vcpus s) small placeable-is beats-is (page.domains s))

  beaten-is : (i : ℕ) → moves.beaten t (slots.slots s) i ≡ beaten s π now (i / 8) (i % 8) (page.pcpu_of (at_slot i).state)
  unfolding moves.beaten
  beaten-is i =
      some_is (scan c never (slots.slots s))
      ∙ sym (ap somebody (best-scan c never passes (λ _ _ _ _. false) (page.vcpus s) small same (λ k j. refl) (page.domains s)))
    where
      on : ℕ
      on = page.pcpu_of (at_slot i).state

      c : ℕ → Bool
      c j = t.waits j && (permits (t.mask j) (t.on i) && t.beats j i)

      passes : ℕ → ℕ → Bool
      passes e u = waits s e u && (page.admits (vcpu s e u).affinity on && deserving s π now e u (i / 8) (i % 8))

      same : (j : ℕ) → c j ≡ (ltb (j % 8) (page.vcpus s) && passes (j / 8) (j % 8))
      same j =
          ap₂ ◌&&◌ (waits-is j) (ap₂ ◌&&◌ (ap₂ permits (mask_is j) (on-is i)) (beats-is j i))
          ∙ and_assoc (ltb (j % 8) (page.vcpus s)) (waits s (j / 8) (j % 8)) _

  expired-is : (i : ℕ)
      → t.expired i ≡ (ltb (i % 8) (page.vcpus s) && is_expired π.quantum (now - (at_slot i).dispatched_at) (at_slot i).state)
  unfolding standings
  expired-is i = ap (λ (x : VirtualCpu). present s i && is_expired π.quantum (now - x.dispatched_at) x.state) (vcpu-is s i)

  loses-is : (i : ℕ) → moves.loses t (slots.slots s) i ≡ (ltb (i % 8) (page.vcpus s) && loses s π now (i / 8) (i % 8))
  unfolding moves.loses
  loses-is i =
      ap₂ ◌&&◌ (expired-is i) (beaten-is i)
      ∙ (and_assoc (ltb (i % 8) (page.vcpus s)) _ _ ∙ ap (λ (b : Bool). ltb (i % 8) (page.vcpus s) && b) (go (at_slot i).state))
    where
      go : (st : RunState)
          → (is_expired π.quantum (now - (at_slot i).dispatched_at) st && beaten s π now (i / 8) (i % 8) (page.pcpu_of st))
          ≡ loses_in s π now (i / 8) (i % 8) st
      go Offline = refl
      go Runnable = refl
      go (Running p) = refl
      go Blocked = refl

  pub victim-is : who (victim t (slots.slots s)) ≡ best s (loses s π now) (λ d v e u. deserving s π now e u d v)
  unfolding victim
  victim-is =
      sym (best-scan (moves.loses t (slots.slots s)) (λ k j. t.beats j k) (loses s π now) (λ d v e u. deserving s π now e u d v) (page.vcpus s) small
      loses-is (λ k j. beats-is j k) (page.domains s))

  -- whatever is chosen, by its ids
  pub next-is : named (choice s (rule_of π) now) ≡ next s π now
  unfolding choice decide next
  next-is = go (chosen t (slots.slots s)) (victim t (slots.slots s)) ∙ ap₂ (decided s) chosen_is victim-is
    where
      go : (r q : Pick) → named (or_run t r (or_preempt t q)) ≡ decided s (who r) (who q)
      go (at i) q = ap (λ (p : ℕ). Decision.Run (i / 8) (i % 8) p) (placement-is i)
      go nobody (at i) = ap (λ (p : ℕ). Decision.Preempt (i / 8) (i % 8) p) (on-is i)
      go nobody nobody = refl
