-- Each clause of demand 3 that is of every list, at the ends of the largest host, 16 × 8 on 64: the last vCPU, the last
-- pCPU, ids past them, the largest clock and weight. It is written out with the numbers themselves: a clause that said
-- less would not give it. Assumes nothing.
use Rattle.std.specs.Prelude.{None, Some}
use Prim.Native.Nat.{ℕ, ◌+◌, ◌-◌, ◌^◌, ◌≤◌, ◌<◌, min}
use mathlib.Core.Bool.{true, false, cond, ◌&&◌}
use mathlib.Core.List.{List, [], ◌∷◌, ◌++◌}
use mathlib.Core.Path.{◌≡◌, refl, ◌∙◌, ap}
use native.Mathlib.Omega.{arith}
use lib.Dec.{ltb}
use lib.ListN.{length}
use Rattle.system.specs.declared.RunState.TheVariants.{Runnable, Running}
use Rattle.system.specs.declared.VirtualCpu.{VirtualCpu}
use Rattle.system.specs.declared.Occupant.TheVariants.{Idle, Vcpu}
use Rattle.system.specs.declared.System.{System}
use Rattle.policy.specs.declared.Scheduler.{Scheduler}
use Rattle.advance.specs.declared.Decision.{Decision}
use Rattle.host.specs.declared.Host.{Host}
use Rattle.calls.specs.declared.Call.{Call}
use Rattle.page.specs.Host.{nobody, one, times, vcpu}
use Rattle.page.specs.Host as page
use Rattle.page.specs.Policy.{weight}
use Rattle.page.specs.Next.{admits, somebody}
use Rattle.page.specs.Verdict.{first_violation}
use Rattle.page.specs.Steps.{step}
use Rattle.page.specs.Reads as reads
use Rattle.page.specs.Book.{Shape, Line, Book, holder, enter}
use Rattle.page.specs.Lists.{Fresh, Sized, AllTyped, host_after, book_after, service_of, weight_from}
use Rattle.page.specs.Demand3.{At, moves_on, occupant_by}
use Rattle.page.proofs.Demand3.{demand_3}

abbrev pub k : Shape
k = record { domains = 16; vcpus = 8; pcpus = 64 }

-- a policy of e × u, and slice q
abbrev pub largest : ℕ → ℕ → ℕ → Fresh
largest e u q = record { shape = k; domains = e; vcpus = u; slice = q }

pub sizes : Sized k
sizes = record { domains = omega arith; vcpus = omega arith; pcpus = omega arith }

-- ---- every policy and slice, at every point of every list
module _ (e u q : ℕ) (cs before rest : List Call) (typed : AllTyped cs) (split : cs ≡ before ++ rest) where
  abbrev h : Host
  h = host_after (largest e u q) before

  abbrev s : System
  s = h.system

  abbrev π : Scheduler
  π = h.scheduler

  abbrev b : Book
  b = book_after (largest e u q) before

  here : At (largest e u q) cs before rest
  here = demand_3 (largest e u q) sizes cs typed before rest split

  abbrev x : VirtualCpu
  x = vcpu s 15 7

  abbrev l : Line
  l = b 15 7

  pub line-there : (x.state ≡ l.state) × (x.runtime ≡ l.time) × (x.affinity ≡ l.mask)
      × (l.state ≡ Running 63 → x.dispatched_at ≡ l.clock) × (l.mask < 2 ^ 64)
  line-there =
      let y = here.agrees.lines 15 7 (omega arith) (omega arith) in
      (y.state, y.time, y.mask, y.clock 63, here.clipped 15 7 (omega arith) (omega arith))

  pub read-there : (reads.vcpu_of s 15 7 ≡ Some x) × (reads.state_of s 15 7 ≡ Some l.state)
      × (reads.is_running s 15 7 ≡ reads.running l.state) × (reads.runtime s 15 7 ≡ Some l.time)
      × (reads.affinity_of s 15 7 ≡ Some l.mask) × (reads.affinity_permits s 15 7 63 ≡ admits l.mask 63)
      × (reads.affinity_permits s 15 7 64 ≡ false)
      × (reads.on_cpu_since s 15 7 ≡ cond (reads.running l.state) (Some l.clock) None)
  read-there =
      let a = here.agrees in (
        a.records 15 7,
        a.states 15 7,
        a.running 15 7,
        a.run-times 15 7,
        a.masks 15 7,
        a.permits 15 7 63,
        a.permits 15 7 64,
        a.clocks 15 7,
      )

  abbrev Absent : ℕ → ℕ → Type 0
  Absent d v = (reads.vcpu_of s d v ≡ None) × (reads.state_of s d v ≡ None)
      × (reads.is_running s d v ≡ false) × (reads.runtime s d v ≡ None)
      × (reads.affinity_of s d v ≡ None) × (reads.affinity_permits s d v 63 ≡ false)
      × (reads.on_cpu_since s d v ≡ None)

  pub absent-there : Absent 16 7 × Absent 15 8
  absent-there =
      let a = here.agrees in (
        (
          a.records 16 7,
          a.states 16 7,
          a.running 16 7,
          a.run-times 16 7,
          a.masks 16 7,
          a.permits 16 7 63,
          a.clocks 16 7,
        ),
        (
          a.records 15 8,
          a.states 15 8,
          a.running 15 8,
          a.run-times 15 8,
          a.masks 15 8,
          a.permits 15 8 63,
          a.clocks 15 8,
        ),
      )

  pub used-there : (reads.usage s 15 (2 ^ 64 - 1) ≡ times (λ v n. n + service_of b (2 ^ 64 - 1) 15 v) 8 0)
      × (reads.usage s 16 (2 ^ 64 - 1) ≡ 0)
  unfolding times
  used-there = let a = here.agrees in (a.used 15 (2 ^ 64 - 1), a.used 16 (2 ^ 64 - 1))

  pub holders-there : (holder k b 63 ≡ one 15 7 → reads.occupant s 63 ≡ Vcpu 15 7)
      × (holder k b 63 ≡ nobody → reads.occupant s 63 ≡ Idle) × (reads.occupant s 64 ≡ Idle)
      × (reads.busy_pcpus s ≡ times (λ p n. n + cond (somebody (holder k b p)) 1 0) 64 0)
  holders-there =
      let a = here.agrees in
      (λ y. a.holders 63 ∙ ap occupant_by y, λ y. a.holders 63 ∙ ap occupant_by y, a.holders 64, a.busy)

  pub counts-there : (page.domains s ≡ 16) × (reads.vcpu_count s 15 ≡ 8) × (reads.vcpu_count s 16 ≡ 0)
      × (page.pcpus s ≡ 64) × (reads.full_affinity s ≡ 2 ^ 64 - 1) × (first_violation s ≡ None)
  counts-there = let a = here.agrees in (a.domains, a.vcpus 15, a.vcpus 16, a.pcpus, a.full-mask, a.sound)

  pub policy-there : (π.quantum ≡ q)
      × (weight π 15 7 ≡ cond (ltb 15 (min e 16) && ltb 7 (min u 8)) (weight_from 15 7 256 before) 256)
      × (weight π 16 7 ≡ cond (ltb 16 (min e 16) && ltb 7 (min u 8)) (weight_from 16 7 256 before) 256)
  policy-there = (here.slice, here.weights 15 7, here.weights 16 7)

  pub told-there : (c : Call) (cs' : List Call) → rest ≡ c ∷ cs'
      → (step h c).number ≡ (enter k b c (step h c).moves).number
  told-there = here.told

  -- ---- the next call is an advance at the largest clock
  module _ (sliced : 1 ≤ q) (cs' : List Call) (next : rest ≡ Call.Advance (2 ^ 64 - 1) ∷ cs') where
    abbrev moves : List Decision
    moves = (step h (Call.Advance (2 ^ 64 - 1))).moves

    abbrev after : Book
    after = book_after (largest e u q) (before ++ (Call.Advance (2 ^ 64 - 1) ∷ []))

    pub advances-there : (length moves ≤ 128) × (moves_on 63 moves ≤ 2)
        × ((after 15 7).state ≡ Runnable → holder k after 63 ≡ nobody → admits (after 15 7).mask 63 ≡ true → ⊥)
    advances-there =
        let a = here.advances sliced (2 ^ 64 - 1) cs' next in
        (a.few, a.few_on 63 (omega arith), a.placed 15 7 63 (omega arith) (omega arith) (omega arith))

-- ---- the largest weight, set for 15/7; 0 is set as 1; outside the policy's shape it is always 256

abbrev weighs : List Call
weighs = Call.SetWeight 15 7 (2 ^ 32 - 1) ∷ Call.SetWeight 15 6 0 ∷ Call.SetWeight 1 2 3 ∷ []

abbrev weight_there : ℕ → ℕ → ℕ → ℕ → ℕ
weight_there e u = weight (host_after (largest e u 1) weighs).scheduler

weights-there : (e u : ℕ) → At (largest e u 1) weighs weighs []
weights-there e u =
    demand_3 (largest e u 1) sizes weighs (
      (omega arith, omega arith, omega arith),
      ((omega arith, omega arith, omega arith), ((omega arith, omega arith, omega arith), tt)),
    )
    weighs [] refl

pub weights_in_shape : (weight_there 16 8 15 7 ≡ 2 ^ 32 - 1) × (weight_there 16 8 15 6 ≡ 1)
    × (weight_there 16 8 14 7 ≡ 256) × (weight_there 16 8 16 7 ≡ 256) × (weight_there 16 8 (2 ^ 16 - 1) (2 ^ 32 - 1) ≡ 256)
unfolding weight_from
weights_in_shape = let w = (weights-there 16 8).weights in (w 15 7, w 15 6, w 14 7, w 16 7, w (2 ^ 16 - 1) (2 ^ 32 - 1))

pub weights-outside : (weight_there 2 3 15 7 ≡ 256) × (weight_there 2 3 15 6 ≡ 256) × (weight_there 2 3 1 2 ≡ 3)
unfolding weight_from
weights-outside = let w = (weights-there 2 3).weights in (w 15 7, w 15 6, w 1 2)
