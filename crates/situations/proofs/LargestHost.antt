-- Each clause of demand 3 that is of every list, on the largest host, 16 × 8 on 64, at every point of a list of every
-- call. It is written out with the numbers themselves: a clause that said less would not give it. Assumes nothing.
use Rattle.std.specs.Prelude.{None, Some}
use Prim.Native.Nat.{ℕ, ◌+◌, ◌-◌, ◌*◌, ◌^◌, ◌≤◌, ◌<◌}
use mathlib.Core.Bool.{true, false, cond, ◌&&◌}
use mathlib.Core.Path.{◌≡◌, refl}
use mathlib.Core.Logic.{◌⊎◌}
use mathlib.Core.List.{List, [], ◌∷◌, ◌++◌}
use native.Mathlib.Omega.{arith}
use lib.Dec.{ltb}
use lib.ListN.{length}
use Rattle.masks.specs.Masks.{bit, permits}
use Rattle.system.specs.declared.RunState.TheVariants.{Runnable, Running}
use Rattle.system.specs.declared.VirtualCpu.{VirtualCpu}
use Rattle.system.specs.declared.Occupant.TheVariants.{Idle}
use Rattle.system.specs.declared.System.{System}
use Rattle.system.specs.States.{while_running}
use Rattle.system.specs.Slots.{domains, pcpus}
use Rattle.system.specs.Reads.{vcpu_at, occupant_at, vcpu_of, state_of, is_running, runtime_of, on_cpu_since, affinity_of}
use Rattle.system.specs.Reads.{affinity_permits}
use Rattle.system.specs.Reads.{occupant_of, vcpu_count, full_affinity, busy_pcpus, count}
use Rattle.verdict.specs.Violations.{first_violation}
use Rattle.scans.specs.Scan.{nobody, some}
use Rattle.policy.specs.Accounts.{weight_of}
use Rattle.policy.specs.declared.Scheduler.{Scheduler}
use Rattle.rules.specs.Settle.{moves_on}
use Rattle.moves.specs.declared.Choice.{Choice}
use Rattle.usage.specs.Usage.{usage, sum}
use Rattle.host.specs.declared.Host.{Host}
use Rattle.calls.specs.declared.Call.{Call}
use Rattle.host.specs.Step.{step}
use Rattle.demand3.specs.Book.{Line, Book, Shape, holder, occupant_by, enter}
use Rattle.demand3.specs.Agreement.{PresentIn}
use Rattle.demand3.specs.Lists.{book_service}
use Rattle.demand3.specs.Fresh.{Fresh, host_at, book_at}
use Rattle.demand3.specs.AfterAdvance.{AfterAdvance}
use Rattle.demand3.specs.Demand3.{Point}
use Rattle.demand3.specs.Reads.{ReadsLine, ReadsAgree}
use Rattle.demand3.specs.Weights.{weight_through, weight_after}
use Rattle.situations.proofs.Extremes.{every_call, largest-shape, largest-host, largest}

abbrev k : Shape
k = largest-shape

pub present : (i : ℕ) → i < 128 → PresentIn k i
present i l = record { domain = omega arith; vcpu = omega arith }

-- a policy of any shape, and any slice
module _ (e u q : ℕ) where
  abbrev f : Fresh
  f = largest-host e u q

  module _ (before rest : List Call) (x : every_call ≡ before ++ rest) where
    abbrev b : Book
    b = book_at f before

    abbrev h : Host
    h = host_at f before

    abbrev s : System
    s = h.system

    abbrev π : Scheduler
    π = h.scheduler

    point : Point f every_call before
    point = largest e u q before rest x

    -- ---- the system

    pub shape-there : (s.domain_count ≡ 16) × (s.vcpus_per_domain ≡ 8) × (s.pcpu_count ≡ 64)
    shape-there = let a = point.here.agrees.shape in (a.domains, a.vcpus, a.pcpus)

    pub lines-there : (i : ℕ) → i < 128
        → ((b i).state ≡ (vcpu_at s i).state) × ((b i).time ≡ (vcpu_at s i).runtime) × ((b i).mask ≡ (vcpu_at s i).affinity)
        × ((p : ℕ) → (vcpu_at s i).state ≡ Running p → (b i).clock ≡ (vcpu_at s i).dispatched_at)
    lines-there i l = let a = point.here.agrees.lines i (present i l) in (a.state, a.time, a.mask, a.clock)

    pub holders-there : (p : ℕ) → p < 64 → occupant_at s p ≡ occupant_by (holder k b p)
    holders-there = point.here.agrees.holders

    pub masks-there : ((i : ℕ) → i < 128 → (b i).mask < 2 ^ 64)
        × ((d v p : ℕ) → d < 16 → v < 8 → affinity_permits s d v p ≡ bit (b (d * 8 + v)).mask p)
    masks-there = ((λ i l. point.here.masks i (present i l)), point.here.admits)

    -- ---- its reads

    reads : ReadsAgree k b s
    reads = point.here.reads

    module _ (d v : ℕ) (l : d < 16) (m : v < 8) where
      abbrev here : Line
      here = b (d * 8 + v)

      r : ReadsLine s d v 64 here
      r = reads.line d v l m

      pub record_read : (a : VirtualCpu) × (vcpu_of s d v ≡ Some a) × (here.state ≡ a.state) × (here.time ≡ a.runtime)
          × (here.mask ≡ a.affinity) × ((p : ℕ) → a.state ≡ Running p → here.clock ≡ a.dispatched_at)
      record_read = let y = r.says in (r.read, r.vcpu, y.state, y.time, y.mask, y.clock)

      pub parts-read : (state_of s d v ≡ Some here.state) × (is_running s d v ≡ while_running here.state (λ p. true) false)
          × (runtime_of s d v ≡ Some here.time) × (affinity_of s d v ≡ Some here.mask)
          × (on_cpu_since s d v ≡ while_running here.state (λ p. Some here.clock) None)
          × ((p : ℕ) → affinity_permits s d v p ≡ (ltb p 64 && bit here.mask p))
      parts-read = (r.state, r.running, r.runtime, r.affinity, r.since, r.permits)

    pub absent-read : (d v : ℕ) → (16 ≤ d) ⊎ (8 ≤ v)
        → (vcpu_of s d v ≡ None) × (state_of s d v ≡ None) × (is_running s d v ≡ false)
        × (runtime_of s d v ≡ None) × (on_cpu_since s d v ≡ None) × (affinity_of s d v ≡ None)
        × ((p : ℕ) → affinity_permits s d v p ≡ false)
    absent-read d v l =
        let a = reads.absent d v l in (a.vcpu, a.state, a.running, a.runtime, a.since, a.affinity, a.permits)

    pub usage-read : ((d r : ℕ) → d < 16 → usage s d r ≡ sum (λ v. book_service b r (d * 8 + v)) 8) × ((d r : ℕ) → 16 ≤ d → usage s d r ≡ 0)
    usage-read = (reads.used, reads.unused)

    pub pcpus-read : ((p : ℕ) → p < 64 → occupant_of s p ≡ occupant_by (holder k b p)) × ((p : ℕ) → 64 ≤ p → occupant_of s p ≡ Idle)
        × (busy_pcpus s ≡ count (λ p. some (holder k b p)) 64)
    pcpus-read = (reads.occupant, reads.no_occupant, reads.busy)

    pub counts-read : (domains s ≡ 16) × ((d : ℕ) → vcpu_count s d ≡ cond (ltb d 16) 8 0) × (pcpus s ≡ 64)
        × (full_affinity s ≡ 2 ^ 64 - 1) × (first_violation s ≡ None)
    counts-read = (reads.domains, reads.vcpus, reads.pcpus, reads.full, reads.verdict)

    -- ---- the policy

    pub policy-there : (π.quantum ≡ q) × ((d v : ℕ) → weight_of π d v ≡ weight_after e u before d v)
    policy-there = (point.set.slice, point.set.weights)

    -- ---- the next call, whichever it is

    pub told-there : (c : Call) → (step h c).number ≡ (enter k b c (step h c).moves).number
    told-there c = (point.call c).told

    -- an advance, where the slice is 1 or more
    module _ (sliced : 1 ≤ q) (now : ℕ) where
      abbrev moves : List Choice
      moves = (step h (Call.Advance now)).moves

      abbrev after : Book
      after = book_at f (before ++ (Call.Advance now ∷ []))

      returned : AfterAdvance k moves after
      returned = point.advance sliced now

      pub moves-there : (length moves ≤ 128) × ((p : ℕ) → p < 64 → moves_on p moves ≤ 2)
      moves-there = (returned.moves, returned.moves-on)

      pub placed-there : (i p : ℕ) → i < 128 → p < 64 → (after i).state ≡ Runnable → holder k after p ≡ nobody
          → permits (after i).mask p ≡ true → ⊥
      placed-there i p l = returned.placed i p (present i l)

-- ---- the weights that the list leaves: the largest, which is set for the last vCPU; 256 for its neighbours, and outside the shape

pub weights-there : let π = (host_at (largest-host 16 8 1) every_call).scheduler in
    (weight_of π 15 7 ≡ 2 ^ 32 - 1) × (weight_of π 15 6 ≡ 256) × (weight_of π 14 7 ≡ 256) × (weight_of π 16 0 ≡ 256)
    × (weight_of π (2 ^ 16 - 1) (2 ^ 32 - 1) ≡ 256)
unfolding weight_through
weights-there = let w = (largest 16 8 1 every_call [] refl).set.weights in (w 15 7, w 15 6, w 14 7, w 16 0, w (2 ^ 16 - 1) (2 ^ 32 - 1))
