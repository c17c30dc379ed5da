-- Demand 3: what holds at every point of every list of calls of a fresh host, whatever the clocks do. It is proved as `demand_3`.
use Rattle.std.specs.Prelude.{ℕ, ◌+◌, ◌-◌, ◌*◌, ◌^◌, ◌≤◌, ◌<◌, Bool, true, false, cond, ◌&&◌, List, [], ◌∷◌, ◌++◌, ◌≡◌, ltb, eqb, length, None, Some}
use Rattle.system.specs.declared.RunState.TheVariants.{Runnable, Running}
use Rattle.system.specs.declared.VirtualCpu.{VirtualCpu}
use Rattle.system.specs.declared.Occupant.{Occupant}
use Rattle.system.specs.declared.Occupant.TheVariants.{Idle, Vcpu}
use Rattle.system.specs.declared.System.{System}
use Rattle.advance.specs.declared.Decision.{Decision}
use Rattle.advance.specs.declared.Decision.TheVariants as decision
use Rattle.calls.specs.declared.Call.{Call}
use Rattle.page.specs.Host as host
use Rattle.page.specs.Host.{Found, nobody, one, times, vcpu}
use Rattle.page.specs.Policy.{account, number, weight}
use Rattle.page.specs.Standing.{service}
use Rattle.page.specs.Next.{admits, somebody}
use Rattle.page.specs.Accounting.{pooled}
use Rattle.page.specs.Verdict.{first_violation}
use Rattle.page.specs.Steps.{step}
use Rattle.page.specs.Reads as reads
use Rattle.page.specs.Book.{Shape, Line, Book, holder, full}
use Rattle.page.specs.Lists.{Fresh, Sized, AllTyped, entry, host_after, book_after, service_of, weight_after, PoolList, latest}

-- ---- The system agrees with the book: every read answers what the book says, for ids of any size

abbrev pub has : Shape → ℕ → ℕ → Bool
has k d v = ltb d k.domains && ltb v k.vcpus

abbrev pub occupant_by : Found → Occupant
occupant_by nobody = Idle
occupant_by (one d v) = Vcpu d v

-- a record has what its line says; a clock counts only while Running
pub record Says (l : Line) (x : VirtualCpu) : Type 0 where
  pub state : x.state ≡ l.state
  pub time : x.runtime ≡ l.time
  pub mask : x.affinity ≡ l.mask
  pub clock : (p : ℕ) → l.state ≡ Running p → x.dispatched_at ≡ l.clock

pub record Agrees (k : Shape) (b : Book) (s : System) : Type 0 where
  -- states, run times, masks, and the clock of each Running vCPU: in its record, and as each is read
  pub lines : (d v : ℕ) → d < k.domains → v < k.vcpus → Says (b d v) (vcpu s d v)
  pub records : (d v : ℕ) → reads.vcpu_of s d v ≡ cond (has k d v) (Some (vcpu s d v)) None
  pub states : (d v : ℕ) → reads.state_of s d v ≡ cond (has k d v) (Some (b d v).state) None
  pub running : (d v : ℕ) → reads.is_running s d v ≡ (has k d v && reads.running (b d v).state)
  pub run-times : (d v : ℕ) → reads.runtime s d v ≡ cond (has k d v) (Some (b d v).time) None
  pub masks : (d v : ℕ) → reads.affinity_of s d v ≡ cond (has k d v) (Some (b d v).mask) None
  pub permits : (d v p : ℕ) → reads.affinity_permits s d v p ≡ (has k d v && admits (b d v).mask p)
  pub clocks : (d v : ℕ)
      → reads.on_cpu_since s d v ≡ cond (has k d v && reads.running (b d v).state) (Some (b d v).clock) None
  -- what a domain used up to a reading: the services of its vCPUs there
  pub used : (d r : ℕ) → reads.usage s d r ≡ times (λ v n. n + service_of b r d v) (cond (ltb d k.domains) k.vcpus 0) 0
  -- who holds each pCPU, and how many are held
  pub holders : (p : ℕ) → reads.occupant s p ≡ cond (ltb p k.pcpus) (occupant_by (holder k b p)) Idle
  pub busy : reads.busy_pcpus s ≡ times (λ p n. n + cond (somebody (holder k b p)) 1 0) k.pcpus 0
  -- the shape, the full mask, and the verdict
  pub domains : host.domains s ≡ k.domains
  pub vcpus : (d : ℕ) → reads.vcpu_count s d ≡ cond (ltb d k.domains) k.vcpus 0
  pub pcpus : host.pcpus s ≡ k.pcpus
  pub full-mask : reads.full_affinity s ≡ full k
  pub sound : first_violation s ≡ None

-- ---- After an advance

-- how many of the moves are on pCPU p
abbrev pub is_on : ℕ → Decision → Bool
is_on p (decision.Run d v q) = eqb q p
is_on p (decision.Preempt d v q) = eqb q p
is_on p decision.Idle = false

unfoldable pub moves_on : ℕ → List Decision → ℕ
moves_on p [] = 0
moves_on p (m ∷ ms) = cond (is_on p m) 1 0 + moves_on p ms

-- the moves that it made, and the book as it returns
pub record Advances (k : Shape) (b : Book) (moves : List Decision) : Type 0 where
  -- at most two moves a pCPU: in all, and on each
  pub few : length moves ≤ 2 * k.pcpus
  pub few_on : (p : ℕ) → p < k.pcpus → moves_on p moves ≤ 2
  -- no vCPU waits beside an idle pCPU that its mask admits
  pub placed : (d v p : ℕ) → d < k.domains → v < k.vcpus → p < k.pcpus
      → (b d v).state ≡ Runnable → holder k b p ≡ nobody → admits (b d v).mask p ≡ true → ⊥

-- ---- In a pool whose advances are at most g apart

pub record Pools (f : Fresh) (g : ℕ) (cs : List Call) : Type 0 where
  -- every offset is 0, so that the service by which vCPUs are ranked is the book's
  pub offsets : (d v : ℕ) → number (account (host_after f cs).scheduler d v).offset ≡ 0
  pub services : (d v r : ℕ) → d < f.shape.domains → v < f.shape.vcpus → r < 2 ^ 64
      → let h = host_after f cs in
      service h.system h.scheduler r d v ≡ service_of (book_after f cs) r d v
  -- S_i · w_j ≤ S_j · w_i + (Q + G − 1) · w_j for i in the pool, which is d/v, and j waiting, which is e/u, at every reading up to G
  -- after the latest advance
  pub lag : 1 ≤ f.slice → (t r : ℕ) → latest cs ≡ Some t → r ≤ t + g
      → (d v e u : ℕ) → d < f.shape.domains → v < f.shape.vcpus → e < f.shape.domains → u < f.shape.vcpus
      → let b = book_after f cs in
      pooled (b d v).state ≡ true → (b e u).state ≡ Runnable
      → let w = weight_after f cs in
      service_of b r d v * w e u ≤ service_of b r e u * w d v + (f.slice + g - 1) * w e u

-- ---- At a point of the list cs: the calls before it, and those that follow

pub record At (f : Fresh) (cs before rest : List Call) : Type 0 where
  pub agrees : Agrees f.shape (book_after f before) (host_after f before).system
  -- stored masks are clipped: no bit at or above the pCPU count is set
  pub clipped : (d v : ℕ) → d < f.shape.domains → v < f.shape.vcpus → (book_after f before d v).mask < 2 ^ f.shape.pcpus
  -- the weight looked up is the one that the list's weight calls leave, for ids of any size; the slice is the one asked for
  pub weights : (d v : ℕ) → weight (host_after f before).scheduler d v ≡ weight_after f before d v
  pub slice : (host_after f before).scheduler.quantum ≡ f.slice
  -- the next call is told what the book tells it
  pub told : (c : Call) (cs' : List Call) → rest ≡ c ∷ cs'
      → let h = host_after f before in
      (step h c).number ≡ (entry f.shape h (book_after f before) c).number
  -- an advance, with a slice of 1 or more: with slice 0 a vCPU has expired as it is dispatched
  pub advances : 1 ≤ f.slice → (now : ℕ) (cs' : List Call) → rest ≡ Call.Advance now ∷ cs'
      → Advances f.shape (book_after f (before ++ (Call.Advance now ∷ []))) (step (host_after f before) (Call.Advance now)).moves
  pub pools : (g : ℕ) → PoolList f g cs → Pools f g before

abbrev pub Demand3 : Type 0
Demand3 = (f : Fresh) → Sized f.shape → (cs : List Call) → AllTyped cs
    → (before rest : List Call) → cs ≡ before ++ rest → At f cs before rest
