-- What stands beside demand 3, on the largest host, 16 × 8 on 64, with a policy of any shape and any slice: who holds
-- a pCPU since when, the pCPU that each was last on, whose weight was not set, and that no run time is cut. It is
-- written out with the numbers themselves: a theorem that said less would not give it. Assumes nothing.
use Prim.Native.Nat.{ℕ, ◌+◌, ◌-◌, ◌^◌, ◌≤◌, ◌<◌}
use mathlib.Core.Path.{◌≡◌, refl, ◌∙◌, subst}
use mathlib.Core.List.{List, [], ◌∷◌, ◌++◌}
use native.Mathlib.Omega.{arith}
use borrow.Author.Rules.{rules}
use Rattle.service.specs.Service.{more_deserving}
use Rattle.system.specs.declared.RunState.{RunState}
use Rattle.system.specs.declared.RunState.TheVariants.{Offline, Running}
use Rattle.system.specs.declared.System.{System}
use Rattle.system.specs.Reads.{state_at, last_at}
use Rattle.scans.specs.Scan.{scan}
use Rattle.policy.specs.declared.Scheduler.{Scheduler}
use Rattle.policy.specs.Standing.{weight_at, service_at, deserves}
use Rattle.calls.specs.declared.Call.{Call}
use Rattle.calls.specs.Asked as call
use Rattle.host.specs.Step.{step}
use Rattle.demand3.specs.Dated.{Dated, onto, dated}
use Rattle.demand3.specs.Book.{Book, Shape, Entry, blank_book, closed, holder, unwritten, enter}
use Rattle.demand3.specs.ServiceMachine.{service_machine}
use Rattle.demand3.specs.Lists.{AllTyped, after_all, book_after, Clock, clock_of, Forward}
use Rattle.demand3.specs.Lists as lists
use Rattle.demand3.specs.Fresh.{Fresh, first_host, host_at, book_at, moves_at}
use Rattle.demand3.specs.Holding.{free, holding, hold_after, Turns, AllAt, AllWithin, MovesTell}
use Rattle.demand3.specs.LastPcpu.{last_after}
use Rattle.demand3.specs.Weights.{weight_through}
use Rattle.demand3.specs.Unset as unset
use Rattle.demand3.specs.Uncut.{Uncut}
use Rattle.demand3.specs.Demand3.{Demand-3}
use Rattle.demand3.proofs.Laws.{demand_3, uncut, unset-ranks, last-kept, moves-tell, moved-done}
use Rattle.situations.proofs.Extremes.{last-vcpu, largest-shape, largest-host}
use Rattle.situations.proofs.LargestHost.{present}

abbrev k : Shape
k = largest-shape

-- of moves that are all at a clock, a later one too
later-dated : (t : Clock) (before rest : List Dated) (m : Dated) → AllAt t (before ++ (m ∷ rest))
    → t ≡ lists.at m.clock
later-dated t [] rest m a = a.0
later-dated t (x ∷ before) rest m a = later-dated t before rest m a.1

-- of moves onto pCPUs of the host, a later one too
later-within : (before rest : List Dated) (i p now : ℕ) → AllWithin 64 (before ++ (dated onto i p now ∷ rest))
    → p < 64
later-within [] rest i p now a = a.0
later-within (x ∷ before) rest i p now a = later-within before rest i p now a.1

-- under a policy, slot i counts as one of weight 256 against everybody, on any system at any clock
abbrev Standard : Scheduler → ℕ → Type 0
Standard π i = (s : System) (now j : ℕ)
    → (deserves s π now i j ≡ more_deserving (service_at s π now i) 256 (service_at s π now j) (weight_at π j))
    × (deserves s π now j i ≡ more_deserving (service_at s π now j) (weight_at π j) (service_at s π now i) 256)

module _ (e u q : ℕ) where
  abbrev f : Fresh
  f = largest-host e u q

  -- ---- at every point of every list

  module _ (cs : List Call) where
    abbrev b : Book
    b = book_at f cs

    abbrev s : System
    s = (host_at f cs).system

    abbrev moves : List Dated
    moves = moves_at f cs

    tells : MovesTell service_machine k (λ p. free) (host_at f cs) b moves
    tells = moves-tell f cs

    pub holds-there : (p : ℕ) → (holding k b p ≡ hold_after p free moves) × Turns p free moves (holding k b p)
    holds-there p = (tells.last p, tells.turns p)

    -- whoever went onto a pCPU, whatever was moved before and whatever after
    pub within-there : (before rest : List Dated) (i p now : ℕ) → moves ≡ before ++ (dated onto i p now ∷ rest)
        → p < 64
    within-there before rest i p now x = later-within before rest i p now (subst (AllWithin 64) x tells.within)

    abbrev entered : Call → Entry
    entered c = enter k b c (step (host_at f cs) c).moves

    -- a move of the next call, whatever was moved before it and whatever after
    pub dated-there : (c : Call) (before rest : List Dated) (m : Dated) → (entered c).moves ≡ before ++ (m ∷ rest)
        → clock_of c ≡ lists.at m.clock
    dated-there c before rest m x = later-dated (clock_of c) before rest m (subst (AllAt (clock_of c)) x (tells.clocks c))

    pub unmoved-there : (c : Call) → ((entered c).number ≡ 0 → ⊥) → entered c ≡ unwritten (entered c).number b
    unmoved-there c = tells.refused c

    pub last-there : (i : ℕ) → i < 128 → (last_at s i ≡ last_after service_machine k (first_host f) (blank_book k) i 64 cs)
        × ((p : ℕ) → state_at s i ≡ Running p → last_at s i ≡ p) × (state_at s i ≡ Offline → last_at s i ≡ 64)
    last-there i l =
        let y = last-kept f cs i (present i l) in
        (y.last, y.running, y.offline)

  -- ---- where no weight is set

  -- the list sets a weight for the last slot alone
  pub unset-there : Standard (host_at f last-vcpu).scheduler 126
  unfolding weight_through
  unset-there s now j =
      let y = unset-ranks f last-vcpu 126 (unset.none (λ w. refl)) s now in
      (y.before j, y.behind j)

-- the policy has 15 domains, or 7 vCPUs in each: whatever is set, the last slot is outside
pub outside-there : (q : ℕ) (cs : List Call)
    → Standard (host_at (largest-host 15 8 q) cs).scheduler 127
    × Standard (host_at (largest-host 16 7 q) cs).scheduler 127
outside-there q cs = (
  λ s now j.
      let y = unset-ranks (largest-host 15 8 q) cs 127 (unset.outside refl) s now in (y.before j, y.behind j),
  λ s now j.
      let y = unset-ranks (largest-host 16 7 q) cs 127 (unset.outside refl) s now in (y.before j, y.behind j),
)

-- ---- where clocks do not run back: the last vCPU runs on the last pCPU from t₁ to t₂, and an advance is at t₃; a run is refused at clock 0

abbrev forward : ℕ → ℕ → ℕ → List Call
forward t₁ t₂ t₃ = call.admit 15 7 ∷ call.run 15 7 63 t₁ ∷ call.preempt 15 7 t₂ ∷ call.run 15 7 64 0 ∷ Call.Advance t₃ ∷ []

module _ (e u q t₁ t₂ t₃ : ℕ) (l : t₁ ≤ t₂) (m : t₂ ≤ t₃) (n : t₃ < 2 ^ 64) where
  abbrev fresh : Fresh
  fresh = largest-host e u q

  abbrev cs : List Call
  cs = forward t₁ t₂ t₃

  typed : AllTyped cs
  typed = let x : t₁ < 2 ^ 64 = omega arith in let y : t₂ < 2 ^ 64 = omega arith in search rules

  demanded : Demand-3 fresh cs
  demanded = demand_3 fresh cs typed

  -- the calls before the advance
  abbrev off : List Call
  off = call.admit 15 7 ∷ call.run 15 7 63 t₁ ∷ call.preempt 15 7 t₂ ∷ []

  abbrev start : List Call
  start = off ++ (call.run 15 7 64 0 ∷ [])

  advanced : (step (host_at fresh start) (Call.Advance t₃)).number ≡ 0
  unfolding enter
  advanced =
      ((demanded start _ refl).call (Call.Advance t₃)).told
      ∙ moved-done (book_at fresh start) t₃ (step (host_at fresh start) (Call.Advance t₃)).moves

  going : Forward service_machine (first_host fresh) 0 cs t₃
  unfolding after_all book_after enter holder scan
  going =
      lists.untimed refl
      (lists.timed {c = 0} {n = t₁} ((demanded (call.admit 15 7 ∷ []) _ refl).call (call.run 15 7 63 t₁)).told refl (omega arith)
      (lists.timed {c = t₁} {n = t₂} ((demanded (call.admit 15 7 ∷ call.run 15 7 63 t₁ ∷ []) _ refl).call (call.preempt 15 7 t₂)).told refl l
      (lists.refused {h = host_at fresh off} {x = call.run 15 7 64 0} (λ f. omega (arith, ((demanded off _ refl).call (call.run 15 7 64 0)).told))
      (lists.timed {c = t₂} {n = t₃} advanced refl m lists.done))))

  abbrev book : Book
  book = book_at fresh cs

  whole : Uncut k book t₃
  whole = uncut fresh cs t₃ going

  pub early-there : (i : ℕ) → i < 128 → ((book i).time ≤ t₃)
      × ((p : ℕ) → (book i).state ≡ Running p → ((book i).time ≤ (book i).clock) × ((book i).clock ≤ t₃))
  early-there i y = (whole.early.times i (present i y), λ p. whole.early.running i p (present i y))

  pub exact-there : (i p now : ℕ) (st : RunState) → i < 128 → (book i).state ≡ Running p → t₃ ≤ now → now < 2 ^ 64
      → (closed (book i) st now).time ≡ (book i).time + (now - (book i).clock)
  exact-there i p now st y = whole.exact i p now st (present i y)
