-- Lists of calls of a fresh host: the book along them, the weights that they leave, and those that form a pool.
use Rattle.std.specs.Prelude.{ℕ, ◌+◌, ◌-◌, ◌%◌, ◌^◌, ◌≤◌, ◌<◌, max, min, Bool, cond, ◌&&◌, List, [], ◌∷◌, ◌++◌, ◌≡◌, ltb, eqb, Option, None, Some}
use Rattle.std.specs.Option.{option_or}
use Rattle.host.specs.declared.Host.{Host}
use Rattle.calls.specs.declared.Request.{Request}
use Rattle.calls.specs.declared.Call.{Call}
use Rattle.page.specs.Policy.{new_policy}
use Rattle.page.specs.Standing.{in_flight}
use Rattle.page.specs.Calls.{new_system}
use Rattle.page.specs.Steps.{step, after}
use Rattle.page.specs.Book.{Shape, Book, Dated, Entry, blank, full, enter}

-- ---- A fresh host: a system and a policy as built, each in a shape of its own, and a slice
pub record Fresh : Type 0 where
  pub shape : Shape
  pub domains : ℕ
  pub vcpus : ℕ
  pub slice : ℕ

abbrev pub host : Fresh → Host
host f =
    let k = f.shape in
    record { system = new_system k.domains k.vcpus k.pcpus; scheduler = new_policy f.domains f.vcpus f.slice }

-- the system is within the sizes
pub record Sized (k : Shape) : Type 0 where
  pub domains : k.domains ≤ 16
  pub vcpus : k.vcpus ≤ 8
  pub pcpus : k.pcpus ≤ 64

-- ids of 16 and 32 bits, clocks and masks of 64, weights of 32
abbrev pub TypedRequest : Request → Type 0
TypedRequest Request.Admit = Unit {0}
TypedRequest (Request.Run p now) = (p < 2 ^ 32) × (now < 2 ^ 64)
TypedRequest (Request.Preempt now) = now < 2 ^ 64
TypedRequest (Request.Block now) = now < 2 ^ 64
TypedRequest Request.Wake = Unit {0}
TypedRequest (Request.SetAffinity m) = m < 2 ^ 64
TypedRequest (Request.Offline now) = now < 2 ^ 64

abbrev pub Typed : Call → Type 0
Typed (Call.Ask d v q) = (d < 2 ^ 16) × (v < 2 ^ 32) × TypedRequest q
Typed (Call.OfflineAll d now) = (d < 2 ^ 16) × (now < 2 ^ 64)
Typed (Call.SetWeight d v w) = (d < 2 ^ 16) × (v < 2 ^ 32) × (w < 2 ^ 32)
Typed (Call.SetWakeBoost on) = Unit {0}
Typed (Call.Advance now) = now < 2 ^ 64

abbrev pub AllTyped : List Call → Type 0
AllTyped [] = Unit {0}
AllTyped (c ∷ cs) = Typed c × AllTyped cs

-- ---- The book along a list. An advance's moves are those that `advance` enacts on what the calls before it leave.
abbrev pub entry : Shape → Host → Book → Call → Entry
entry k h b c = enter k b c (step h c).moves

unfoldable pub book_from : Shape → Host → Book → List Call → Book
book_from k h b [] = b
book_from k h b (c ∷ cs) = book_from k (step h c).host (entry k h b c).book cs

-- the moves, with their clocks, in order
unfoldable pub moves_from : Shape → Host → Book → List Call → List Dated
moves_from k h b [] = []
moves_from k h b (c ∷ cs) = let e = entry k h b c in e.moves ++ moves_from k (step h c).host e.book cs

-- the host that a list leaves, its book and its moves
abbrev pub host_after : Fresh → List Call → Host
host_after f cs = after (host f) cs

abbrev pub book_after : Fresh → List Call → Book
book_after f cs = book_from f.shape (host f) (blank f.shape) cs

abbrev pub moves_after : Fresh → List Call → List Dated
moves_after f cs = moves_from f.shape (host f) (blank f.shape) cs

-- S: the book's run time, and max(0, reading − the run's clock) while Running
abbrev pub service_of : Book → ℕ → ℕ → ℕ → ℕ
service_of b reading d v = let l = b d v in l.time + in_flight l.state (reading - l.clock)

-- ---- w: 256, until a weight call of these very ids sets another, with 0 set as 1; always 256 outside the policy's shape
abbrev pub weight_by : ℕ → ℕ → ℕ → Call → ℕ
weight_by d v w (Call.SetWeight e u x) = cond (eqb e d && eqb u v) (max x 1) w
weight_by d v w (Call.Ask e u q) = w
weight_by d v w (Call.OfflineAll e now) = w
weight_by d v w (Call.SetWakeBoost on) = w
weight_by d v w (Call.Advance now) = w

unfoldable pub weight_from : ℕ → ℕ → ℕ → List Call → ℕ
weight_from d v w [] = w
weight_from d v w (c ∷ cs) = weight_from d v (weight_by d v w c) cs

abbrev pub weight_after : Fresh → List Call → ℕ → ℕ → ℕ
weight_after f cs d v =
    cond (ltb d (min f.domains 16) && ltb v (min f.vcpus 8)) (weight_from d v 256 cs) 256

-- ---- The pool lists

-- it is set up: nobody is dispatched, and masks stay full
pub data Prepares (k : Shape) : Call → Type 0 where
  admit : (d v : ℕ) → Prepares k (Call.Ask d v Request.Admit)
  block : (d v now : ℕ) → Prepares k (Call.Ask d v (Request.Block now))
  wake : (d v : ℕ) → Prepares k (Call.Ask d v Request.Wake)
  offline : (d v now : ℕ) → Prepares k (Call.Ask d v (Request.Offline now))
  offline-all : (d now : ℕ) → Prepares k (Call.OfflineAll d now)
  mask : (d v m : ℕ) → m % 2 ^ k.pcpus ≡ full k → Prepares k (Call.Ask d v (Request.SetAffinity m))
  weigh : (d v w : ℕ) → Prepares k (Call.SetWeight d v w)
  boost : (on : Bool) → Prepares k (Call.SetWakeBoost on)

-- a vCPU departs
pub data Departs : Call → Type 0 where
  block : (d v now : ℕ) → Departs (Call.Ask d v (Request.Block now))
  offline : (d v now : ℕ) → Departs (Call.Ask d v (Request.Offline now))
  offline-all : (d now : ℕ) → Departs (Call.OfflineAll d now)

-- from the host h on, after an advance at clock t: advances whose clocks do not run back and are at most g apart, departures at any
-- clock, the boost, and whatever is refused, with any clock
pub data PoolRest (g : ℕ) : Host → ℕ → List Call → Type 0 where
  done : {h : Host} {t : ℕ} → PoolRest g h t []
  advances : {h : Host} {t n : ℕ} {cs : List Call} → t ≤ n → n ≤ t + g → PoolRest g (step h (Call.Advance n)).host n cs
      → PoolRest g h t (Call.Advance n ∷ cs)
  departs : {h : Host} {t : ℕ} {c : Call} {cs : List Call} → Departs c → PoolRest g (step h c).host t cs → PoolRest g h t (c ∷ cs)
  boosts : {h : Host} {t : ℕ} {on : Bool} {cs : List Call} → PoolRest g (step h (Call.SetWakeBoost on)).host t cs
      → PoolRest g h t (Call.SetWakeBoost on ∷ cs)
  refused : {h : Host} {t : ℕ} {c : Call} {cs : List Call} → ((step h c).number ≡ 0 → ⊥) → PoolRest g (step h c).host t cs
      → PoolRest g h t (c ∷ cs)

-- a pool is set up; then comes the first advance, at any clock
pub data PoolFrom (k : Shape) (g : ℕ) : Host → List Call → Type 0 where
  done : {h : Host} → PoolFrom k g h []
  prepares : {h : Host} {c : Call} {cs : List Call} → Prepares k c → PoolFrom k g (step h c).host cs → PoolFrom k g h (c ∷ cs)
  refused : {h : Host} {c : Call} {cs : List Call} → ((step h c).number ≡ 0 → ⊥) → PoolFrom k g (step h c).host cs
      → PoolFrom k g h (c ∷ cs)
  starts : {h : Host} {n : ℕ} {cs : List Call} → PoolRest g (step h (Call.Advance n)).host n cs
      → PoolFrom k g h (Call.Advance n ∷ cs)

abbrev pub PoolList : Fresh → ℕ → List Call → Type 0
PoolList f g cs = PoolFrom f.shape g (host f) cs

-- ---- The clock of the latest advance of a list, where it has one
abbrev pub advance_clock : Call → Option ℕ
advance_clock (Call.Advance now) = Some now
advance_clock (Call.Ask d v q) = None
advance_clock (Call.OfflineAll d now) = None
advance_clock (Call.SetWeight d v w) = None
advance_clock (Call.SetWakeBoost on) = None

unfoldable pub latest : List Call → Option ℕ
latest [] = None
latest (c ∷ cs) = option_or (latest cs) (advance_clock c)
