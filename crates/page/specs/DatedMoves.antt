-- What the dated moves of a list of calls tell, beside demand 3: who holds a pCPU since when, the pCPU that a vCPU was last on, and
-- that no run time is cut where clocks do not run back. It is proved as `every_list_tells`.
use Rattle.std.specs.Prelude.{ℕ, ◌+◌, ◌-◌, ◌^◌, ◌≤◌, ◌<◌, cond, ◌&&◌, List, [], ◌∷◌, ◌≡◌, eqb, Option, None, Some}
use Rattle.system.specs.declared.RunState.{RunState}
use Rattle.system.specs.declared.RunState.TheVariants.{Offline, Runnable, Running, Blocked}
use Rattle.system.specs.declared.VirtualCpu.{VirtualCpu}
use Rattle.host.specs.declared.Host.{Host}
use Rattle.calls.specs.declared.Request.{Request}
use Rattle.calls.specs.declared.Call.{Call}
use Rattle.page.specs.Host.{Found, nobody, one, vcpu}
use Rattle.page.specs.Steps.{step}
use Rattle.page.specs.Book.{Shape, Book, Dated, onto, off, blank, holder, comes_off}
use Rattle.page.specs.Book as book
use Rattle.page.specs.Lists.{Fresh, Sized, host, entry, host_after, book_after, moves_after}

-- ---- Who holds a pCPU: nobody, or d/v since a clock
pub data Hold : Type 0 where
  free : Hold
  by : ℕ → ℕ → ℕ → Hold

-- by the book: whoever is Running on it, since the clock of its run
abbrev pub held_by : Book → Found → Hold
held_by b nobody = free
held_by b (one d v) = by d v (b d v).clock

-- by the moves: the last one on it tells
abbrev pub moved : ℕ → Hold → Dated → Hold
moved p h (onto d v q now) = cond (eqb q p) (by d v now) h
moved p h (off d v q now) = cond (eqb q p) free h

unfoldable pub held_after : ℕ → Hold → List Dated → Hold
held_after p h [] = h
held_after p h (m ∷ ms) = held_after p (moved p h m) ms

abbrev pub pcpu_of : Dated → ℕ
pcpu_of (onto d v p now) = p
pcpu_of (off d v p now) = p

-- the moves on pCPU p take turns: one goes onto it while it is free, and comes off it before another goes onto it
pub data Turns (p : ℕ) : Hold → List Dated → Hold → Type 0 where
  done : {h : Hold} → Turns p h [] h
  goes_on : {d v now : ℕ} {ms : List Dated} {h : Hold} → Turns p (by d v now) ms h → Turns p free (onto d v p now ∷ ms) h
  goes_off : {d v c now : ℕ} {ms : List Dated} {h : Hold} → Turns p free ms h → Turns p (by d v c) (off d v p now ∷ ms) h
  elsewhere : {m : Dated} {ms : List Dated} {g h : Hold} → (pcpu_of m ≡ p → ⊥) → Turns p g ms h → Turns p g (m ∷ ms) h

-- the clock that a call carries
abbrev pub request_clock : Request → Option ℕ
request_clock Request.Admit = None
request_clock (Request.Run p now) = Some now
request_clock (Request.Preempt now) = Some now
request_clock (Request.Block now) = Some now
request_clock Request.Wake = None
request_clock (Request.SetAffinity m) = None
request_clock (Request.Offline now) = Some now

abbrev pub clock_of : Call → Option ℕ
clock_of (Call.Ask d v q) = request_clock q
clock_of (Call.OfflineAll d now) = Some now
clock_of (Call.Advance now) = Some now
clock_of (Call.SetWeight d v w) = None
clock_of (Call.SetWakeBoost on) = None

abbrev pub date_of : Dated → ℕ
date_of (onto d v p now) = now
date_of (off d v p now) = now

abbrev pub AllAt : Option ℕ → List Dated → Type 0
AllAt t [] = Unit {0}
AllAt t (m ∷ ms) = (t ≡ Some (date_of m)) × AllAt t ms

-- at the end of a list: the host, its book, and the dated moves until then
pub record MovesTell (k : Shape) (h : Host) (b : Book) (ms : List Dated) : Type 0 where
  -- a pCPU is held by whom the last move on it put there, since that move's clock; where there is none or it took one off, by nobody
  pub last : (p : ℕ) → held_by b (holder k b p) ≡ held_after p free ms
  -- and no move on it is left out
  pub turns : (p : ℕ) → Turns p free ms (held_by b (holder k b p))
  -- the moves of the next call have its clock, so that one without a clock moves nobody
  pub clocks : (c : Call) → AllAt (clock_of c) (entry k h b c).moves
  -- if it is refused, nothing is written and nobody moves
  pub refusals : (c : Call) → let e = entry k h b c in (e.number ≡ 0 → ⊥) → e ≡ book.refused e.number b

-- ---- The pCPU that d/v was last dispatched onto, 64 for none: none at first, and none again after offline
abbrev pub arrives : ℕ → ℕ → ℕ → Dated → ℕ
arrives d v l (onto e u p now) = cond (eqb d e && eqb v u) p l
arrives d v l (off e u p now) = l

unfoldable pub arrives_all : ℕ → ℕ → ℕ → List Dated → ℕ
arrives_all d v l [] = l
arrives_all d v l (m ∷ ms) = arrives_all d v (arrives d v l m) ms

abbrev pub unless_offline : RunState → ℕ → ℕ
unless_offline Offline l = 64
unless_offline Runnable l = l
unless_offline (Running p) l = l
unless_offline Blocked l = l

-- after the calls, where l was the last before them
unfoldable pub last_from : Shape → Host → Book → ℕ → ℕ → ℕ → List Call → ℕ
last_from k h b d v l [] = l
last_from k h b d v l (c ∷ cs) =
    let e = entry k h b c in
    last_from k (step h c).host e.book d v (unless_offline (e.book d v).state (arrives_all d v l e.moves)) cs

abbrev pub last_after : Fresh → List Call → ℕ → ℕ → ℕ
last_after f cs d v = last_from f.shape (host f) (blank f.shape) d v 64 cs

-- ---- Clocks that do not run back: from host h with latest clock c by the calls to latest clock c'. A refused call may carry any
-- clock
pub data Forward : Host → ℕ → List Call → ℕ → Type 0 where
  done : {h : Host} {c : ℕ} → Forward h c [] c
  timed : {h : Host} {c n c' : ℕ} {x : Call} {cs : List Call} → (step h x).number ≡ 0 → clock_of x ≡ Some n → c ≤ n
      → Forward (step h x).host n cs c' → Forward h c (x ∷ cs) c'
  untimed : {h : Host} {c c' : ℕ} {x : Call} {cs : List Call} → clock_of x ≡ None → Forward (step h x).host c cs c'
      → Forward h c (x ∷ cs) c'
  refused : {h : Host} {c c' : ℕ} {x : Call} {cs : List Call} → ((step h x).number ≡ 0 → ⊥) → Forward (step h x).host c cs c'
      → Forward h c (x ∷ cs) c'

-- no run time is past the latest clock c, nor past the clock of a run, so that coming off at any clock from c on adds all of the ticks
-- since the run's clock
pub record Uncut (k : Shape) (b : Book) (c : ℕ) : Type 0 where
  pub times : (d v : ℕ) → d < k.domains → v < k.vcpus → (b d v).time ≤ c
  pub clocks : (d v p : ℕ) → d < k.domains → v < k.vcpus → (b d v).state ≡ Running p
      → ((b d v).time ≤ (b d v).clock) × ((b d v).clock ≤ c)
  pub exact : (d v p now m : ℕ) (st : RunState) → d < k.domains → v < k.vcpus → (b d v).state ≡ Running p → c ≤ now → now < 2 ^ 64
      → ((comes_off b d v st m p now).book d v).time ≡ (b d v).time + (now - (b d v).clock)

-- the record of a vCPU keeps the pCPU that it was last dispatched onto: where it is while Running, none while Offline
pub record Keeps (x : VirtualCpu) (l : ℕ) : Type 0 where
  pub last : x.last ≡ l
  pub running : (p : ℕ) → x.state ≡ Running p → x.last ≡ p
  pub offline : x.state ≡ Offline → x.last ≡ 64

-- ---- All of it, of every list of calls of every fresh host, for every slice, 0 included
pub record Tells (f : Fresh) (cs : List Call) : Type 0 where
  pub moves : MovesTell f.shape (host_after f cs) (book_after f cs) (moves_after f cs)
  pub last : (d v : ℕ) → d < f.shape.domains → v < f.shape.vcpus
      → Keeps (vcpu (host_after f cs).system d v) (last_after f cs d v)
  pub uncut : (c : ℕ) → Forward (host f) 0 cs c → Uncut f.shape (book_after f cs) c

abbrev pub EveryListTells : Type 0
EveryListTells = (f : Fresh) → Sized f.shape → (cs : List Call) → Tells f cs
