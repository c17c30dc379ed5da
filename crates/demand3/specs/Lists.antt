-- Lists of calls of any machine: those whose numbers fit their types; the book and the dated moves along them; those
-- whose clocks do not run back; the pool lists, over which the lag is bounded; what is read at a point.
use Rattle.std.specs.Prelude.{ℕ, ◌+◌, ◌-◌, ◌≤◌, Bool, ◌≡◌, List, [], ◌∷◌, ◌++◌}
use Rattle.masks.specs.Masks.{full_mask, clipped}
use Rattle.system.specs.declared.RunState.{RunState}
use Rattle.system.specs.declared.Answer.TheVariants.{Done}
use Rattle.system.specs.Answers.{told}
use Rattle.system.specs.States.{while_running}
use Rattle.calls.specs.declared.Request.{Request}
use Rattle.calls.specs.declared.Call.{Call}
use Rattle.calls.specs.Typed.{Typed}
use Rattle.demand3.specs.Machine.{Machine}
use Rattle.demand3.specs.Dated.{Dated}
use Rattle.demand3.specs.Book.{Line, Book, Shape, Entry, enter}

-- every call fits its types
abbrev pub AllTyped : List Call → Type 0
AllTyped [] = Unit {0}
AllTyped (c ∷ cs) = Typed c × AllTyped cs

-- ---- clocks

-- a clock, where there is one
pub data Clock : Type 0 where
  none : Clock
  at : ℕ → Clock

-- the clock of a call
abbrev pub request_clock : Request → Clock
request_clock Request.Admit = none
request_clock (Request.Run p now) = at now
request_clock (Request.Preempt now) = at now
request_clock (Request.Block now) = at now
request_clock Request.Wake = none
request_clock (Request.SetAffinity m) = none
request_clock (Request.Offline now) = at now

abbrev pub clock_of : Call → Clock
clock_of (Call.Ask d v q) = request_clock q
clock_of (Call.OfflineAll d now) = at now
clock_of (Call.SetWeight d v w) = none
clock_of (Call.SetWakeBoost on) = none
clock_of (Call.Advance now) = at now

abbrev pub or_earlier : Clock → Clock → Clock
or_earlier none e = e
or_earlier (at t) e = at t

-- the clock of an advance alone
abbrev pub advance_clock : Call → Clock
advance_clock (Call.Ask d v q) = none
advance_clock (Call.OfflineAll d now) = none
advance_clock (Call.SetWeight d v w) = none
advance_clock (Call.SetWakeBoost on) = none
advance_clock (Call.Advance now) = at now

-- the clock of the latest advance of a list
unfoldable pub latest : List Call → Clock
latest [] = none
latest (c ∷ cs) = or_earlier (latest cs) (advance_clock c)

-- ---- the calls of a pool list

-- calls that set a pool up on a host of n pCPUs: nobody is dispatched, and masks stay full
pub data Prepares (n : ℕ) : Call → Type 0 where
  admit : (d v : ℕ) → Prepares n (Call.Ask d v Request.Admit)
  block : (d v now : ℕ) → Prepares n (Call.Ask d v (Request.Block now))
  wake : (d v : ℕ) → Prepares n (Call.Ask d v Request.Wake)
  offline : (d v now : ℕ) → Prepares n (Call.Ask d v (Request.Offline now))
  offline-all : (d now : ℕ) → Prepares n (Call.OfflineAll d now)
  mask : (d v m : ℕ) → clipped m n ≡ full_mask n → Prepares n (Call.Ask d v (Request.SetAffinity m))
  weigh : (d v w : ℕ) → Prepares n (Call.SetWeight d v w)
  boost : (on : Bool) → Prepares n (Call.SetWakeBoost on)

-- calls by which a vCPU departs from the pool
pub data Departs : Call → Type 0 where
  block : (d v now : ℕ) → Departs (Call.Ask d v (Request.Block now))
  offline : (d v now : ℕ) → Departs (Call.Ask d v (Request.Offline now))
  offline-all : (d now : ℕ) → Departs (Call.OfflineAll d now)

module _ (M : Machine) where
  -- ---- along a list

  -- the host after a list of calls
  unfoldable pub after_all : M.Host → List Call → M.Host
  after_all h [] = h
  after_all h (c ∷ cs) = after_all (M.after h c) cs

  -- what a call of a host enters into the book, which is handed the moves of an advance
  abbrev pub entry_of : Shape → M.Host → Book → Call → Entry
  entry_of k h b c = enter k b c (M.moves h c)

  -- the book after a list of calls of a host
  unfoldable pub book_after : Shape → M.Host → Book → List Call → Book
  book_after k h b [] = b
  book_after k h b (c ∷ cs) = book_after k (M.after h c) (entry_of k h b c).book cs

  -- the dated moves of the list, in order
  unfoldable pub moves_after : Shape → M.Host → Book → List Call → List Dated
  moves_after k h b [] = []
  moves_after k h b (c ∷ cs) = (entry_of k h b c).moves ++ moves_after k (M.after h c) (entry_of k h b c).book cs

  -- ---- the lists whose clocks do not run back

  -- from host h with latest clock c by the calls to latest clock c'; a call that is refused may carry any clock
  pub data Forward : M.Host → ℕ → List Call → ℕ → Type 0 where
    done : {h : M.Host} {c : ℕ} → Forward h c [] c
    timed : {h : M.Host} {c n c' : ℕ} {x : Call} {cs : List Call} → M.number h x ≡ told Done
        → clock_of x ≡ at n → c ≤ n → Forward (M.after h x) n cs c' → Forward h c (x ∷ cs) c'
    untimed : {h : M.Host} {c c' : ℕ} {x : Call} {cs : List Call} → clock_of x ≡ none → Forward (M.after h x) c cs c'
        → Forward h c (x ∷ cs) c'
    refused : {h : M.Host} {c c' : ℕ} {x : Call} {cs : List Call} → (M.number h x ≡ told Done → ⊥)
        → Forward (M.after h x) c cs c' → Forward h c (x ∷ cs) c'

  -- ---- the pool lists

  -- after an advance at clock t: advances with a clock that does not run back and at most g apart, departures at any clock,
  -- the boost, and whatever is refused, with any clock
  pub data PoolRest (g : ℕ) : M.Host → ℕ → List Call → Type 0 where
    done : {h : M.Host} {t : ℕ} → PoolRest g h t []
    advances : {h : M.Host} {t n : ℕ} {cs : List Call} → t ≤ n → n ≤ t + g
        → PoolRest g (M.after h (Call.Advance n)) n cs → PoolRest g h t (Call.Advance n ∷ cs)
    departs : {h : M.Host} {t : ℕ} {c : Call} {cs : List Call} → Departs c → PoolRest g (M.after h c) t cs
        → PoolRest g h t (c ∷ cs)
    boosts : {h : M.Host} {t : ℕ} {on : Bool} {cs : List Call} → PoolRest g (M.after h (Call.SetWakeBoost on)) t cs
        → PoolRest g h t (Call.SetWakeBoost on ∷ cs)
    refused : {h : M.Host} {t : ℕ} {c : Call} {cs : List Call} → (M.number h c ≡ told Done → ⊥)
        → PoolRest g (M.after h c) t cs → PoolRest g h t (c ∷ cs)

  -- a pool is set up; then comes the first advance, at any clock
  pub data PoolList (g : ℕ) : M.Host → List Call → Type 0 where
    done : {h : M.Host} → PoolList g h []
    prepares : {h : M.Host} {c : Call} {cs : List Call} → Prepares (M.system h).pcpu_count c
        → PoolList g (M.after h c) cs → PoolList g h (c ∷ cs)
    refused : {h : M.Host} {c : Call} {cs : List Call} → (M.number h c ≡ told Done → ⊥)
        → PoolList g (M.after h c) cs → PoolList g h (c ∷ cs)
    starts : {h : M.Host} {n : ℕ} {cs : List Call} → PoolRest g (M.after h (Call.Advance n)) n cs
        → PoolList g h (Call.Advance n ∷ cs)

-- ---- the book's service at a reading: run time, and max(0, reading − the run's clock) while Running

abbrev pub open_part : Line → ℕ → RunState → ℕ
open_part l r st = while_running st (λ p. r - l.clock) 0

abbrev pub book_service : Book → ℕ → ℕ → ℕ
book_service b r i = (b i).time + open_part (b i) r (b i).state
