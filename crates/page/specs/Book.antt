-- The book of demand 3: records that the calls alone imply. It reads no system; of an advance it is handed the moves.
use Rattle.std.specs.Prelude.{ℕ, zero, suc, ◌+◌, ◌-◌, ◌%◌, ◌^◌, min, Bool, false, cond, ◌&&◌, List, [], ◌∷◌, ◌++◌, ltb, eqb}
use Rattle.system.specs.declared.RunState.{RunState}
use Rattle.system.specs.declared.RunState.TheVariants.{Offline, Runnable, Running, Blocked}
use Rattle.advance.specs.declared.Decision.{Decision}
use Rattle.advance.specs.declared.Decision.TheVariants as decision
use Rattle.calls.specs.declared.Request.{Request}
use Rattle.calls.specs.declared.Call.{Call}
use Rattle.page.specs.Host.{times, Found, nobody, over}
use Rattle.page.specs.Next.{admits, somebody}
use Rattle.page.specs.Verdict.{runs_on}

-- d domains of v vCPUs each on p pCPUs
pub record Shape : Type 0 where
  pub domains : ℕ
  pub vcpus : ℕ
  pub pcpus : ℕ

-- a vCPU's state, its run time, the clock of its run, its mask
pub record Line : Type 0 where
  pub state : RunState
  pub time : ℕ
  pub clock : ℕ
  pub mask : ℕ

abbrev pub line : RunState → ℕ → ℕ → ℕ → Line
line st time clock mask = record { state = st; time = time; clock = clock; mask = mask }

-- a line for each vCPU d/v
abbrev pub Book : Type 0
Book = ℕ → ℕ → Line

abbrev pub full : Shape → ℕ
full k = 2 ^ k.pcpus - 1

-- at first all are Offline, run times 0, masks full, so that every pCPU is idle
abbrev pub blank : Shape → Book
blank k d v = line Offline 0 0 (full k)

-- a pCPU is held by whoever is Running on it
unfoldable pub holder : Shape → Book → ℕ → Found
holder k b p =
    times (λ d. times (over (λ e u. runs_on (b e u).state p) (λ _ _ _ _. false) d) k.vcpus) k.domains nobody

-- that d/v went onto pCPU p, or came off it, at a clock
pub data Dated : Type 0 where
  onto : ℕ → ℕ → ℕ → ℕ → Dated
  off : ℕ → ℕ → ℕ → ℕ → Dated

-- what a call is told, the book that it leaves, whom it moved
pub record Entry : Type 0 where
  pub number : ℕ
  pub book : Book
  pub moves : List Dated

-- ---- What is written

abbrev pub refused : ℕ → Book → Entry
refused n b = record { number = n; book = b; moves = [] }

abbrev pub untouched : Book → Entry
untouched b = refused 0 b

abbrev pub put : Book → ℕ → ℕ → Line → Book
put b d v l e u = cond (eqb e d && eqb u v) l (b e u)

abbrev pub writes : Book → ℕ → ℕ → Line → Entry
writes b d v l = record { number = 0; book = put b d v l; moves = [] }

-- onto pCPU p from that clock
abbrev pub goes_onto : Book → ℕ → ℕ → ℕ → ℕ → Entry
goes_onto b d v p now =
    let l = b d v in
    record { number = 0; book = put b d v (line (Running p) l.time now l.mask); moves = onto d v p now ∷ [] }

-- off it: max(0, now − the run's clock) is added, held at 2^64 − 1; then it is in that state with that mask
abbrev pub comes_off : Book → ℕ → ℕ → RunState → ℕ → ℕ → ℕ → Entry
comes_off b d v st mask p now =
    let l = b d v in
    let time = min (l.time + (now - l.clock)) (2 ^ 64 - 1) in
    record { number = 0; book = put b d v (line st time l.clock mask); moves = off d v p now ∷ [] }

abbrev pub marks : Book → ℕ → ℕ → RunState → Entry
marks b d v st = let l = b d v in writes b d v (line st l.time l.clock l.mask)

-- what comes after it, in the book that it leaves
abbrev pub then : Entry → (Book → Entry) → Entry
then e f = let r = f e.book in record { number = 0; book = r.book; moves = e.moves ++ r.moves }

-- ---- The calls, by the state in which the book has the vCPU: a wrong one is told 4 Runnable, 10 Offline, 11 Running, 12 Blocked

abbrev pub admitting : Book → ℕ → ℕ → RunState → Entry
admitting b d v Offline = marks b d v Runnable
admitting b d v Runnable = refused 4 b
admitting b d v (Running p) = refused 11 b
admitting b d v Blocked = refused 12 b

-- the mask before the holder
abbrev pub dispatching : Book → ℕ → ℕ → ℕ → ℕ → Bool → RunState → Entry
dispatching b d v p now busy Runnable =
    cond (admits (b d v).mask p) (cond busy (refused 5 b) (goes_onto b d v p now)) (refused 6 b)
dispatching b d v p now busy Offline = refused 10 b
dispatching b d v p now busy (Running q) = refused 11 b
dispatching b d v p now busy Blocked = refused 12 b

abbrev pub preempting : Book → ℕ → ℕ → ℕ → RunState → Entry
preempting b d v now (Running p) = comes_off b d v Runnable (b d v).mask p now
preempting b d v now Offline = refused 10 b
preempting b d v now Runnable = refused 4 b
preempting b d v now Blocked = refused 12 b

abbrev pub blocking : Book → ℕ → ℕ → ℕ → RunState → Entry
blocking b d v now Runnable = marks b d v Blocked
blocking b d v now (Running p) = comes_off b d v Blocked (b d v).mask p now
blocking b d v now Offline = refused 10 b
blocking b d v now Blocked = refused 12 b

abbrev pub waking : Book → ℕ → ℕ → RunState → Entry
waking b d v Blocked = marks b d v Runnable
waking b d v Offline = refused 10 b
waking b d v Runnable = refused 4 b
waking b d v (Running p) = refused 11 b

-- the mask is filled
abbrev pub offlining : Shape → Book → ℕ → ℕ → ℕ → RunState → Entry
offlining k b d v now (Running p) = comes_off b d v Offline (full k) p now
offlining k b d v now Runnable = let l = b d v in writes b d v (line Offline l.time l.clock (full k))
offlining k b d v now Blocked = let l = b d v in writes b d v (line Offline l.time l.clock (full k))
offlining k b d v now Offline = refused 10 b

-- not one that excludes the pCPU that it is Running on
abbrev pub masking : Book → ℕ → ℕ → ℕ → RunState → Entry
masking b d v m (Running p) = let l = b d v in cond (admits m p) (writes b d v (line l.state l.time l.clock m)) (refused 6 b)
masking b d v m Offline = let l = b d v in writes b d v (line l.state l.time l.clock m)
masking b d v m Runnable = let l = b d v in writes b d v (line l.state l.time l.clock m)
masking b d v m Blocked = let l = b d v in writes b d v (line l.state l.time l.clock m)

-- 1 for the domain, then 2 for the vCPU
abbrev pub asked : Shape → Book → ℕ → ℕ → Entry → Entry
asked k b d v r = cond (ltb d k.domains) (cond (ltb v k.vcpus) r (refused 2 b)) (refused 1 b)

-- an advance's moves, in order, at its clock
abbrev pub moving : Book → ℕ → Decision → Entry
moving b now (decision.Run d v p) = goes_onto b d v p now
moving b now (decision.Preempt d v p) = comes_off b d v Runnable (b d v).mask p now
moving b now decision.Idle = untouched b

unfoldable pub moving_all : Book → ℕ → List Decision → Entry
moving_all b now [] = untouched b
moving_all b now (m ∷ ms) = then (moving b now m) (λ b'. moving_all b' now ms)

-- offline for each of the first n vCPUs of the domain that is not Offline
unfoldable pub offlining_all : Shape → Book → ℕ → ℕ → ℕ → Entry
offlining_all k b d now zero = untouched b
offlining_all k b d now (suc n) =
    then (offlining_all k b d now n) (λ b'. offlining k b' d n now (b' d n).state)

-- what is asked of d/v; `run` tests 3 first
abbrev pub asking : Shape → Book → ℕ → ℕ → Request → Entry
asking k b d v Request.Admit = asked k b d v (admitting b d v (b d v).state)
asking k b d v (Request.Run p now) =
    cond (ltb p k.pcpus) (asked k b d v (dispatching b d v p now (somebody (holder k b p)) (b d v).state)) (refused 3 b)
asking k b d v (Request.Preempt now) = asked k b d v (preempting b d v now (b d v).state)
asking k b d v (Request.Block now) = asked k b d v (blocking b d v now (b d v).state)
asking k b d v Request.Wake = asked k b d v (waking b d v (b d v).state)
asking k b d v (Request.SetAffinity m) = asked k b d v (masking b d v (m % 2 ^ k.pcpus) (b d v).state)
asking k b d v (Request.Offline now) = asked k b d v (offlining k b d v now (b d v).state)

-- a call, with the moves that it enacted
unfoldable pub enter : Shape → Book → Call → List Decision → Entry
enter k b (Call.Ask d v q) ms = asking k b d v q
enter k b (Call.OfflineAll d now) ms = offlining_all k b d now (cond (ltb d k.domains) k.vcpus 0)
enter k b (Call.SetWeight d v w) ms = untouched b
enter k b (Call.SetWakeBoost on) ms = untouched b
enter k b (Call.Advance now) ms = moving_all b now ms
