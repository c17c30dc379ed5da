-- The book: the records that the calls alone imply, and the dated moves of each call. It reads no system; of an
-- advance it is handed the moves.
use Rattle.std.specs.Prelude.{ℕ, zero, suc, ◌+◌, ◌-◌, ◌*◌, ◌/◌, ◌%◌, ◌^◌, min, Bool, cond, ◌&&◌, List, [], ◌∷◌, ◌++◌, ltb, eqb}
use Rattle.masks.specs.Masks.{permits, full_mask, clipped}
use Rattle.system.specs.declared.RunState.{RunState}
use Rattle.system.specs.declared.RunState.TheVariants.{Offline, Runnable, Running, Blocked}
use Rattle.system.specs.declared.Occupant.{Occupant}
use Rattle.system.specs.declared.Occupant.TheVariants.{Idle, Vcpu}
use Rattle.system.specs.declared.Answer.TheVariants.{Done, BadDomain, BadVcpu, BadPcpu, PcpuBusy, NotAffine}
use Rattle.system.specs.Answers.{told}
use Rattle.system.specs.States.{runs_on}
use Rattle.changes.specs.Changes.{found_in, reaches}
use Rattle.moves.specs.declared.Choice.{Choice}
use Rattle.moves.specs.declared.Choice.TheVariants.{Run, Preempt, Rest}
use Rattle.scans.specs.Scan.{Pick, nobody, at, scan, some, never}
use Rattle.calls.specs.declared.Request.{Request}
use Rattle.calls.specs.declared.Call.{Call}
use Rattle.demand3.specs.Dated.{Direction, onto, off, Dated, dated}

-- what the book has of a vCPU: its state, its run time, the clock of its run, its mask
pub record Line : Type 0 where
  pub state : RunState
  pub time : ℕ
  pub clock : ℕ
  pub mask : ℕ

-- the line of vCPU d/v stands at d × 8 + v
abbrev pub Book : Type 0
Book = ℕ → Line

pub record Shape : Type 0 where
  pub domains : ℕ
  pub vcpus : ℕ
  pub pcpus : ℕ

-- at first all are Offline with nothing run and every pCPU admitted
abbrev pub blank_book : Shape → Book
blank_book k i = record { state = Offline; time = 0; clock = 0; mask = full_mask k.pcpus }

abbrev pub noted : Book → ℕ → Line → Book
noted b i l j = cond (eqb j i) l (b j)

-- ---- lines written anew

abbrev pub marked : Line → RunState → Line
marked l st = record { state = st; time = l.time; clock = l.clock; mask = l.mask }

abbrev pub remasked : Line → ℕ → Line
remasked l m = record { state = l.state; time = l.time; clock = l.clock; mask = m }

-- onto pCPU p, from that clock
abbrev pub opened : Line → ℕ → ℕ → Line
opened l p now = record { state = Running p; time = l.time; clock = now; mask = l.mask }

-- coming off adds max(0, now − the run's clock), held at 2^64 − 1
abbrev pub closed : Line → RunState → ℕ → Line
closed l st now = record { state = st; time = min (l.time + (now - l.clock)) (2 ^ 64 - 1); clock = l.clock; mask = l.mask }

-- ---- who holds a pCPU: whoever is Running on it

unfoldable pub holder : Shape → Book → ℕ → Pick
holder k b p = scan (λ i. ltb (i % 8) k.vcpus && runs_on p (b i).state) never (k.domains * 8)

abbrev pub occupant_by : Pick → Occupant
occupant_by nobody = Idle
occupant_by (at i) = Vcpu (i / 8) (i % 8)

-- ---- what a call writes, what it is told, and whom it moves

-- nothing but a number; a line; or the line of one that went onto a pCPU or came off it, at a clock
pub data Note : Type 0 where
  refuse : ℕ → Note
  write : Line → Note
  move : Direction → ℕ → ℕ → Line → Note

pub record Entry : Type 0 where
  pub number : ℕ
  pub book : Book
  pub moves : List Dated

-- nothing is written, and nobody moves
abbrev pub unwritten : ℕ → Book → Entry
unwritten n b = record { number = n; book = b; moves = [] }

abbrev pub entered : Book → ℕ → Note → Entry
entered b i (refuse k) = unwritten k b
entered b i (write l) = record { number = told Done; book = noted b i l; moves = [] }
entered b i (move w p now l) = record { number = told Done; book = noted b i l; moves = dated w i p now ∷ [] }

-- two entries of a call that refuses nothing, the second into the book that the first leaves
abbrev pub joined : Entry → Entry → Entry
joined e f = record { number = told Done; book = f.book; moves = e.moves ++ f.moves }

-- ids out of range: 1 for the domain, then 2 for the vCPU
abbrev pub identified : Shape → Book → ℕ → ℕ → Note → Entry
identified k b d v n =
    cond (ltb d k.domains) (cond (ltb v k.vcpus) (entered b (d * 8 + v) n) (unwritten (told BadVcpu) b))
    (unwritten (told BadDomain) b)

-- a vCPU found in a state that the call does not accept
abbrev pub found_note : RunState → Note
found_note st = refuse (told (found_in st))

abbrev pub admit_note : Line → RunState → Note
admit_note l Offline = write (marked l Runnable)
admit_note l Runnable = found_note Runnable
admit_note l (Running p) = found_note (Running p)
admit_note l Blocked = found_note Blocked

abbrev pub run_note : Line → ℕ → Bool → ℕ → RunState → Note
run_note l p busy now Offline = found_note Offline
run_note l p busy now Runnable =
    cond (permits l.mask p) (cond busy (refuse (told PcpuBusy)) (move onto p now (opened l p now))) (refuse (told NotAffine))
run_note l p busy now (Running q) = found_note (Running q)
run_note l p busy now Blocked = found_note Blocked

abbrev pub preempt_note : Line → ℕ → RunState → Note
preempt_note l now Offline = found_note Offline
preempt_note l now Runnable = found_note Runnable
preempt_note l now (Running p) = move off p now (closed l Runnable now)
preempt_note l now Blocked = found_note Blocked

abbrev pub block_note : Line → ℕ → RunState → Note
block_note l now Offline = found_note Offline
block_note l now Runnable = write (marked l Blocked)
block_note l now (Running p) = move off p now (closed l Blocked now)
block_note l now Blocked = found_note Blocked

abbrev pub wake_note : Line → RunState → Note
wake_note l Offline = found_note Offline
wake_note l Runnable = found_note Runnable
wake_note l (Running p) = found_note (Running p)
wake_note l Blocked = write (marked l Runnable)

abbrev pub offline_note : Line → ℕ → ℕ → RunState → Note
offline_note l full now Offline = found_note Offline
offline_note l full now Runnable = write (remasked (marked l Offline) full)
offline_note l full now (Running p) = move off p now (remasked (closed l Offline now) full)
offline_note l full now Blocked = write (remasked (marked l Offline) full)

abbrev pub mask_note : Line → ℕ → RunState → Note
mask_note l m Offline = write (remasked l m)
mask_note l m Runnable = write (remasked l m)
mask_note l m (Running p) = cond (permits m p) (write (remasked l m)) (refuse (told NotAffine))
mask_note l m Blocked = write (remasked l m)

-- what is noted of a request of the vCPU at slot i: by its line, and of a run by whoever holds the pCPU
abbrev pub note_of : Shape → Book → ℕ → Request → Note
note_of k b i Request.Admit = admit_note (b i) (b i).state
note_of k b i (Request.Run p now) = run_note (b i) p (some (holder k b p)) now (b i).state
note_of k b i (Request.Preempt now) = preempt_note (b i) now (b i).state
note_of k b i (Request.Block now) = block_note (b i) now (b i).state
note_of k b i Request.Wake = wake_note (b i) (b i).state
note_of k b i (Request.SetAffinity m) = mask_note (b i) (clipped m k.pcpus) (b i).state
note_of k b i (Request.Offline now) = offline_note (b i) (full_mask k.pcpus) now (b i).state

-- the first n vCPUs of domain d taken offline, one after another; one that is Offline stays as it is
unfoldable pub offline_lines : Shape → Book → ℕ → ℕ → ℕ → Entry
offline_lines k b d now zero = unwritten (told Done) b
offline_lines k b d now (suc n) =
    let e = offline_lines k b d now n in
    let i = d * 8 + n in
    joined e (entered e.book i (note_of k e.book i (Request.Offline now)))

-- an advance's moves, in order, at its clock
abbrev pub moved : Book → ℕ → Choice → Entry
moved b now (Run i p) = entered b i (move onto p now (opened (b i) p now))
moved b now (Preempt i p) = entered b i (move off p now (closed (b i) Runnable now))
moved b now Rest = unwritten (told Done) b

unfoldable pub moved_all : Book → ℕ → List Choice → Entry
moved_all b now [] = unwritten (told Done) b
moved_all b now (c ∷ cs) = let e = moved b now c in joined e (moved_all e.book now cs)

-- a call, with the moves that it enacted
unfoldable pub enter : Shape → Book → Call → List Choice → Entry
enter k b (Call.Ask d v q) ms =
    cond (reaches q k.pcpus) (identified k b d v (note_of k b (d * 8 + v) q)) (unwritten (told BadPcpu) b)
enter k b (Call.OfflineAll d now) ms = cond (ltb d k.domains) (offline_lines k b d now k.vcpus) (unwritten (told Done) b)
enter k b (Call.SetWeight d v w) ms = unwritten (told Done) b
enter k b (Call.SetWakeBoost on) ms = unwritten (told Done) b
enter k b (Call.Advance now) ms = moved_all b now ms
