-- A change of the system and a note of the book match: both refuse with one number, or both write what says the same.
-- Assumes nothing.
use Rattle.std.specs.Prelude.{Result, Ok, Err}
use Prim.Native.Nat.{ℕ, ◌<◌}
use mathlib.Core.Bool.{Bool, true, false, cond, not}
use mathlib.Core.Path.{◌≡◌, refl, sym, ◌∙◌, ap, subst, subst₂}
use mathlib.Core.Logic.{◌≢◌}
use native.Mathlib.Omega.{arith}
use native.Mathlib.Decide.{ℕ_discrete}
use borrow.Author.Tests.{eq-eqb, ne_eqb, ltb-true}
use Rattle.masks.specs.Masks.{permits, full_mask, clipped}
use Rattle.system.specs.declared.RunState.{RunState}
use Rattle.system.specs.declared.RunState.TheVariants.{Offline, Runnable, Running, Blocked}
use Rattle.system.specs.declared.VirtualCpu.{VirtualCpu}
use Rattle.system.specs.declared.Occupant.{Occupant}
use Rattle.system.specs.declared.System.{System}
use Rattle.system.specs.declared.Answer.{Answer}
use Rattle.system.specs.declared.Answer.TheVariants.{NotAffine}
use Rattle.system.specs.Answers.{told, SystemOutcome}
use Rattle.system.specs.Records.{with_mask}
use Rattle.system.specs.Reads.{vcpu_at, occupant_at, is_idle}
use Rattle.system.specs.Writes.{Tables, Wrote, present-back}
use Rattle.system.specs.Slots.{Present}
use Rattle.calls.specs.declared.Request.{Request}
use Rattle.changes.specs.declared.Change.{Change}
use Rattle.changes.specs.declared.Change.TheVariants.{Write, Enter, Leave}
use Rattle.changes.specs.Records.{with_state, dispatched, left, forgotten}
use Rattle.changes.specs.Changes.{found_in, admitted, ran, preempted, blocked, woken, masked, offlined, changed}
use Rattle.changes.specs.Changes.{reaches}
use Rattle.sched.proofs.Laws.{NotRunning, Legal, stays, keeps, busy, goes_on, goes_off, off_nr, ready_nr, blocked_nr}
use Rattle.demand3.specs.Dated.{onto, off}
use Rattle.scans.specs.Scan.{some}
use Rattle.demand3.specs.Book.{Line, Book, Shape, noted, marked, remasked, opened, closed, holder, Note, refuse}
use Rattle.demand3.specs.Book.{write, move, Entry, entered}
use Rattle.demand3.specs.Book.{admit_note, run_note, preempt_note, block_note, wake_note, offline_note, mask_note}
use Rattle.demand3.specs.Book.{note_of}
use Rattle.demand3.specs.Agreement.{LineSays, Lines}

pub data Match (s : System) : Result Change Answer → Note → Type 0 where
  both-refuse : (a : Answer) → Match s (Err a) (refuse (told a))
  both-write : {v : VirtualCpu} {l : Line} → LineSays l v → Match s (Ok (Write v)) (write l)
  both-enter : {v : VirtualCpu} {p : ℕ} {l : Line} (now : ℕ) (taken : Bool) → taken ≡ not (is_idle (occupant_at s p))
      → LineSays l v → Match s (Ok (Enter v p)) (cond taken (refuse 5) (move onto p now l))
  both-leave : {v : VirtualCpu} {p now : ℕ} {l : Line} → LineSays l v → Match s (Ok (Leave v p)) (move off p now l)

-- ---- lines and records made anew say the same

module _ {l : Line} {v : VirtualCpu} (y : LineSays l v) where
  in_state : (st : RunState) → NotRunning st → LineSays (marked l st) (with_state v st)
  in_state st n = record { state = refl; time = y.time; mask = y.mask; clock = λ p e. absurd (n p e) }

  new-mask : (m : ℕ) → LineSays (remasked l m) (with_mask v m)
  new-mask m = record { state = y.state; time = y.time; mask = refl; clock = y.clock }

  forgets : (full : ℕ) → LineSays (remasked l full) (forgotten v full)
  forgets full = record { state = y.state; time = y.time; mask = refl; clock = y.clock }

  pub on-pcpu : (p now : ℕ) → LineSays (opened l p now) (dispatched v p now)
  unfolding dispatched
  on-pcpu p now = record { state = refl; time = y.time; mask = y.mask; clock = λ q e. refl }

  pub off-pcpu : (p now : ℕ) (st : RunState) → v.state ≡ Running p → NotRunning st
      → LineSays (closed l st now) (left v st now)
  unfolding left
  off-pcpu p now st e n =
      let c = y.clock p e in
      let t = y.time in
      record { state = refl; time = omega arith; mask = y.mask; clock = λ q x. absurd (n q x) }

-- ---- each request

module _ (s : System) {l : Line} {v : VirtualCpu} (y : LineSays l v) where
  admit_match : (st : RunState) → v.state ≡ st → Match s (admitted v st) (admit_note l st)
  admit_match Offline e = both-write (in_state y Runnable ready_nr)
  admit_match Runnable e = both-refuse (found_in Runnable)
  admit_match (Running p) e = both-refuse (found_in (Running p))
  admit_match Blocked e = both-refuse (found_in Blocked)

  preempt_match : (now : ℕ) (st : RunState) → v.state ≡ st → Match s (preempted v now st) (preempt_note l now st)
  preempt_match now Offline e = both-refuse (found_in Offline)
  preempt_match now Runnable e = both-refuse (found_in Runnable)
  preempt_match now (Running p) e = both-leave (off-pcpu y p now Runnable e ready_nr)
  preempt_match now Blocked e = both-refuse (found_in Blocked)

  block_match : (now : ℕ) (st : RunState) → v.state ≡ st → Match s (blocked v now st) (block_note l now st)
  block_match now Offline e = both-refuse (found_in Offline)
  block_match now Runnable e = both-write (in_state y Blocked blocked_nr)
  block_match now (Running p) e = both-leave (off-pcpu y p now Blocked e blocked_nr)
  block_match now Blocked e = both-refuse (found_in Blocked)

  wake_match : (st : RunState) → v.state ≡ st → Match s (woken v st) (wake_note l st)
  wake_match Offline e = both-refuse (found_in Offline)
  wake_match Runnable e = both-refuse (found_in Runnable)
  wake_match (Running p) e = both-refuse (found_in (Running p))
  wake_match Blocked e = both-write (in_state y Runnable ready_nr)

  mask_match : (m : ℕ) (st : RunState) → v.state ≡ st → Match s (masked v m st) (mask_note l m st)
  mask_match m Offline e = both-write (new-mask y m)
  mask_match m Runnable e = both-write (new-mask y m)
  mask_match m (Running p) e = go (permits m p)
    where
      go : (b : Bool)
          → Match s (cond b (Ok (Write (with_mask v m))) (Err NotAffine)) (cond b (write (remasked l m)) (refuse 6))
      go true = both-write (new-mask y m)
      go false = both-refuse NotAffine
  mask_match m Blocked e = both-write (new-mask y m)

  offline_match : (full now : ℕ) (st : RunState) → v.state ≡ st
      → Match s (offlined v full now st) (offline_note l full now st)
  offline_match full now Offline e = both-refuse (found_in Offline)
  offline_match full now Runnable e = both-write (forgets (in_state y Offline off_nr) full)
  offline_match full now (Running p) e = both-leave (forgets (off-pcpu y p now Offline e off_nr) full)
  offline_match full now Blocked e = both-write (forgets (in_state y Offline off_nr) full)

  run_match : (p now : ℕ) (taken : Bool) → taken ≡ not (is_idle (occupant_at s p)) → (st : RunState)
      → Match s (ran v p now st) (run_note l p taken now st)
  run_match p now taken f Offline = both-refuse (found_in Offline)
  run_match p now taken f Runnable =
      subst (λ (m : ℕ). Match s (ran v p now Runnable) (cond (permits m p) (cond taken (refuse 5) (move onto p now (opened l p now))) (refuse 6))) (sym y.mask)
      (go (permits v.affinity p))
    where
      go : (b : Bool)
          → Match s (cond b (Ok (Enter (dispatched v p now) p)) (Err NotAffine)) (cond b (cond taken (refuse 5) (move onto p now (opened l p now))) (refuse 6))
      go true = both-enter now taken f (on-pcpu y p now)
      go false = both-refuse NotAffine
  run_match p now taken f (Running q) = both-refuse (found_in (Running q))
  run_match p now taken f Blocked = both-refuse (found_in Blocked)

  -- the book goes by its own state, which is the system's
  by_state : {c : Result Change Answer} (note : RunState → Note) → Match s c (note v.state) → Match s c (note l.state)
  by_state {c} note m = subst (λ (st : RunState). Match s c (note st)) (sym y.state) m

  pub offline-noted : (n now : ℕ)
      → Match s (changed (Request.Offline now) n v) (offline_note l (full_mask n) now l.state)
  offline-noted n now = by_state (offline_note l (full_mask n) now) (offline_match (full_mask n) now v.state refl)

-- where the book's holders are the system's
pub request_match : (k : Shape) (b : Book) (i : ℕ) (s : System) {v : VirtualCpu} → LineSays (b i) v → (q : Request)
    → reaches q k.pcpus ≡ true → ((p : ℕ) → p < k.pcpus → some (holder k b p) ≡ not (is_idle (occupant_at s p)))
    → Match s (changed q k.pcpus v) (note_of k b i q)
request_match k b i s {v} y Request.Admit r f = by_state s y (admit_note (b i)) (admit_match s y v.state refl)
request_match k b i s {v} y (Request.Run p now) r f =
    let t = some (holder k b p) in
    by_state s y (run_note (b i) p t now) (run_match s y p now t (f p (ltb-true p k.pcpus r)) v.state)
request_match k b i s {v} y (Request.Preempt now) r f = by_state s y (preempt_note (b i) now) (preempt_match s y now v.state refl)
request_match k b i s {v} y (Request.Block now) r f = by_state s y (block_note (b i) now) (block_match s y now v.state refl)
request_match k b i s {v} y Request.Wake r f = by_state s y (wake_note (b i)) (wake_match s y v.state refl)
request_match k b i s {v} y (Request.SetAffinity m) r f =
    let n = clipped m k.pcpus in by_state s y (mask_note (b i) n) (mask_match s y n v.state refl)
request_match k b i s y (Request.Offline now) r f = offline-noted s y k.pcpus now

-- ---- what matches is told the same and leaves what agrees

pub noted_here : (b : Book) (i : ℕ) (l : Line) → noted b i l i ≡ l
noted_here b i l = rw (eq-eqb i i refl)

pub noted-there : (b : Book) (i : ℕ) (l : Line) (j : ℕ) → j ≢ i → noted b i l j ≡ b j
noted-there b i l j n = rw (ne_eqb j i n)

pub wrote-lines : {b : Book} {s s' : System} {i p : ℕ} {v : VirtualCpu} {o : Occupant} {l : Line} → Lines b s
    → Wrote s s' i v p o → LineSays l v → Lines (noted b i l) s'
wrote-lines {b} {s} {s'} {i} {p} {v} {o} {l} L k y = record { says = λ j h. go j h (ℕ_discrete j i) }
  where
    go : (j : ℕ) → Present s' j → Dec (j ≡ i) → LineSays (noted b i l j) (vcpu_at s' j)
    go j h (yes e) = rw e (subst₂ LineSays (sym (noted_here b i l)) (sym k.here) y)
    go j h (no n) = subst₂ LineSays (sym (noted-there b i l j n)) (sym (k.there j n)) (L.says j (present-back k.shape h))

-- the same number is told, and the lines still agree
pub record Alike (r : SystemOutcome) (e : Entry) : Type 0 where
  pub number : r.number ≡ e.number
  pub lines : Lines e.book r.system

pub legal_alike : {s : System} {b : Book} {i : ℕ} {c : Result Change Answer} {r : SystemOutcome} {n : Note} → Tables s
    → Legal s i c r → Lines b s → Match s c n → Alike r (entered b i n)
legal_alike t (stays a) L (both-refuse _) = record { number = refl; lines = L }
legal_alike t (keeps k w) L (both-write y) = record { number = refl; lines = wrote-lines L (w t) y }
legal_alike t (busy l e) L (both-enter now taken f y) = rw (f ∙ ap not e) (record { number = refl; lines = L })
legal_alike t (goes_on c o w) L (both-enter now taken f y) =
    rw (f ∙ ap (λ (x : Occupant). not (is_idle x)) c.free) (record { number = refl; lines = wrote-lines L (w t) y })
legal_alike t (goes_off now on k w) L (both-leave y) = record { number = refl; lines = wrote-lines L (w t) y }
