-- A request and `offline_all` leave in each record the pCPU that the calls say the vCPU was last dispatched onto.
-- Assumes nothing.
use Rattle.std.specs.Prelude.{Result}
use Prim.Native.Nat.{ℕ, zero, suc, ◌≤◌, ◌<◌}
use mathlib.Core.Bool.{Bool, true, false, cond, not}
use mathlib.Core.Path.{◌≡◌, refl, sym, ◌∙◌, ap, subst}
use mathlib.Core.Logic.{◌≢◌}
use mathlib.Core.List.{List, [], ◌∷◌, ◌++◌}
use native.Mathlib.Omega.{arith}
use native.Mathlib.Decide.{ℕ_discrete}
use lib.Dec.{eqb, ltb}
use borrow.Author.Tests.{eq-eqb, ne_eqb}
use Rattle.masks.specs.Masks.{full_mask}
use Rattle.system.specs.declared.RunState.{RunState}
use Rattle.system.specs.declared.RunState.TheVariants.{Offline, Runnable, Running, Blocked}
use Rattle.system.specs.declared.VirtualCpu.{VirtualCpu}
use Rattle.system.specs.declared.Occupant.{Occupant}
use Rattle.system.specs.declared.System.{System}
use Rattle.system.specs.declared.Answer.{Answer}
use Rattle.system.specs.Answers.{told, SystemOutcome}
use Rattle.system.specs.Reads.{vcpu_at, last_at, is_idle}
use Rattle.system.specs.Writes.{Tables, Wrote, present-back, present-on}
use Rattle.system.specs.Slots.{domains, vcpus, pcpus, slot, Present}
use Rattle.calls.specs.declared.Request.{Request}
use Rattle.changes.specs.declared.Change.{Change}
use Rattle.changes.specs.Changes.{reaches}
use Rattle.sched.specs.Steps.{made, requested, offline_first, offline_all}
use Rattle.sched.proofs.Laws.{Legal, stays, keeps, busy, goes_on, goes_off, made_legal, first-keeps}
use Rattle.demand3.specs.Dated.{onto, off, Dated, dated}
use Rattle.demand3.specs.Book.{Line, Book, Shape, noted, Note, Entry, unwritten, entered, joined, identified}
use Rattle.demand3.specs.Book.{offline_note, note_of, offline_lines}
use Rattle.demand3.specs.Agreement.{LineSays, Lines, InStep}
use Rattle.demand3.specs.LastPcpu.{latest_onto, unless_offline, last_by}
use Rattle.demand3.proofs.Notes.{Match, both-refuse, both-write, both-enter, both-leave, noted_here}
use Rattle.demand3.proofs.Notes.{noted-there}
use Rattle.demand3.proofs.InStep.{made_match, requested-by, offline-all-by, first_alike}
use Rattle.demand3.proofs.EveryCall.{still_in_step}
use Rattle.demand3.proofs.LastRecords.{Right, right-offline, kept-right, on-right, LastIn, changed-last}

-- every record is right by its own state
pub record Rights (s : System) : Type 0 where
  pub right : (i : ℕ) → Present s i → Right (vcpu_at s i)

-- s' has what the entry makes of what s has
pub record Follows (s s' : System) (e : Entry) : Type 0 where
  pub last : (j : ℕ) → Present s j → last_at s' j ≡ last_by e j (last_at s j)
  pub rights : Rights s'

-- what a record keeps
abbrev pub of_record : VirtualCpu → ℕ
of_record v = v.last

pub wrote-rights : {s s' : System} {i p : ℕ} {v : VirtualCpu} {o : Occupant} → Rights s → Wrote s s' i v p o
    → Right v → Rights s'
wrote-rights {s} {s'} {i} {v = v} Y w y = record { right = λ j h. go j h (ℕ_discrete j i) }
  where
    go : (j : ℕ) → Present s' j → Dec (j ≡ i) → Right (vcpu_at s' j)
    go j h (yes e) = subst Right (sym (ap (vcpu_at s') e ∙ w.here)) y
    go j h (no n) = subst Right (sym (w.there j n)) (Y.right j (present-back w.shape h))

-- ---- a request

module _ {b : Book} {s : System} (L : Lines b s) (Y : Rights s) where
  -- where nothing is written all is as it was
  pub same-last : (j : ℕ) → Present s j → last_at s j ≡ unless_offline (b j).state (last_at s j)
  same-last j h =
      sym (right-offline (Y.right j h)) ∙ ap (λ (st : RunState). unless_offline st (last_at s j)) (sym (L.says j h).state)

  pub unwritten-follows : (n : ℕ) → Follows s s (unwritten n b)
  unfolding latest_onto
  unwritten-follows n = record { last = same-last; rights = Y }

  -- a record and its line are written, with moves of its slot alone
  wrote-last : {s' : System} {i p : ℕ} {v : VirtualCpu} {o : Occupant} {l : Line} (ms : List Dated)
      → Wrote s s' i v p o → LineSays l v → ((j : ℕ) → j ≢ i → latest_onto j (last_at s j) ms ≡ last_at s j)
      → v.last ≡ unless_offline v.state (latest_onto i (last_at s i) ms)
      → (j : ℕ) → Present s j → last_at s' j ≡ unless_offline (noted b i l j).state (latest_onto j (last_at s j) ms)
  wrote-last {s'} {i} {v = v} {l = l} ms w y there here j h = go (ℕ_discrete j i)
    where
      go : Dec (j ≡ i) → last_at s' j ≡ unless_offline (noted b i l j).state (latest_onto j (last_at s j) ms)
      go (yes e) = rw (e, noted_here b i l, y.state) (ap of_record w.here ∙ here)
      go (no n) = rw (noted-there b i l j n, there j n) (ap of_record (w.there j n) ∙ same-last j h)

  -- a change that is made, and what the book notes of it
  legal_follows : {i : ℕ} {c : Result Change Answer} {r : SystemOutcome} {n : Note} → Tables s → Present s i → Legal s i c r
      → Match s c n → LastIn (vcpu_at s i) c → Follows s r.system (entered b i n)
  unfolding latest_onto
  legal_follows t h (stays a) (both-refuse _) x = unwritten-follows (told a)
  legal_follows {i} t h (keeps k w) (both-write y) x =
      record { last = wrote-last [] (w t) y (λ j n. refl) x; rights = wrote-rights Y (w t) (kept-right x k.was (Y.right i h)) }
  legal_follows t h (busy l e) (both-enter now taken f y) x = rw (f ∙ ap not e) (unwritten-follows 5)
  legal_follows {i} t h (goes_on {p = p} c o w) (both-enter now taken f y) x =
      rw (f ∙ ap (λ (q : Occupant). not (is_idle q)) c.free)
      (record {
        last = wrote-last (dated onto i p now ∷ []) (w t) y (λ j n. rw (ne_eqb j i n)) (rw (o.on, eq-eqb i i refl) x);
        rights = wrote-rights Y (w t) (on-right x o.on);
      })
  legal_follows {i} t h (goes_off {p = p} _ on k w) (both-leave {now = now} y) x =
      record {
        last = wrote-last (dated off i p now ∷ []) (w t) y (λ j n. rw (ne_eqb j i n)) (rw (eq-eqb i i refl) x);
        rights = wrote-rights Y (w t) (kept-right x (λ q e. absurd (k.rests q e)) (Y.right i h));
      }

module _ {k : Shape} {b : Book} {s : System} (K : InStep k b s) (Y : Rights s) where
  made-follows : (d v : ℕ) (q : Request) → Present s (slot d v) → reaches q (pcpus s) ≡ true
      → Follows s (made s (slot d v) q).system (entered b (slot d v) (note_of k b (slot d v) q))
  made-follows d v q h r =
      legal_follows K.lines Y K.tables h (made_legal s (slot d v) K.sound h q r) (made_match K d v q h r)
      (changed-last _ (Y.right (slot d v) h) q s.pcpu_count)

  abbrev FollowsFrom : SystemOutcome → Entry → Type 0
  FollowsFrom r e = Follows s r.system e

  refuses_follow : (a : Answer) → Follows s s (unwritten (told a) b)
  refuses_follow a = unwritten-follows K.lines Y (told a)

  pub requested-follows : (d v : ℕ) (q : Request)
      → Follows s (requested s d v q).system (cond (reaches q k.pcpus) (identified k b d v (note_of k b (slot d v) q)) (unwritten 3 b))
  requested-follows d v q = requested-by K FollowsFrom refuses_follow d v q (made-follows d v q)

-- ---- one vCPU after another

onto-append : (i l : ℕ) (xs ys : List Dated) → latest_onto i l (xs ++ ys) ≡ latest_onto i (latest_onto i l xs) ys
unfolding latest_onto
onto-append i l [] ys = refl
onto-append i l (x ∷ xs) ys = onto-append i (latest_onto i l (x ∷ [])) xs ys

-- one entry after another, where whoever is Offline after the first is so after the second
joined-last : (e f : Entry) (i l : ℕ) → ((e.book i).state ≡ Offline → (f.book i).state ≡ Offline)
    → last_by (joined e f) i l ≡ last_by f i (last_by e i l)
joined-last e f i l g = rw (onto-append i l e.moves f.moves) (go (e.book i).state g)
  where
    m : ℕ
    m = latest_onto i l e.moves

    go : (st : RunState) → (st ≡ Offline → (f.book i).state ≡ Offline)
        → unless_offline (f.book i).state (latest_onto i m f.moves) ≡ unless_offline (f.book i).state (latest_onto i (unless_offline st m) f.moves)
    go Offline g = rw (g refl)
    go Runnable g = refl
    go (Running p) g = refl
    go Blocked g = refl

-- whoever is Offline stays so where one is taken offline
still-offline : (b : Book) (i full now j : ℕ) → (b j).state ≡ Offline
    → ((entered b i (offline_note (b i) full now (b i).state)).book j).state ≡ Offline
still-offline b i full now j e = go (b i).state
  where
    either : (l : Line) → l.state ≡ Offline → (t : Bool) → (cond t l (b j)).state ≡ Offline
    either l f true = f
    either l f false = e

    go : (st : RunState) → ((entered b i (offline_note (b i) full now st)).book j).state ≡ Offline
    go Offline = e
    go Runnable = either _ refl (eqb j i)
    go (Running p) = either _ refl (eqb j i)
    go Blocked = either _ refl (eqb j i)

module _ {k : Shape} {b : Book} {s : System} (K : InStep k b s) (Y : Rights s) where
  first-follows : (d now n : ℕ) → d < domains s → n ≤ vcpus s
      → Follows s (offline_first s d now n) (offline_lines k b d now n)
  unfolding offline_first offline_lines
  first-follows d now zero a x = unwritten-follows K.lines Y 0
  first-follows d now (suc n) a x =
      let e = offline_lines k b d now n in
      let m = first-keeps s K.sound K.tables d now n a (omega arith) in
      let T = still_in_step K m (first_alike K d now n a (omega arith)).lines in
      let F = first-follows d now n a (omega arith) in
      let h : Present (offline_first s d now n) (slot d n) = present-on {i = slot d n} m.shape (record { domain = omega arith; vcpu = omega arith }) in
      let G = made-follows T F.rights d n (Request.Offline now) h refl in
      let f = entered e.book (slot d n) (note_of k e.book (slot d n) (Request.Offline now)) in
      record {
        last = λ j y.
            G.last j (present-on m.shape y) ∙ ap (last_by f j) (F.last j y)
            ∙ sym (joined-last e f j (last_at s j) (still-offline e.book (slot d n) (full_mask k.pcpus) now j));
        rights = G.rights;
      }

  pub offline-all-follows : (d now : ℕ)
      → Follows s (offline_all s d now).system (cond (ltb d k.domains) (offline_lines k b d now k.vcpus) (unwritten 0 b))
  offline-all-follows d now =
      offline-all-by K (FollowsFrom K Y) (refuses_follow K Y) d now (λ a. first-follows d now (vcpus s) a (omega arith))
