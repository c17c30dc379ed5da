-- What a call of a lawful machine enters into the book of a host in step is made line by line, with moves at the
-- call's clock. Assumes nothing.
use Prim.Native.Nat.{ℕ, zero, suc, ◌+◌, ◌*◌, ◌≤◌, ◌<◌}
use mathlib.Core.Bool.{Bool, true, false, cond}
use mathlib.Core.Path.{◌≡◌, refl, sym, ◌∙◌}
use mathlib.Core.List.{List}
use native.Mathlib.Omega.{arith}
use lib.Dec.{ltb}
use borrow.Author.Tests.{ltb-true}
use Rattle.scans.specs.Booleans.{zero_one}
use Rattle.system.specs.declared.System.{System}
use Rattle.system.specs.Slots.{Present}
use Rattle.sched.specs.CanRun.{CanRun}
use Rattle.sched.proofs.Laws.{ready_nr}
use Rattle.moves.specs.declared.Choice.{Choice}
use Rattle.calls.specs.declared.Request.{Request}
use Rattle.calls.specs.declared.Call.{Call}
use Rattle.changes.specs.Changes.{reaches}
use Rattle.demand3.specs.Machine.{Machine}
use Rattle.demand3.specs.Lawful.{Enacts, rests, runs, preempts, Lawful}
use Rattle.demand3.specs.Book.{Book, Shape, Note, refuse, write, move, Entry, entered, identified, unwritten}
use Rattle.demand3.specs.Book.{note_of, offline_lines, moved_all, enter}
use Rattle.demand3.specs.Agreement.{PresentIn, InStep}
use Rattle.demand3.specs.Lists.{entry_of, Clock, at, request_clock, clock_of}
use Rattle.demand3.specs.Lists as lists
use Rattle.demand3.proofs.Holders.{shaped-present}
use Rattle.demand3.proofs.EveryCall.{Kept, moved-done, run_in_step, preempt_in_step}
use Rattle.demand3.proofs.Made.{Vacant, Made, done, goes_on, goes_off, made_then}
use Rattle.demand3.proofs.Noting.{Noted, request_made}

-- what is entered into book b: all of it is made at clock t, and nothing if a number other than 0 is told
pub record Enters (k : Shape) (t : Clock) (b : Book) (e : Entry) : Type 0 where
  pub made : Made k t b e.moves e.book
  pub spared : (e.number ≡ 0 → ⊥) → e ≡ unwritten e.number b

module _ {k : Shape} (b : Book) (t : Clock) where
  enters-nothing : (n : ℕ) → Enters k t b (unwritten n b)
  enters-nothing n = record { made = done; spared = λ f. refl }

  -- a test before it
  tested-enters : (e : Entry) (n : ℕ) (x : Bool) → (x ≡ true → Enters k t b e)
      → Enters k t b (cond x e (unwritten n b))
  tested-enters e n true f = f refl
  tested-enters e n false f = enters-nothing n

  identified-enters : k.vcpus ≤ 8 → (d v : ℕ) (n : Note) → (PresentIn k (d * 8 + v) → Noted k t b (d * 8 + v) n)
      → Enters k t b (identified k b d v n)
  identified-enters sized d v n f =
      tested-enters (cond (ltb v k.vcpus) (entered b (d * 8 + v) n) (unwritten 2 b)) 1 (ltb d k.domains)
      (λ x. tested-enters (entered b (d * 8 + v) n) 2 (ltb v k.vcpus)
      (λ y.
      let l = ltb-true d k.domains x in
      let m = ltb-true v k.vcpus y in
      record { made = f (record { domain = omega arith; vcpu = omega arith }); spared = told n }))
    where
      told : (m : Note) → ((entered b (d * 8 + v) m).number ≡ 0 → ⊥)
          → entered b (d * 8 + v) m ≡ unwritten (entered b (d * 8 + v) m).number b
      told (refuse a) g = refl
      told (write l) g = absurd (g refl)
      told (move w p now l) g = absurd (g refl)

first-enters : {k : Shape} (b : Book) (d now n : ℕ) → k.vcpus ≤ 8 → d < k.domains → n ≤ k.vcpus
    → Enters k (at now) b (offline_lines k b d now n)
unfolding offline_lines
first-enters b d now zero sized x y = enters-nothing b (at now) 0
first-enters {k} b d now (suc n) sized x y =
    record {
      made =
          made_then (first-enters b d now n sized x (omega arith)).made
          (request_made _ (record { domain = omega arith; vcpu = omega arith }) (Request.Offline now) refl);
      spared = λ f. absurd (f refl);
    }

-- ---- an advance's moves

module _ {k : Shape} {b : Book} {s : System} (T : InStep k b s) where
  pub present-exists : {i : ℕ} → Present s i → PresentIn k i
  present-exists h =
      let H = T.shaped in
      let S = T.sound in
      record { domain = omega (arith, H.domains, h.domain); vcpu = omega (arith, H.vcpus, h.vcpu) }

  runs-within : {i p : ℕ} → CanRun s i p → p < k.pcpus
  runs-within c = omega (arith, c.exists, T.shaped.pcpus)

  free-vacant : {i p : ℕ} → CanRun s i p → Vacant k b p
  free-vacant {i} {p} c j x on =
      let h = shaped-present T.shaped T.sound x in
      let o = (T.sound.runs j p h (sym (T.lines.says j h).state ∙ on)).back in
      let f = c.free in
      zero_one cc

enacts-made : {k : Shape} {now : ℕ} {s t : System} {cs : List Choice} {b : Book} → Enacts now s cs t → InStep k b s
    → Made k (at now) b (moved_all b now cs).moves (moved_all b now cs).book
unfolding moved_all
enacts-made rests T = done
enacts-made {now = now} (runs {i = i} {p = p} c r) T =
    goes_on refl (present-exists T c.present) (runs-within T c) (free-vacant T c)
    (record { ready = (T.lines.says i c.present).state ∙ c.ready; on = refl; clock = refl; time = refl })
    (enacts-made r (run_in_step T now i p c))
enacts-made {now = now} (preempts {i = i} {p = p} h on r) T =
    goes_off refl (present-exists T h)
    (record { on = (T.lines.says i h).state ∙ on; rests = ready_nr; time = refl })
    (enacts-made r (preempt_in_step T now i p h on))

-- ---- each call

sized : {M : Machine} {k : Shape} {b : Book} {h : M.Host} → Kept M k b h → k.vcpus ≤ 8
sized K = let T = K.in_step in omega (arith, T.shaped.vcpus, T.sound.vcpus)

pub call_enters : {M : Machine} {k : Shape} {b : Book} {h : M.Host} → Lawful M → (c : Call) → Kept M k b h
    → Enters k (clock_of c) b (entry_of M k h b c)
unfolding enter
call_enters {k = k} {b = b} L (Call.Ask d v q) K =
    let n = note_of k b (d * 8 + v) q in
    tested-enters b (request_clock q) (identified k b d v n) 3 (reaches q k.pcpus)
    (λ y. identified-enters b (request_clock q) (sized K) d v n (λ x. request_made b x q y))
call_enters {k = k} {b = b} L (Call.OfflineAll d now) K =
    tested-enters b (at now) (offline_lines k b d now k.vcpus) 0 (ltb d k.domains)
    (λ x. first-enters b d now k.vcpus (sized K) (ltb-true d k.domains x) (omega arith))
call_enters {b = b} L (Call.SetWeight d v w) K = enters-nothing b lists.none 0
call_enters {b = b} L (Call.SetWakeBoost on) K = enters-nothing b lists.none 0
call_enters {M} {b = b} {h = h} L (Call.Advance now) K =
    record {
      made = enacts-made (L.advance h now K.in_step.tables K.in_step.sound).enacts K.in_step;
      spared = λ f. absurd (f (moved-done b now (M.moves h (Call.Advance now))));
    }
