-- Each vCPU record keeps the pCPU that it was last dispatched onto. Assumes nothing.
use Prim.Native.Nat.{ℕ}
use mathlib.Core.Bool.{cond}
use mathlib.Core.Path.{◌≡◌, refl, sym, ◌∙◌, ap, subst}
use mathlib.Core.List.{List, [], ◌∷◌}
use native.Mathlib.Decide.{ℕ_discrete}
use lib.Dec.{eqb}
use borrow.Author.Tests.{eq-eqb, ne_eqb}
use Rattle.system.specs.declared.VirtualCpu.{VirtualCpu}
use Rattle.system.specs.declared.Occupant.{Occupant}
use Rattle.system.specs.declared.System.{System}
use Rattle.system.specs.Answers.{SystemOutcome}
use Rattle.system.specs.Reads.{last_at}
use Rattle.system.specs.Writes.{Wrote}
use Rattle.changes.specs.Records.{dispatched, left}
use Rattle.sched.proofs.Laws.{off_nr, ready_nr}
use Rattle.moves.specs.declared.Choice.{Choice}
use Rattle.rules.proofs.Laws.{run-wrote, preempt-wrote}
use Rattle.calls.specs.declared.Call.{Call}
use Rattle.demand3.specs.Machine.{Machine}
use Rattle.demand3.specs.Lawful.{Enacts, rests, runs, preempts, Makes, Lawful}
use Rattle.demand3.specs.ServiceMachine.{service_machine}
use Rattle.demand3.specs.Dated.{Direction, onto, off, Dated, dated}
use Rattle.demand3.specs.Book.{Book, Shape, Entry, blank_book, moved_all, enter}
use Rattle.demand3.specs.Agreement.{PresentIn, InStep}
use Rattle.demand3.specs.Lists.{after_all, entry_of}
use Rattle.demand3.specs.Fresh.{first_host, host_at}
use Rattle.demand3.specs.LastPcpu.{arrived, latest_onto, unless_offline, last_after, LastKept, EveryPointKeepsLast}
use Rattle.demand3.specs.LastPcpu.{EveryLastKept}
use Rattle.demand3.proofs.Holders.{shaped-present}
use Rattle.demand3.proofs.EveryCall.{Kept, run_in_step, preempt_in_step, step-goes}
use Rattle.demand3.proofs.ServiceMachine.{service_lawful}
use Rattle.demand3.proofs.Entering.{present-exists}
use Rattle.demand3.proofs.FreshHost.{fresh_in_step, fresh-last}
use Rattle.demand3.proofs.LastRecords.{kept-right, on-right}
use Rattle.demand3.proofs.LastRequests.{Rights, Follows, of_record, wrote-rights, same-last, unwritten-follows}
use Rattle.demand3.proofs.LastRequests.{requested-follows, offline-all-follows}

-- ---- an advance

-- what moves leave: by none of them does one go Offline
record MovesLeave (s t : System) (ms : List Dated) : Type 0 where
  last : (j : ℕ) → last_at t j ≡ latest_onto j (last_at s j) ms
  rights : Rights t

-- one move more in front
moved_then : {s s' t : System} {i q : ℕ} {v : VirtualCpu} {o : Occupant} {ms : List Dated} (w : Direction) (p now : ℕ) → Wrote s s' i v q o
    → v.last ≡ arrived w p (last_at s i) → MovesLeave s' t ms → MovesLeave s t (dated w i p now ∷ ms)
unfolding latest_onto
moved_then {s} {s'} {i = i} {ms = ms} w p now k f m =
    record { last = λ j. m.last j ∙ ap (λ (l : ℕ). latest_onto j l ms) (go j (ℕ_discrete j i)); rights = m.rights }
  where
    go : (j : ℕ) → Dec (j ≡ i) → last_at s' j ≡ cond (eqb j i) (arrived w p (last_at s j)) (last_at s j)
    go j (yes e) = rw (e, eq-eqb i i refl) (ap of_record k.here ∙ f)
    go j (no n) = rw (ne_eqb j i n) (ap of_record (k.there j n))

enacts-moved : {k : Shape} {now : ℕ} {s t : System} {cs : List Choice} {b : Book} → Enacts now s cs t → InStep k b s
    → Rights s → MovesLeave s t (moved_all b now cs).moves
unfolding moved_all latest_onto dispatched left
enacts-moved rests T Y = record { last = λ j. refl; rights = Y }
enacts-moved {now = now} (runs {s} {i = i} {p = p} c r) T Y =
    let w = run-wrote s now i p T.tables c in
    moved_then onto p now w refl (enacts-moved r (run_in_step T now i p c) (wrote-rights Y w (on-right refl refl)))
enacts-moved {now = now} (preempts {s} {i = i} {p = p} h on r) T Y =
    let w = preempt-wrote s now i p T.tables T.sound h on in
    let y = kept-right refl (λ q x. absurd (ready_nr q x)) (Y.right i h) in
    moved_then off p now w refl (enacts-moved r (preempt_in_step T now i p h on) (wrote-rights Y w y))

-- ---- each call

by_mechanism : {M : Machine} {h : M.Host} {c : Call} {r : SystemOutcome} {e : Entry} → Makes M h c r
    → Follows (M.system h) r.system e → Follows (M.system h) (M.system (M.after h c)) e
by_mechanism {M} {h} {e = e} m F = subst (λ (s : System). Follows (M.system h) s e) (sym m.system) F

module _ {M : Machine} (L : Lawful M) where
  advance-follows : {k : Shape} {b : Book} {h : M.Host} (now : ℕ) → Kept M k b h → Rights (M.system h)
      → Follows (M.system h) (M.system (M.after h (Call.Advance now))) (entry_of M k h b (Call.Advance now))
  unfolding enter
  advance-follows {k} {b} {h} now K Y =
      let S = K.in_step in
      let m = enacts-moved (L.advance h now S.tables S.sound).enacts S Y in
      let T = (step-goes L (Call.Advance now) K).kept.in_step in
      let e = entry_of M k h b (Call.Advance now) in
      record {
        last = λ j y.
            same-last T.lines m.rights j (shaped-present T.shaped T.sound (present-exists S y))
            ∙ ap (unless_offline (e.book j).state) (m.last j);
        rights = m.rights;
      }

  step_follows : {k : Shape} {b : Book} {h : M.Host} (c : Call) → Kept M k b h → Rights (M.system h)
      → Follows (M.system h) (M.system (M.after h c)) (entry_of M k h b c)
  unfolding enter
  step_follows {h = h} (Call.Ask d v q) K Y = by_mechanism (L.ask h d v q) (requested-follows K.in_step Y d v q)
  step_follows {h = h} (Call.OfflineAll d now) K Y = by_mechanism (L.offline-all h d now) (offline-all-follows K.in_step Y d now)
  step_follows {h = h} (Call.SetWeight d v w) K Y = by_mechanism (L.weight h d v w) (unwritten-follows K.in_step.lines Y 0)
  step_follows {h = h} (Call.SetWakeBoost on) K Y = by_mechanism (L.boost h on) (unwritten-follows K.in_step.lines Y 0)
  step_follows (Call.Advance now) K Y = advance-follows now K Y

  -- ---- every list

  after_last : {k : Shape} (cs : List Call) (h : M.Host) (b : Book) → Kept M k b h → Rights (M.system h) → (i : ℕ)
      → PresentIn k i → LastKept (M.system (after_all M h cs)) i (last_after M k h b i (last_at (M.system h) i) cs)
  unfolding after_all last_after
  after_last [] h b K Y i x =
      let y = Y.right i (shaped-present K.in_step.shaped K.in_step.sound x) in
      record { last = refl; running = y.running; offline = y.offline }
  after_last {k} (c ∷ cs) h b K Y i x =
      let F = step_follows c K Y in
      let n = M.after h c in
      let e = entry_of M k h b c in
      subst (λ (l : ℕ). LastKept (M.system (after_all M n cs)) i (last_after M k n e.book i l cs))
      (F.last i (shaped-present K.in_step.shaped K.in_step.sound x))
      (after_last cs n e.book (step-goes L c K).kept F.rights i x)

  pub machine_keeps-last : EveryPointKeepsLast M
  machine_keeps-last k b h T at_first cs i x = after_last cs h b (record { in_step = T }) rights i x
    where
      rights : Rights (M.system h)
      rights =
          record { right = λ j y. let z = at_first j (present-exists T y) in record { running = z.running; offline = z.offline } }

pub last-kept : EveryLastKept
last-kept f cs i x =
    subst
    (λ (l : ℕ). LastKept (host_at f cs).system i (last_after service_machine f.shape (first_host f) (blank_book f.shape) i l cs))
    (fresh-last f i x)
    (machine_keeps-last service_lawful f.shape (blank_book f.shape) (first_host f) (fresh_in_step f) at_first cs i x)
  where
    -- all are Offline, and were on none
    at_first : (j : ℕ) → PresentIn f.shape j
        → LastKept (first_host f).system j (last_at (first_host f).system j)
    at_first j y =
        let T = fresh_in_step f in
        let h = shaped-present T.shaped T.sound y in
        record {
          last = refl;
          running = λ p e. absurd (off_nr p ((T.lines.says j h).state ∙ e));
          offline = λ e. fresh-last f j y;
        }
