-- The table follows a move: what a dispatch or a preemption leaves of it is the table of the system that the move leaves. Assumes nothing.
use Prim.Native.Nat.{ℕ, zero, suc, ◌-◌, ◌*◌, ◌%◌, ◌<◌, min}
use mathlib.Core.Bool.{Bool, true, false, cond}
use mathlib.Core.Path.{◌≡◌, refl, sym, ◌∙◌, ap, ap₂, subst}
use mathlib.Core.Logic.{◌≢◌}
use mathlib.Core.List.{List}
use native.Mathlib.Decide.{ℕ_discrete}
use native.Mathlib.Omega.{arith}
use lib.Dec.{ltb, leb, eqb}
use lib.ListN.{set, length-set}
use lib.Seq.{get_or-set_same, get_or-set_other}
use borrow.Author.Tests.{lt-ltb, lt-leb, ne_eqb}
use Rattle.service.specs.Service.{value}
use Rattle.system.specs.declared.RunState.TheVariants.{Runnable, Running}
use Rattle.system.specs.declared.VirtualCpu.{VirtualCpu}
use Rattle.system.specs.declared.System.{System}
use Rattle.system.specs.Reads.{vcpu_at, state_at}
use Rattle.system.specs.Writes.{present-back}
use Rattle.system.specs.Slots.{vcpus, slots, present, present-is, Present}
use Rattle.changes.specs.Records.{dispatched, left}
use Rattle.sched.specs.CanRun.{CanRun}
use Rattle.moves.specs.declared.Choice.{Choice}
use Rattle.moves.specs.declared.Choice.TheVariants.{Run, Preempt}
use Rattle.moves.specs.declared.Standing.TheVariants.{Rests, Waits, Expired}
use Rattle.moves.specs.declared.Row.{Row}
use Rattle.moves.specs.Table.{no_row, row_at}
use Rattle.moves.specs.TableWrites.{dispatched_row, left_row, dispatched_in, left_in}
use Rattle.rules.specs.Rules.{Rule}
use Rattle.rules.specs.Settle.{slot_in}
use Rattle.rules.specs.Steady.{Steady, run, preempt}
use Rattle.settling.specs.Standings.{standing_of}
use Rattle.settling.specs.AfterMoves.{moved}
use Rattle.settling.specs.TableOf.{RowOf, TableOf}
use Rattle.settling.specs.TableLaws.{Settleable}
use Rattle.settling.proofs.OneMove.{Moves, can-moves, moves-wrote}

-- with slot i's row stored, and the others that are asked for as they were, a table is that of a system
pub one_stored : (s s' : System) (ρ : Rule) (now n m i : ℕ) (t : List Row) (r : Row) → TableOf s ρ now t n → i < 128 → RowOf s' ρ now i r
    → ((j : ℕ) → j < m → j ≢ i → RowOf s' ρ now j (row_at t j)) → TableOf s' ρ now (set t i r) m
one_stored s s' ρ now n m i t r T below here there =
    record { size = length-set t i r ∙ T.size; rows = λ j l. go j l (ℕ_discrete j i) }
  where
    go : (j : ℕ) → j < m → Dec (j ≡ i) → RowOf s' ρ now j (row_at (set t i r) j)
    go j l (yes e) = rw e (subst (RowOf s' ρ now i) (sym (get_or-set_same t i r no_row (omega (arith, T.size)))) here)
    go j l (no n) = subst (RowOf s' ρ now j) (sym (get_or-set_other t i j r no_row n)) (there j l n)

-- the row of a slot whose record stays
row_kept : {s s' : System} {ρ : Rule} {now j : ℕ} {r : Row} → vcpus s' ≡ vcpus s → vcpu_at s' j ≡ vcpu_at s j
    → ρ.barred s' now j ≡ ρ.barred s now j → RowOf s ρ now j r → RowOf s' ρ now j r
row_kept {s} {s'} {ρ} {now} {j} {r} e f b R =
    record {
      standing =
          R.standing
          ∙ ap₂ (λ (c : ℕ) (v : VirtualCpu). standing_of (ltb (j % 8) c) (ρ.barred s now j) ρ.slice now v) (sym e) (sym f)
          ∙ ap (λ (y : Bool). standing_of (present s' j) y ρ.slice now (vcpu_at s' j)) (sym b);
      weight = R.weight;
      mask = λ h. R.mask h ∙ ap (λ (v : VirtualCpu). v.affinity) (sym f);
      service = λ h. R.service h ∙ ap (λ (v : VirtualCpu). ρ.service v now j) (sym f);
      last = λ h. R.last h ∙ ap (λ (v : VirtualCpu). v.last) (sym f);
      leaving = λ p h. R.leaving p h ∙ ap (λ (v : VirtualCpu). ρ.service (left v Runnable now) now j) (sym f);
    }

-- who was dispatched just now has held its pCPU for the slice only where that is 0
at_once : (q now : ℕ) → leb q (now - now) ≡ eqb q 0
at_once q now = rw (let z : now - now ≡ 0 = omega arith in z) (go q)
  where
    go : (n : ℕ) → leb n 0 ≡ eqb n 0
    go zero = refl
    go (suc n) = lt-leb (suc n) 0 (omega arith) ∙ sym (ne_eqb (suc n) 0 (λ e. omega arith))

module _ {s : System} {ρ : Rule} {now : ℕ} {t : List Row} (St : Steady ρ) (G : Settleable s ρ now t) where
  -- what is as it was after any move of one that is not barred
  module _ {c : Choice} (M : Moves s now c) (free : ρ.barred s now (slot_in c) ≡ false) where
    pub same-slots : slots (moved s now c) ≡ slots s
    same-slots = ap (λ (d : ℕ). min d 16 * 8) M.keeps.shape.domains

    same-vcpus : vcpus (moved s now c) ≡ vcpus s
    same-vcpus = ap (λ (a : ℕ). min a 8) M.keeps.shape.vcpus

    barred : (j : ℕ) → ρ.barred (moved s now c) now j ≡ ρ.barred s now j
    barred j = ap (λ (u : System). ρ.barred u now j) (sym M.enacts) ∙ St.barred now j G.tables G.sound M.can

    unbarred : (j p : ℕ) → Present (moved s now c) j → state_at (moved s now c) j ≡ Running p → ρ.barred (moved s now c) now j ≡ false
    unbarred j p f g = barred j ∙ go (ℕ_discrete j (slot_in c))
      where
        go : Dec (j ≡ slot_in c) → ρ.barred s now j ≡ false
        go (yes d) = rw d free
        go (no d) =
            let w = moves-wrote G.tables M in
            G.unbarred j p (present-back w.shape f) (ap (λ (v : VirtualCpu). v.state) (sym (w.there j d)) ∙ g)

    -- the standing of the slot that moved, by the record that it is left with
    mover-standing : (v : VirtualCpu) → vcpu_at (moved s now c) (slot_in c) ≡ v
        → standing_of (present (moved s now c) (slot_in c)) (ρ.barred (moved s now c) now (slot_in c)) ρ.slice now (vcpu_at (moved s now c) (slot_in c))
        ≡ standing_of true false ρ.slice now v
    mover-standing v e =
        let here : present (moved s now c) (slot_in c) ≡ true =
        ap (λ (a : ℕ). ltb (slot_in c % 8) a) same-vcpus ∙ lt-ltb (slot_in c % 8) (vcpus s) M.present.vcpu in
        ap₂ (λ (a y : Bool). standing_of a y ρ.slice now (vcpu_at (moved s now c) (slot_in c))) here (barred (slot_in c) ∙ free)
        ∙ ap (standing_of true false ρ.slice now) e

    -- with the row of the slot that moved stored
    follows : (r : Row) → RowOf (moved s now c) ρ now (slot_in c) r → Settleable (moved s now c) ρ now (set t (slot_in c) r)
    follows r here =
        let there = λ (j : ℕ) (l : j < slots (moved s now c)) (n : j ≢ slot_in c).
        row_kept same-vcpus ((moves-wrote G.tables M).there j n) (barred j) (G.table.rows j (omega (arith, l, same-slots))) in
        record {
          tables = M.keeps.shape.tables G.tables;
          sound = M.keeps.sound;
          times = (M.keeps.times G.times).word;
          unbarred = unbarred;
          table = one_stored s (moved s now c) ρ now _ _ (slot_in c) t r G.table (omega (arith, (present-is M.present).0)) here there;
        }

  module _ {i p : ℕ} (c : CanRun s i p) (free : ρ.barred s now i ≡ false) where
    M : Moves s now (Run i p)
    M = can-moves now G.tables G.sound (run c)

    R : RowOf s ρ now i (row_at t i)
    R = G.table.rows i (present-is c.present).0

    -- it waits
    part : (row_at t i).standing ≢ Rests
    part z =
        let waits : (row_at t i).standing ≡ Waits =
        R.standing ∙ ap₂ (λ (a y : Bool). standing_of a y ρ.slice now (vcpu_at s i)) (present-is c.present).1 free ∙ rw c.ready in
        cc

    mover : RowOf (moved s now (Run i p)) ρ now i (dispatched_row ρ.slice p (row_at t i))
    unfolding dispatched
    mover = go (eqb ρ.slice 0) refl
      where
        v : VirtualCpu
        v = vcpu_at s i

        e : vcpu_at (moved s now (Run i p)) i ≡ dispatched v p now
        e = (moves-wrote G.tables M).here

        stands : (b : Bool) → eqb ρ.slice 0 ≡ b
            → cond b (Expired (p % 64)) Rests
            ≡ standing_of (present (moved s now (Run i p)) i) (ρ.barred (moved s now (Run i p)) now i) ρ.slice now (vcpu_at (moved s now (Run i p)) i)
        stands b d =
            ap (λ (y : Bool). cond y (Expired (p % 64)) Rests) (sym (at_once ρ.slice now ∙ d)) ∙ sym (mover-standing M free (dispatched v p now) e)

        mask : (row_at t i).mask ≡ (vcpu_at (moved s now (Run i p)) i).affinity
        mask = R.mask part ∙ ap (λ (u : VirtualCpu). u.affinity) (sym e)

        service : value (row_at t i).service ≡ ρ.service (vcpu_at (moved s now (Run i p)) i) now i
        service = R.service part ∙ sym (St.onto v p now i c.ready) ∙ ap (λ (u : VirtualCpu). ρ.service u now i) (sym e)

        last : p ≡ (vcpu_at (moved s now (Run i p)) i).last
        last = ap (λ (u : VirtualCpu). u.last) (sym e)

        go : (b : Bool) → eqb ρ.slice 0 ≡ b
            → RowOf (moved s now (Run i p)) ρ now i
            (cond b (record (row_at t i) { standing = Expired (p % 64); last = p; leaving = (row_at t i).service })
            (record (row_at t i) { standing = Rests; last = p }))
        go true d =
            record {
              standing = stands true d;
              weight = λ h. R.weight part;
              mask = λ h. mask;
              service = λ h. service;
              last = λ h. last;
              leaving =
                  λ q h.
                  R.service part ∙ sym (St.off v p now i c.ready (G.times i))
                  ∙ ap (λ (u : VirtualCpu). ρ.service (left u Runnable now) now i) (sym e);
            }
        go false d =
            record {
              standing = stands false d;
              weight = λ h. R.weight part;
              mask = λ h. mask;
              service = λ h. service;
              last = λ h. last;
              leaving = λ q h. absurd cc;
            }

    pub follows-run : Settleable (moved s now (Run i p)) ρ now (dispatched_in ρ.slice t i p)
    unfolding dispatched_in
    follows-run = follows M free _ mover

  module _ {i p : ℕ} (h : Present s i) (on : state_at s i ≡ Running p) (due : (row_at t i).standing ≡ Expired p) where
    N : Moves s now (Preempt i p)
    N = can-moves now G.tables G.sound (preempt h on)

    leaver : RowOf (moved s now (Preempt i p)) ρ now i (left_row (row_at t i))
    unfolding left
    leaver =
        let R = G.table.rows i (present-is h).0 in
        let part : (row_at t i).standing ≢ Rests = λ z. absurd cc in
        let e = (moves-wrote G.tables N).here in
        record {
          standing = sym (mover-standing N (G.unbarred i p h on) (left (vcpu_at s i) Runnable now) e);
          weight = λ h. R.weight part;
          mask = λ h. R.mask part ∙ ap (λ (u : VirtualCpu). u.affinity) (sym e);
          service = λ h. R.leaving p due ∙ ap (λ (u : VirtualCpu). ρ.service u now i) (sym e);
          last = λ h. R.last part ∙ ap (λ (u : VirtualCpu). u.last) (sym e);
          leaving = λ q k. absurd cc;
        }

    pub follows-preempt : Settleable (moved s now (Preempt i p)) ρ now (left_in t i)
    unfolding left_in
    follows-preempt = follows N (G.unbarred i p h on) _ leaver
