-- One move that may be made: what it leaves of the system and of the set of idle pCPUs. Assumes nothing.
use Prim.Native.Nat.{ℕ, ◌+◌, ◌-◌, ◌/◌, ◌%◌, ◌^◌, ◌<◌}
use mathlib.Core.Bool.{Bool, false, cond, not, ◌&&◌}
use mathlib.Core.Path.{◌≡◌, sym, ◌∙◌, ap, ap₂, subst}
use native.Mathlib.Omega.{arith}
use lib.Dec.{ltb}
use borrow.Author.Tests.{lt-ltb}
use Rattle.masks.specs.Masks.{permits, pcpu_bit}
use Rattle.masks.specs.Laws.{pcpu-bit-is}
use Rattle.masks.specs.Sets.{set_of-permits, set_of_change}
use Rattle.system.specs.declared.Occupant.{Occupant}
use Rattle.system.specs.declared.Occupant.TheVariants.{Vcpu}
use Rattle.system.specs.declared.System.{System}
use Rattle.system.specs.Answers.{SystemOutcome}
use Rattle.system.specs.Reads.{vcpu_at, is_idle, idle_at}
use Rattle.system.specs.Writes.{put_vcpu, put_occupant, Tables, Wrote, wrote-both, same-pcpus}
use Rattle.system.specs.Slots.{pcpus, Present, slot-below}
use Rattle.verdict.specs.Sound.{Sound}
use Rattle.changes.specs.Records.{dispatched}
use Rattle.sched.specs.Invariants.{Keeps}
use Rattle.moves.specs.declared.Choice.{Choice}
use Rattle.moves.specs.declared.Choice.TheVariants.{Run, Preempt}
use Rattle.moves.specs.Settling.{with_pcpu}
use Rattle.rules.specs.Settle.{enacted, slot_in, onto_in}
use Rattle.rules.specs.Steady.{CanMove, run, preempt}
use Rattle.rules.proofs.Laws.{run-enacted, run-keeps, preempt-enacted, preempt-keeps}
use Rattle.settling.specs.IdleSet.{idle_set}
use Rattle.settling.specs.AfterMoves.{record_after, occupant_after, moved}

-- what a move that may be made does
pub record Moves (s : System) (now : ℕ) (c : Choice) : Type 0 where
  pub can : CanMove s c
  pub present : Present s (slot_in c)
  pub pcpu : onto_in c < pcpus s
  pub enacts : (enacted s now c).system ≡ moved s now c
  pub keeps : Keeps s (moved s now c)
  pub frees : idle_at s (onto_in c) ≡ not (is_idle (occupant_after c))

pub can-moves : {s : System} {c : Choice} (now : ℕ) → Tables s → Sound s → CanMove s c → Moves s now c
can-moves {s} now T S (run {i = i} {p = p} can) =
    let domain : i / 8 ≡ i / 8 % 16 = omega (arith, slot-below can.present) in
    let x : (enacted s now (Run i p)).system ≡ moved s now (Run i p) =
    ap (λ (r : SystemOutcome). r.system) (run-enacted s now i p can)
    ∙ ap (λ (d : ℕ). put_occupant (put_vcpu s i (dispatched (vcpu_at s i) p now)) p (Vcpu d (i % 8))) domain in
    record {
      can = run can;
      present = can.present;
      pcpu = can.exists;
      enacts = x;
      keeps = subst (Keeps s) x (run-keeps s now i p T S can);
      frees = rw (lt-ltb p (pcpus s) can.exists) (ap is_idle can.free);
    }
can-moves {s} now T S (preempt {i = i} {p = p} h on) =
    let o = S.runs i p h on in
    let x : (enacted s now (Preempt i p)).system ≡ moved s now (Preempt i p) = ap (λ (r : SystemOutcome). r.system) (preempt-enacted s now i p on) in
    record {
      can = preempt h on;
      present = h;
      pcpu = o.exists;
      enacts = x;
      keeps = subst (Keeps s) x (preempt-keeps s now i p T S h);
      frees = rw (lt-ltb p (pcpus s) o.exists) (ap is_idle o.back);
    }

module _ {s : System} {now : ℕ} {c : Choice} (T : Tables s) (M : Moves s now c) where
  -- what it writes
  pub moves-wrote : Wrote s (moved s now c) (slot_in c) (record_after c (vcpu_at s (slot_in c)) now) (onto_in c) (occupant_after c)
  moves-wrote = wrote-both s (slot_in c) _ (onto_in c) (occupant_after c) T (slot-below M.present) (omega (arith, M.pcpu))

  -- ---- the idle set follows

  abbrev free : Bool
  free = is_idle (occupant_after c)

  here : idle_at (moved s now c) (onto_in c) ≡ free
  here =
      ap₂ (λ (k : ℕ) (o : Occupant). ltb (onto_in c) k && is_idle o) (same-pcpus M.keeps.shape) moves-wrote.onto
      ∙ rw (lt-ltb (onto_in c) (pcpus s) M.pcpu)

  there : (q : ℕ) → (q ≡ onto_in c → ⊥) → idle_at s q ≡ idle_at (moved s now c) q
  there q n = sym (ap₂ (λ (k : ℕ) (o : Occupant). ltb q k && is_idle o) (same-pcpus M.keeps.shape) (moves-wrote.others q n))

  -- a pCPU joins the set or leaves it
  pub shifts : idle_set s + cond free (2 ^ onto_in c) 0 ≡ idle_set (moved s now c) + cond (not free) (2 ^ onto_in c) 0
  unfolding idle_set
  shifts =
      rw (M.frees, here) at
      (set_of_change (λ q. idle_at s q) (λ q. idle_at (moved s now c) q) 64 (onto_in c) (omega (arith, M.pcpu)) (λ q l n. there q n))

module _ {s : System} {now i p : ℕ} (T : Tables s) where
  pub run-idle : Moves s now (Run i p) → idle_set s - pcpu_bit p ≡ idle_set (moved s now (Run i p))
  run-idle M = omega (arith, shifts T M, pcpu-bit-is p (omega (arith, M.pcpu)))

  held : Moves s now (Preempt i p) → permits (idle_set s) p ≡ false
  unfolding idle_set
  held M =
      set_of-permits (λ q. idle_at s q) 64 p (omega arith) ∙ ap₂ ◌&&◌ (lt-ltb p 64 (omega (arith, M.pcpu))) M.frees

  pub preempt-idle : Moves s now (Preempt i p) → with_pcpu (idle_set s) (p % 64) ≡ idle_set (moved s now (Preempt i p))
  preempt-idle M =
      let l : p % 64 ≡ p = omega (arith, M.pcpu) in
      rw (l, held M) (omega (arith, shifts T M, pcpu-bit-is p (omega (arith, M.pcpu))))
