-- What an advance can still cost a pCPU: a runner that is not due nothing, an idle pCPU one move, one that is due two. Each move takes
-- one off the sum. Assumes nothing.
use Prim.Native.Nat.{ℕ, suc, ◌*◌, ◌/◌, ◌%◌, ◌≤◌, ◌<◌}
use mathlib.Core.Bool.{Bool, true, false, cond}
use mathlib.Core.Path.{◌≡◌, refl, sym, ap}
use mathlib.Core.Logic.{◌≢◌}
use native.Mathlib.Omega.{arith}
use Rattle.scans.specs.Booleans.{zero_one}
use Rattle.system.specs.declared.RunState.TheVariants.{Runnable}
use Rattle.system.specs.declared.VirtualCpu.{VirtualCpu}
use Rattle.system.specs.declared.Occupant.{Occupant}
use Rattle.system.specs.declared.Occupant.TheVariants.{Idle, Vcpu}
use Rattle.system.specs.declared.System.{System}
use Rattle.system.specs.Reads.{vcpu_at, occupant_at}
use Rattle.system.specs.Writes.{Tables, Wrote, same-pcpus}
use Rattle.system.specs.Slots.{pcpus, slot, slot_of}
use Rattle.verdict.specs.Sound.{OnPcpu, Sound}
use Rattle.changes.specs.Records.{dispatched, left}
use Rattle.sched.specs.CanRun.{CanRun}
use Rattle.moves.specs.declared.Choice.TheVariants.{Run, Preempt}
use Rattle.rules.specs.Settle.{enacted}
use Rattle.rules.specs.Rules.{Rule}
use Rattle.rules.specs.Due.{due, IsDue}
use Rattle.rules.specs.Steady.{run, preempt}
use Rattle.rules.proofs.DueLaws.{dispatched-not-due, due-same}
use Rattle.rules.proofs.OneMove.{run-wrote, preempt-wrote}
use Rattle.rules.proofs.Sums.{sum, sum_bound, sum_change}

abbrev pub potential_of : System → Rule → ℕ → Occupant → ℕ
potential_of s ρ now Idle = 1
potential_of s ρ now (Vcpu d v) = cond (due s ρ now (slot d v)) 2 0

unfoldable pub potential : System → Rule → ℕ → ℕ → ℕ
potential s ρ now p = potential_of s ρ now (occupant_at s p)

unfoldable pub potentials : System → Rule → ℕ → ℕ
potentials s ρ now = sum (potential s ρ now) (pcpus s)

pub potential_le : (s : System) (ρ : Rule) (now : ℕ) (o : Occupant) → potential_of s ρ now o ≤ 2
potential_le s ρ now Idle = omega arith
potential_le s ρ now (Vcpu d v) = go (due s ρ now (slot d v))
  where
    go : (b : Bool) → cond b 2 0 ≤ 2
    go true = omega arith
    go false = omega arith

pub potentials_le : (s : System) (ρ : Rule) (now : ℕ) → potentials s ρ now ≤ 2 * pcpus s
unfolding potentials potential
potentials_le s ρ now = sum_bound (potential s ρ now) 2 (pcpus s) (λ p. potential_le s ρ now (occupant_at s p))

-- a move on pCPU p takes one off its potential, and leaves that of the others
pub record Drops (s s' : System) (ρ : Rule) (now p : ℕ) : Type 0 where
  pub exists : p < pcpus s
  pub pcpus : Rattle.system.specs.Slots.pcpus s' ≡ Rattle.system.specs.Slots.pcpus s
  pub here : suc (potential s' ρ now p) ≡ potential s ρ now p
  pub there : (q : ℕ) → q < Rattle.system.specs.Slots.pcpus s → q ≢ p → potential s ρ now q ≡ potential s' ρ now q

pub drops_sum : {s s' : System} {ρ : Rule} {now p : ℕ} → Drops s s' ρ now p → suc (potentials s' ρ now) ≡ potentials s ρ now
unfolding potentials
drops_sum {s} {s'} {ρ} {now} {p} c =
    omega (arith, ap (sum (potential s' ρ now)) c.pcpus, sum_change (potential s ρ now) (potential s' ρ now) (pcpus s) p c.exists c.there, c.here)

-- a write of slot i and pCPU p leaves the potential of the other pCPUs, where i holds none of them and nobody else's being due changes
elsewhere : {s s' : System} {i p : ℕ} {v : VirtualCpu} {o : Occupant} (ρ : Rule) (now : ℕ) → Wrote s s' i v p o
    → ((j : ℕ) → j ≢ i → due s' ρ now j ≡ due s ρ now j)
    → ((q d u : ℕ) → q < pcpus s → q ≢ p → occupant_at s q ≡ Vcpu d u → slot d u ≢ i)
    → (q : ℕ) → q < pcpus s → q ≢ p → potential s ρ now q ≡ potential s' ρ now q
unfolding potential
elsewhere {s} {s'} {i} {p} {v} {o} ρ now w same alone q m n = rw (w.others q n) (by (occupant_at s q) refl)
  where
    by : (x : Occupant) → occupant_at s q ≡ x → potential_of s ρ now x ≡ potential_of s' ρ now x
    by Idle e = refl
    by (Vcpu d u) e = ap (λ (b : Bool). cond b 2 0) (sym (same (slot d u) (alone q d u m n e)))

module _ (s : System) (ρ : Rule) (now i p : ℕ) (t : Tables s) (S : Sound s) where
  pub run_drops : 1 ≤ ρ.slice → CanRun s i p → Drops s (enacted s now (Run i p)).system ρ now p
  unfolding potential
  run_drops h c =
      record {
        exists = c.exists;
        pcpus = same-pcpus w.shape;
        here = omega (arith, before, after);
        there = elsewhere ρ now w (due-same ρ now t S (run c)) alone;
      }
    where
      s' : System
      s' = (enacted s now (Run i p)).system

      w : Wrote s s' i (dispatched (vcpu_at s i) p now) p (Vcpu (i / 8) (i % 8))
      w = run-wrote s now i p t c

      alone : (q d u : ℕ) → q < pcpus s → q ≢ p → occupant_at s q ≡ Vcpu d u → slot d u ≢ i
      alone q d u m n e x = let g = S.occupied q d u m e in let r = g.on in let y = c.ready in zero_one cc

      before : potential s ρ now p ≡ 1
      before = rw c.free

      after : potential s' ρ now p ≡ 0
      after = rw (w.onto, slot_of i, dispatched-not-due ρ now t h c)

  pub preempt_drops : IsDue s ρ now i p → Drops s (enacted s now (Preempt i p)).system ρ now p
  unfolding potential
  preempt_drops c =
      record {
        exists = o.exists;
        pcpus = same-pcpus w.shape;
        here = omega (arith, before, after);
        there = elsewhere ρ now w (due-same ρ now t S (preempt c.present c.on)) alone;
      }
    where
      s' : System
      s' = (enacted s now (Preempt i p)).system

      o : OnPcpu s i p
      o = S.runs i p c.present c.on

      w : Wrote s s' i (left (vcpu_at s i) Runnable now) p Idle
      w = preempt-wrote s now i p t S c.present c.on

      alone : (q d u : ℕ) → q < pcpus s → q ≢ p → occupant_at s q ≡ Vcpu d u → slot d u ≢ i
      alone q d u m n e x = let g = S.occupied q d u m e in let r = g.on in let y = c.on in n (cc)

      before : potential s ρ now p ≡ 2
      before = rw (o.back, slot_of i, c.due)

      after : potential s' ρ now p ≡ 1
      after = rw w.onto
