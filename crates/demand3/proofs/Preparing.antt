-- What the calls that set a pool up keep: nobody has run, no offset is set, and nobody is in the snapshot. Assumes
-- nothing.
use Prim.Native.Nat.{ℕ, ◌/◌, ◌%◌, ◌^◌, ◌<◌, max}
use mathlib.Core.Bool.{false}
use mathlib.Core.Path.{◌≡◌, ◌∙◌}
use mathlib.Core.Logic.{◌⊎◌, inl, inr}
use native.Mathlib.Omega.{arith}
use Rattle.system.specs.declared.System.{System}
use Rattle.sched.specs.Invariants.{Keeps}
use Rattle.sched.proofs.Laws.{requested-keeps, offline-all-keeps}
use Rattle.policy.specs.Accounts.{was_schedulable, set_weight, set_wake_boost}
use Rattle.policy.specs.Standing.{weight_at}
use Rattle.policy.specs.Settings.{Weighed, Cleared}
use Rattle.policy.proofs.Laws.{Tabled, set-weighed, set-weight-either, set-weight-tabled, cleared, cleared-tabled}
use Rattle.host.specs.declared.Host.{Host}
use Rattle.calls.specs.declared.Call.{Call}
use Rattle.host.specs.Step.{step}
use Rattle.calls.specs.Typed.{Typed}
use Rattle.demand3.specs.ServiceMachine.{service_machine}
use Rattle.demand3.specs.Book.{Book, Shape}
use Rattle.demand3.specs.Lists.{Prepares}
use Rattle.demand3.specs.Lists as lists
use Rattle.demand3.proofs.EveryCall.{Kept}
use Rattle.demand3.proofs.BeforeFirstAdvance.{Unrun, admit-unrun, block-unrun, wake-unrun, mask-unrun}
use Rattle.demand3.proofs.BeforeFirstAdvance.{offline-unrun}
use Rattle.demand3.proofs.BeforeFirstAdvance.{offline-all-unrun}
use Rattle.demand3.proofs.LagMoves.{Plain}
use Rattle.demand3.proofs.Pool.{Words}

pub record Prepared (h : Host) : Type 0 where
  pub unrun : Unrun h.system
  pub plain : Plain h.scheduler
  pub tabled : Tabled h.scheduler
  pub words : Words h.system
  pub unseen : (i : ℕ) → was_schedulable h.scheduler (i / 8) (i % 8) ≡ false

abbrev pub Next : Host → Call → Host
Next h c = (step h c).host

-- a call of the mechanism touches no account
by_mechanism : {h : Host} {s : System} → Prepared h → Keeps h.system s → Unrun s → Prepared (record { system = s; scheduler = h.scheduler })
by_mechanism P m y = record { unrun = y; plain = P.plain; tabled = P.tabled; words = (m.times P.words).word; unseen = P.unseen }

pub prepare : {k : Shape} {b : Book} {h : Host} {c : Call} → Kept service_machine k b h → Prepared h → Typed c
    → Prepares h.system.pcpu_count c → Prepared (Next h c)
unfolding step
prepare {h = h} K P f (lists.Prepares.admit d v) =
    let T = K.in_step in
    by_mechanism P (requested-keeps _ T.sound T.tables d v _) (admit-unrun _ T.tables T.sound P.unrun d v)
prepare {h = h} K P f (lists.Prepares.block d v now) =
    let T = K.in_step in
    by_mechanism P (requested-keeps _ T.sound T.tables d v _) (block-unrun _ T.tables T.sound P.unrun d v now)
prepare {h = h} K P f (lists.Prepares.wake d v) =
    let T = K.in_step in
    by_mechanism P (requested-keeps _ T.sound T.tables d v _) (wake-unrun _ T.tables T.sound P.unrun d v)
prepare {h = h} K P f (lists.Prepares.offline d v now) =
    let T = K.in_step in
    by_mechanism P (requested-keeps _ T.sound T.tables d v _) (offline-unrun _ T.tables T.sound P.unrun d v now)
prepare {h = h} K P f (lists.Prepares.offline-all d now) =
    let T = K.in_step in
    by_mechanism P (offline-all-keeps _ T.sound T.tables d now) (offline-all-unrun _ T.tables T.sound P.unrun d now)
prepare {h = h} K P f (lists.Prepares.mask d v m e) =
    let T = K.in_step in
    by_mechanism P (requested-keeps _ T.sound T.tables d v _) (mask-unrun _ T.tables T.sound P.unrun d v _ e)
prepare {h = h} K P f (lists.Prepares.weigh d v w) =
    record {
      unrun = P.unrun;
      plain =
          record {
            offsets = λ i. look.offset (i / 8) (i % 8) ∙ P.plain.offsets i;
            weights = λ i. weight i (set-weight-either h.scheduler P.tabled d v w (i / 8) (i % 8));
          };
      tabled = set-weight-tabled h.scheduler P.tabled d v w;
      words = P.words;
      unseen = λ i. look.snapshot (i / 8) (i % 8) ∙ P.unseen i;
    }
  where
    look : Weighed h.scheduler d v w (set_weight h.scheduler d v w)
    look = set-weighed h.scheduler P.tabled d v w

    weight : (i : ℕ)
        → (weight_at (set_weight h.scheduler d v w) i ≡ max w 1) ⊎ (weight_at (set_weight h.scheduler d v w) i ≡ weight_at h.scheduler i)
        → weight_at (set_weight h.scheduler d v w) i < 2 ^ 32
    weight i (inl e) = omega (arith, f.2)
    weight i (inr e) = omega (arith, P.plain.weights i)
prepare {h = h} K P f (lists.Prepares.boost on) =
    record {
      unrun = P.unrun;
      plain =
          record {
            offsets = λ i. look.offset (i / 8) (i % 8);
            weights = λ i. omega (arith, look.weight (i / 8) (i % 8), P.plain.weights i);
          };
      tabled = cleared-tabled h.scheduler P.tabled on;
      words = P.words;
      unseen = λ i. look.snapshot (i / 8) (i % 8) ∙ P.unseen i;
    }
  where
    look : Cleared h.scheduler on (set_wake_boost h.scheduler on)
    look = cleared h.scheduler on
