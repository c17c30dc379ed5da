-- Whatever is called, a sound host stays sound, and the system of one that is not stays as it is. Assumes nothing.
use Prim.Native.Nat.{ℕ}
use mathlib.Core.Bool.{Bool, true, false, cond}
use mathlib.Core.Path.{◌≡◌, refl, sym, ◌∙◌}
use mathlib.Core.List.{[]}
use lib.ListN.{length}
use Rattle.system.specs.declared.Answer.TheVariants.{Unsound}
use Rattle.system.specs.Answers.{told}
use Rattle.system.specs.declared.System.{System}
use Rattle.system.specs.Slots.{slots}
use Rattle.system.specs.Writes.{Tables, SameShape, shape-refl}
use Rattle.verdict.specs.Sound.{Sound, sound_iff}
use Rattle.verdict.specs.Violations.{invariants_hold}
use Rattle.calls.specs.declared.Request.{Request}
use Rattle.sched.specs.Invariants.{Keeps}
use Rattle.sched.specs.Steps.{requested, offline_all}
use Rattle.sched.proofs.Laws.{requested-keeps, offline-all-keeps}
use Rattle.policy.specs.declared.Scheduler.{Scheduler}
use Rattle.policy.specs.Accounts as policy
use Rattle.policy.specs.Accounting.{accounted}
use Rattle.policy.proofs.Laws.{set-weight-tabled, cleared-tabled, renew_same}
use Rattle.advance.specs.Advance.{sound_advance, advance}
use Rattle.advance.proofs.Laws.{advance-does}
use Rattle.host.specs.declared.Host.{Host}
use Rattle.calls.specs.declared.Call.{Call}
use Rattle.host.specs.Step.{step}
use Rattle.host.specs.WakeEdges.{TabledHost}

-- the verdict on t is that on s, its shape is that of s, and its tables are as long as the code's
record KeptSystem (s t : System) : Type 0 where
  pub verdict : invariants_hold t ≡ invariants_hold s
  pub shape : SameShape s t
  pub tables : Tables t

module _ (s : System) (T : Tables s) where
  same : KeptSystem s s
  same = record { verdict = refl; shape = shape-refl s; tables = T }

  -- by what is known of a sound system, and of one that is not
  either : (t : System) → (Sound s → Keeps s t) → (invariants_hold s ≡ false → t ≡ s) → KeptSystem s t
  either t sound unsound = go (invariants_hold s) refl
    where
      go : (b : Bool) → invariants_hold s ≡ b → KeptSystem s t
      go true e =
          let k = sound ((sound_iff s).0 e) in
          record { verdict = (sound_iff t).1 k.sound ∙ sym e; shape = k.shape; tables = k.shape.tables T }
      go false e = rw (unsound e) same

  requested-kept : (d v : ℕ) (q : Request) → KeptSystem s (requested s d v q).system
  unfolding requested
  requested-kept d v q = either _ (λ S. requested-keeps s S T d v q) (λ e. rw e)

  offline-all-kept : (d now : ℕ) → KeptSystem s (offline_all s d now).system
  unfolding offline_all
  offline-all-kept d now = either _ (λ S. offline-all-keeps s S T d now) (λ e. rw e)

  advance-kept : (π : Scheduler) (now : ℕ) → KeptSystem s (advance s π now).system
  unfolding advance
  advance-kept π now = either _ (λ S. (advance-does s π now T S).keeps) (λ e. rw e)

-- an advance keeps the number of accounts
advance-tabled : (s : System) (π : Scheduler) (now : ℕ) → length (advance s π now).policy.accounts ≡ length π.accounts
unfolding advance accounted
advance-tabled s π now = go (invariants_hold s)
  where
    go : (b : Bool) → length (cond b (sound_advance s π now) (record { number = told Unsound; system = s; policy = π; moves = [] })).policy.accounts ≡ length π.accounts
    go true = (renew_same s π now (slots s)).tabled
    go false = refl

-- the verdict on h is that on g, its system's shape is that of g's, and its tables are as long as the code's
pub record Kept (g h : Host) : Type 0 where
  pub verdict : invariants_hold h.system ≡ invariants_hold g.system
  pub shape : SameShape g.system h.system
  pub tabled : TabledHost h

module _ (h : Host) (T : TabledHost h) where
  by-system : (t : System) → KeptSystem h.system t → Kept h (record { system = t; scheduler = h.scheduler })
  by-system t k = record { verdict = k.verdict; shape = k.shape; tabled = record { system = k.tables; accounts = T.accounts } }

  by-policy : (π : Scheduler) → policy.Tabled π → Kept h (record { system = h.system; scheduler = π })
  by-policy π L = record { verdict = refl; shape = shape-refl h.system; tabled = record { system = T.system; accounts = L.accounts } }

  accounts : policy.Tabled h.scheduler
  accounts = record { accounts = T.accounts }

  pub step_kept : (c : Call) → Kept h (step h c).host
  unfolding step
  step_kept (Call.Ask d v q) = by-system _ (requested-kept h.system T.system d v q)
  step_kept (Call.OfflineAll d now) = by-system _ (offline-all-kept h.system T.system d now)
  step_kept (Call.SetWeight d v w) = by-policy _ (set-weight-tabled h.scheduler accounts d v w)
  step_kept (Call.SetWakeBoost on) = by-policy _ (cleared-tabled h.scheduler accounts on)
  step_kept (Call.Advance now) =
      let k = advance-kept h.system T.system h.scheduler now in
      record {
        verdict = k.verdict;
        shape = k.shape;
        tabled = record { system = k.tables; accounts = advance-tabled h.system h.scheduler now ∙ T.accounts };
      }
