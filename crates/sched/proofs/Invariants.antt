-- What every call keeps: soundness and the shape; run times never fall. Assumes nothing.
use Prim.Native.Nat.{ℕ, zero, suc, ◌≤◌, ◌<◌}
use mathlib.Core.Bool.{true}
use mathlib.Core.Path.{◌≡◌, refl}
use native.Mathlib.Nat.{le_trans}
use native.Mathlib.Omega.{arith}
use Rattle.std.specs.Prelude.{Result}
use Rattle.system.specs.declared.Answer.{Answer}
use Rattle.system.specs.declared.System.{System}
use Rattle.system.specs.Answers.{SystemOutcome}
use Rattle.system.specs.Writes.{Tables, SameShape, shape-refl, shape-trans, present-on}
use Rattle.system.specs.Slots.{domains, vcpus, pcpus, slot, Present}
use Rattle.verdict.specs.Sound.{Sound}
use Rattle.changes.specs.Changes.{reaches}
use Rattle.calls.specs.declared.Request.{Request}
use Rattle.changes.specs.declared.Change.{Change}
use Rattle.sched.specs.Steps.{made, offline_first}
use Rattle.sched.specs.Invariants.{Keeps, RequestedKeeps, OfflineAllKeeps}
use Rattle.sched.proofs.Runtime.{same-times, grows}
use Rattle.sched.proofs.Legal.{Legal, stays, keeps, busy, goes_on, goes_off, sound-on, sound-off, sound-keep}
use Rattle.sched.proofs.Cases.{requested_case, offline-all_case}
use Rattle.sched.proofs.LegalRequests.{made_legal}

-- ---- one change

module _ {s : System} {i : ℕ} (t : Tables s) where
  legal_shape : {c : Result Change Answer} {r : SystemOutcome} → Legal s i c r → SameShape s r.system
  legal_shape (stays a) = shape-refl s
  legal_shape (keeps k w) = (w t).shape
  legal_shape (busy l e) = shape-refl s
  legal_shape (goes_on c o w) = (w t).shape
  legal_shape (goes_off now on k w) = (w t).shape

  legal_sound : {c : Result Change Answer} {r : SystemOutcome} → Sound s → Present s i → Legal s i c r → Sound r.system
  legal_sound S h (stays a) = S
  legal_sound S h (keeps k w) = sound-keep S (w t) k h
  legal_sound S h (busy l e) = S
  legal_sound S h (goes_on c o w) = sound-on S c (w t) o.on o.affine
  legal_sound S h (goes_off now on k w) = sound-off S h on (w t) k.rests

  pub made-keeps : Sound s → Present s i → (q : Request) → reaches q (pcpus s) ≡ true → Keeps s (made s i q).system
  made-keeps S h q r =
      let l = made_legal s i S h q r in
      record { shape = legal_shape l; sound = legal_sound S h l; times = λ w. grows t w l }

-- ---- every call

pub unchanged : {s : System} → Sound s → Keeps s s
unchanged {s} S = record { shape = shape-refl s; sound = S; times = λ w. same-times w }

pub and_then : {a b c : System} → Keeps a b → Keeps b c → Keeps a c
and_then x y =
    record {
      shape = shape-trans x.shape y.shape;
      sound = y.sound;
      times = λ w.
          let g = x.times w in
          let h = y.times g.word in
          record { time = λ j. le_trans (g.time j) (h.time j); word = h.word };
    }

pub requested-keeps : RequestedKeeps
requested-keeps s S t d v q = requested_case s (Keeps s) (unchanged S) d v q (λ h r. made-keeps t S h q r)

-- one vCPU after another
pub first-keeps : (s : System) → Sound s → Tables s → (d now k : ℕ) → d < domains s → k ≤ vcpus s → Keeps s (offline_first s d now k)
unfolding offline_first
first-keeps s S t d now zero a l = unchanged S
first-keeps s S t d now (suc k) a l =
    let h = first-keeps s S t d now k a (omega arith) in
    let p = present-on {i = slot d k} h.shape (record { domain = omega arith; vcpu = omega arith }) in
    and_then h (made-keeps (h.shape.tables t) h.sound p (Request.Offline now) refl)

pub offline-all-keeps : OfflineAllKeeps
offline-all-keeps s S t d now =
    offline-all_case s (Keeps s) (unchanged S) d now (λ a. first-keeps s S t d now (vcpus s) a (omega arith))
