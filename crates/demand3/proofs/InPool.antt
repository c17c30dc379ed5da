-- From what is kept along a pool list to what is said of it. Assumes nothing.
use Prim.Native.Nat.{ℕ, ◌+◌, ◌-◌, ◌*◌, ◌/◌, ◌%◌, ◌^◌, ◌≤◌, ◌<◌}
use mathlib.Core.Bool.{true}
use mathlib.Core.Path.{◌≡◌, sym, ◌∙◌, ap, subst}
use mathlib.Core.List.{List, ◌++◌}
use native.Mathlib.Omega.{arith}
use native.Mathlib.Nat.{mul-le-mul_right, le_trans}
use native.Mathlib.Decide.{dec_le}
use Rattle.system.specs.declared.RunState.{RunState}
use Rattle.system.specs.declared.RunState.TheVariants.{Offline, Runnable, Running, Blocked}
use Rattle.system.specs.declared.System.{System}
use Rattle.system.specs.Records.{flight, in_flight}
use Rattle.system.specs.Reads.{vcpu_at, state_at}
use Rattle.system.specs.Slots.{Present}
use Rattle.system.specs.States.{schedulable}
use Rattle.policy.specs.Accounts.{weight_of}
use Rattle.policy.specs.Standing.{weight_at, service_at}
use Rattle.host.specs.declared.Host.{Host}
use Rattle.calls.specs.declared.Call.{Call}
use Rattle.host.specs.Step.{Sliced}
use Rattle.demand3.specs.ServiceMachine.{service_machine}
use Rattle.demand3.specs.Book.{Book, Shape, blank_book}
use Rattle.demand3.specs.Agreement.{PresentIn, InStep}
use Rattle.demand3.specs.Lists.{AllTyped, PoolList, latest, book_service}
use Rattle.demand3.specs.Fresh.{Fresh, first_host, host_at, book_at}
use Rattle.demand3.specs.InPool.{InPool}
use Rattle.demand3.proofs.Holders.{shaped-present}
use Rattle.demand3.proofs.BookReads.{service-says}
use Rattle.demand3.proofs.ExactRanking.{raw_service, service-raw}
use Rattle.demand3.proofs.Lag.{Lag, raw-waiting}
use Rattle.demand3.proofs.LagMoves.{plain_level}
use Rattle.demand3.proofs.Pool.{Pooling}
use Rattle.demand3.proofs.PoolLists.{Even, At, list_along, bounded_at, even-at}
use Rattle.demand3.proofs.EveryCall.{after_kept}
use Rattle.demand3.proofs.ServiceMachine.{service_lawful}
use Rattle.demand3.proofs.FreshHost.{fresh_kept, fresh_prepared}
use Rattle.demand3.proofs.AsSet.{weights-at, slice_at}

module _ {k : Shape} {b : Book} {s : System} (T : InStep k b s) where
  exists : {i : ℕ} → PresentIn k i → Present s i
  exists e = shaped-present T.shaped T.sound e

  -- the book's service is the system's
  service-same : (r i : ℕ) → Present s i → book_service b r i ≡ raw_service s r i
  service-same r i h = service-says b s r i (T.lines.says i h)

-- where no offset is set and run times are words, the service that ranks is the book's, which nothing holds
pub point-service : {k : Shape} {b : Book} {h : Host} (r : ℕ) → InStep k b h.system → Even h → r < 2 ^ 64
    → (i : ℕ) → PresentIn k i → service_at h.system h.scheduler r i ≡ book_service b r i
point-service r K E l i x = service-raw (plain_level E.plain E.words l) i ∙ sym (service-same K r i (exists K x))

-- a reading before the clock only lowers who runs
earlier : {w : ℕ → ℕ} {lim : ℕ} {s : System} {t : ℕ} (r : ℕ) → r ≤ t → Lag w lim s t → (i j : ℕ) → Present s i
    → Present s j → schedulable (state_at s i) ≡ true → state_at s j ≡ Runnable
    → raw_service s r i * w j ≤ raw_service s r j * w i + lim * w j
unfolding in_flight
earlier {w} {lim} {s} {t} r l L i j hi hj h e =
    rw (raw-waiting s r j e ∙ sym (raw-waiting s t j e)) (le_trans (mul-le-mul_right (w j) (lower (vcpu_at s i).state)) (L.lag i j hi hj h e))
  where
    lower : (st : RunState)
        → (vcpu_at s i).runtime + flight (vcpu_at s i) r st ≤ (vcpu_at s i).runtime + flight (vcpu_at s i) t st
    lower Offline = omega arith
    lower Runnable = omega arith
    lower (Running p) = omega arith
    lower Blocked = omega arith

pub point-lag : {k : Shape} {b : Book} {h : Host} {g t : ℕ} (r : ℕ) → InStep k b h.system → Sliced h
    → Pooling g t h.system h.scheduler → r ≤ t + g → (i j : ℕ)
    → PresentIn k i → PresentIn k j → schedulable (b i).state ≡ true → (b j).state ≡ Runnable
    → let w = weight_at h.scheduler in book_service b r i * w j ≤ book_service b r j * w i + (h.scheduler.quantum + g - 1) * w j
point-lag {b = b} {h = h} {g = g} {t = t} r K q P up i j x y e f =
    let hi = exists K x in
    let hj = exists K y in
    let L = K.lines in
    let pi = sym (ap schedulable (L.says i hi).state) ∙ e in
    let wj = sym (L.says j hj).state ∙ f in
    rw (service-same K r i hi, service-same K r j hj) (go hi hj pi wj (dec_le t r))
  where
    go : Present h.system i → Present h.system j → schedulable (state_at h.system i) ≡ true
        → state_at h.system j ≡ Runnable → Dec (t ≤ r)
        → raw_service h.system r i * weight_at h.scheduler j ≤ raw_service h.system r j * weight_at h.scheduler i + (h.scheduler.quantum + g - 1) * weight_at h.scheduler j
    go hi hj pi wj (yes l) = (P.bounded q r l up).lag i j hi hj pi wj
    go hi hj pi wj (no n) = earlier r (omega arith) (P.bounded q t (omega arith) (omega arith)) i j hi hj pi wj

-- ---- a fresh host

pub is_in_pool : (f : Fresh) (cs before rest : List Call) → cs ≡ before ++ rest → AllTyped cs → (g : ℕ)
    → PoolList service_machine g (first_host f) cs → InPool f before g
is_in_pool f cs before rest x typed g l =
    record {
      lag = λ s t r y z i j a c n m.
          subst
          (λ (w : ℕ → ℕ). book_service b r i * w j ≤ book_service b r j * w i + (f.slice + g - 1) * w j)
          (λ o a. weights-at f before (a / 8) (a % 8) o)
          (subst
          (λ (o : ℕ). book_service b r i * weight j ≤ book_service b r j * weight i + (o + g - 1) * weight j)
          (slice_at f before)
          (point-lag r here (omega (arith, slice_at f before)) (bounded_at t pooled y) z i j a c n m));
      offsets = (even-at pooled).plain.offsets;
      services = λ r. point-service r here (even-at pooled);
    }
  where
    h : Host
    h = host_at f before

    b : Book
    b = book_at f before

    weight : ℕ → ℕ
    weight i = weight_of h.scheduler (i / 8) (i % 8)

    here : InStep f.shape b h.system
    here = (after_kept service_lawful before (first_host f) (blank_book f.shape) (fresh_kept f)).in_step

    pooled : At g h (latest before)
    pooled =
        list_along before rest (subst (PoolList service_machine g (first_host f)) x l) (subst AllTyped x typed) (fresh_kept f)
        (fresh_prepared f)
