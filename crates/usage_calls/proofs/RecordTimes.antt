-- What a request at clock c does to its vCPU's record leaves how long the vCPU has run up to c as it was. Assumes nothing.
use Rattle.std.specs.Prelude.{Result, Ok, Err}
use Prim.Native.Nat.{ℕ, ◌+◌, ◌-◌, ◌^◌, ◌≤◌, ◌<◌, min}
use mathlib.Core.Bool.{Bool, true, false, cond}
use mathlib.Core.Path.{◌≡◌, refl, sym, ap, subst}
use native.Mathlib.Omega.{arith}
use Rattle.masks.specs.Masks.{permits, full_mask, clipped}
use Rattle.system.specs.declared.RunState.{RunState}
use Rattle.system.specs.declared.RunState.TheVariants.{Offline, Runnable, Running, Blocked}
use Rattle.system.specs.declared.VirtualCpu.{VirtualCpu}
use Rattle.system.specs.declared.Answer.{Answer}
use Rattle.system.specs.declared.Answer.TheVariants.{NotAffine}
use Rattle.system.specs.Records.{with_mask, elapsed, flight, in_flight, runtime_until}
use Rattle.calls.specs.declared.Request.{Request}
use Rattle.changes.specs.declared.Change.{Change}
use Rattle.changes.specs.declared.Change.TheVariants.{Write, Enter, Leave}
use Rattle.changes.specs.Changes.{admitted, ran, preempted, blocked, woken, masked, offlined, changed}
use Rattle.changes.specs.Records.{dispatched, left}
use Rattle.usage_calls.specs.AtItsClock.{AtRequest}

-- w has run for as long as v up to c, unless that is held
abbrev pub KeepsTime : ℕ → VirtualCpu → VirtualCpu → Type 0
KeepsTime c v w = (runtime_until w c ≤ runtime_until v c) × (runtime_until v c < 2 ^ 64 → runtime_until w c ≡ runtime_until v c)

-- and so has the record that a change leaves
abbrev pub Timed : ℕ → VirtualCpu → Result Change Answer → Type 0
Timed c v (Err a) = Unit {0}
Timed c v (Ok (Write w)) = KeepsTime c v w
Timed c v (Ok (Enter w p)) = KeepsTime c v w
Timed c v (Ok (Leave w p)) = KeepsTime c v w

alike : {m n : ℕ} → m ≡ n → (m ≤ n) × (n < 2 ^ 64 → m ≡ n)
alike e = (omega (arith, e), λ h. e)

module _ (c : ℕ) (v : VirtualCpu) where
  -- what it has run for, found in state st
  found : {st : RunState} → v.state ≡ st → runtime_until v c ≡ v.runtime + flight v c st
  unfolding in_flight
  found e = ap (λ (st : RunState). v.runtime + flight v c st) e

  -- an interval that is closed at c is added to the run time, where it is held at 2^64 − 1
  closes : {p : ℕ} → v.state ≡ Running p
      → let n = min (v.runtime + elapsed v c) (2 ^ 64 - 1) + 0 in (n ≤ runtime_until v c) × (runtime_until v c < 2 ^ 64 → n ≡ runtime_until v c)
  closes e = (omega (arith, found e), λ h. omega (arith, found e, h))

  admitted-timed : (st : RunState) → v.state ≡ st → Timed c v (admitted v st)
  unfolding in_flight
  admitted-timed Offline e = alike (sym (found e))
  admitted-timed Runnable e = tt
  admitted-timed (Running p) e = tt
  admitted-timed Blocked e = tt

  -- an interval that opens at c has no part in flight there
  ran-timed : (p : ℕ) (st : RunState) → v.state ≡ st → Timed c v (ran v p c st)
  unfolding dispatched in_flight
  ran-timed p Offline e = tt
  ran-timed p Runnable e = go (permits v.affinity p)
    where
      go : (b : Bool) → Timed c v (cond b (Ok (Enter (dispatched v p c) p)) (Err NotAffine))
      go true = alike (omega (arith, found e))
      go false = tt
  ran-timed p (Running q) e = tt
  ran-timed p Blocked e = tt

  preempted-timed : (st : RunState) → v.state ≡ st → Timed c v (preempted v c st)
  unfolding left in_flight
  preempted-timed Offline e = tt
  preempted-timed Runnable e = tt
  preempted-timed (Running p) e = closes e
  preempted-timed Blocked e = tt

  blocked-timed : (st : RunState) → v.state ≡ st → Timed c v (blocked v c st)
  unfolding left in_flight
  blocked-timed Offline e = tt
  blocked-timed Runnable e = alike (sym (found e))
  blocked-timed (Running p) e = closes e
  blocked-timed Blocked e = tt

  woken-timed : (st : RunState) → v.state ≡ st → Timed c v (woken v st)
  unfolding in_flight
  woken-timed Offline e = tt
  woken-timed Runnable e = tt
  woken-timed (Running p) e = tt
  woken-timed Blocked e = alike (sym (found e))

  remasked : (m : ℕ) → KeepsTime c v (with_mask v m)
  unfolding in_flight
  remasked m = alike refl

  masked-timed : (m : ℕ) (st : RunState) → Timed c v (masked v m st)
  masked-timed m Offline = remasked m
  masked-timed m Runnable = remasked m
  masked-timed m (Running p) = go (permits m p)
    where
      go : (b : Bool) → Timed c v (cond b (Ok (Write (with_mask v m))) (Err NotAffine))
      go true = remasked m
      go false = tt
  masked-timed m Blocked = remasked m

  offlined-timed : (full : ℕ) (st : RunState) → v.state ≡ st → Timed c v (offlined v full c st)
  unfolding left in_flight
  offlined-timed full Offline e = tt
  offlined-timed full Runnable e = alike (sym (found e))
  offlined-timed full (Running p) e = closes e
  offlined-timed full Blocked e = alike (sym (found e))

  -- on a host of n pCPUs
  pub changed-timed : (q : Request) (n : ℕ) → AtRequest q c → Timed c v (changed q n v)
  changed-timed Request.Admit n a = admitted-timed v.state refl
  changed-timed (Request.Run p now) n a = subst (λ (t : ℕ). Timed c v (ran v p t v.state)) (sym a) (ran-timed p v.state refl)
  changed-timed (Request.Preempt now) n a = subst (λ (t : ℕ). Timed c v (preempted v t v.state)) (sym a) (preempted-timed v.state refl)
  changed-timed (Request.Block now) n a = subst (λ (t : ℕ). Timed c v (blocked v t v.state)) (sym a) (blocked-timed v.state refl)
  changed-timed Request.Wake n a = woken-timed v.state refl
  changed-timed (Request.SetAffinity m) n a = masked-timed (clipped m n) v.state
  changed-timed (Request.Offline now) n a =
      subst (λ (t : ℕ). Timed c v (offlined v (full_mask n) t v.state)) (sym a) (offlined-timed (full_mask n) v.state refl)
