-- How far one vCPU of the pool can be ahead of one that waits, and what keeps it so. Assumes nothing.
use Prim.Native.Nat.{ℕ, ◌+◌, ◌-◌, ◌*◌, ◌^◌, ◌≤◌, ◌<◌, min}
use mathlib.Core.Bool.{true}
use mathlib.Core.Path.{◌≡◌, refl, sym, ◌∙◌, ap, subst}
use mathlib.Core.Logic.{◌≢◌}
use native.Mathlib.Omega.{arith}
use native.Mathlib.Decide.{ℕ_discrete}
use Rattle.scans.specs.Booleans.{zero_one}
use Rattle.system.specs.declared.RunState.{RunState}
use Rattle.system.specs.declared.RunState.TheVariants.{Runnable, Running}
use Rattle.system.specs.declared.VirtualCpu.{VirtualCpu}
use Rattle.system.specs.declared.Occupant.{Occupant}
use Rattle.system.specs.declared.Occupant.TheVariants.{Idle}
use Rattle.system.specs.declared.System.{System}
use Rattle.system.specs.Records.{elapsed, flight, in_flight, runtime_until}
use Rattle.system.specs.Reads.{vcpu_at, state_at, admits}
use Rattle.system.specs.Writes.{Wrote, present-back, same-pcpus}
use Rattle.system.specs.Slots.{pcpus, Present}
use Rattle.system.specs.States.{schedulable}
use Rattle.changes.specs.Records.{dispatched, left}
use Rattle.sched.specs.CanRun.{CanRun}
use Rattle.demand3.proofs.ExactRanking.{raw_service}
use Rattle.service.specs.Fractions.{lag-trans, base-trans}

-- in the pool: waiting or running
abbrev pub Pool : RunState → Type 0
Pool st = schedulable st ≡ true

pub waits : Pool Runnable
waits = refl

pub runs : (p : ℕ) → Pool (Running p)
runs p = refl

-- Services are compared at the reading now. w: each slot's weight. lim: by how much one may be ahead.
pub record Lag (w : ℕ → ℕ) (lim : ℕ) (s : System) (now : ℕ) : Type 0 where
  -- whoever is in the pool is ahead of whoever waits by at most lim
  pub lag : (i j : ℕ) → Present s i → Present s j → Pool (state_at s i) → state_at s j ≡ Runnable
      → raw_service s now i * w j ≤ raw_service s now j * w i + lim * w j
  -- a runner was not ahead of whoever waits when it was dispatched
  pub base : (i j p : ℕ) → Present s i → Present s j → state_at s i ≡ Running p → state_at s j ≡ Runnable
      → (vcpu_at s i).runtime * w j ≤ raw_service s now j * w i
  -- masks are full
  pub full : (i p : ℕ) → Present s i → p < pcpus s → Pool (state_at s i) → admits s i p ≡ true
  -- clocks have not run back, so no run time reaches its ceiling before the clock does
  pub past : (i p : ℕ) → Present s i → state_at s i ≡ Running p → (vcpu_at s i).dispatched_at ≤ now
  pub early : (i p : ℕ) → Present s i → state_at s i ≡ Running p
      → (vcpu_at s i).runtime ≤ (vcpu_at s i).dispatched_at
  pub spare : (i : ℕ) → Present s i → state_at s i ≡ Runnable → (vcpu_at s i).runtime ≤ now

-- ---- service while waiting and while running

pub raw-waiting : (s : System) (now i : ℕ) → state_at s i ≡ Runnable → raw_service s now i ≡ (vcpu_at s i).runtime
unfolding in_flight
raw-waiting s now i e = rw (ap (flight (vcpu_at s i) now) e) (omega arith)

pub raw-running : (s : System) (now i p : ℕ) → state_at s i ≡ Running p
    → raw_service s now i ≡ (vcpu_at s i).runtime + elapsed (vcpu_at s i) now
unfolding in_flight
raw-running s now i p e = rw (ap (flight (vcpu_at s i) now) e)

state-here : {s s' : System} {i p : ℕ} {v : VirtualCpu} {o : Occupant} → Wrote s s' i v p o → state_at s' i ≡ v.state
state-here k = ap (λ (x : VirtualCpu). x.state) k.here

state-there : {s s' : System} {i p : ℕ} {v : VirtualCpu} {o : Occupant} → Wrote s s' i v p o → (a : ℕ) → a ≢ i
    → state_at s' a ≡ state_at s a
state-there k a n = ap (λ (x : VirtualCpu). x.state) (k.there a n)

raw-there : {s s' : System} {i p : ℕ} {v : VirtualCpu} {o : Occupant} (now : ℕ) → Wrote s s' i v p o → (a : ℕ) → a ≢ i
    → raw_service s' now a ≡ raw_service s now a
raw-there now k a n = ap (λ (x : VirtualCpu). runtime_until x now) (k.there a n)

module _ (w : ℕ → ℕ) (pos : (i : ℕ) → 0 < w i) (lim : ℕ) where
  -- a preemption, in favour of k, who waits and is before i
  pub off-lag : {s s' : System} {i p : ℕ} (now k : ℕ) → now < 2 ^ 64 → Lag w lim s now → Present s i
      → state_at s i ≡ Running p
      → Wrote s s' i (left (vcpu_at s i) Runnable now) p Idle → Present s k → state_at s k ≡ Runnable
      → raw_service s now k * w i < raw_service s now i * w k → Lag w lim s' now
  unfolding left
  off-lag {s} {s'} {i} {p} now k fit L hi on q hk kw wins =
      record {
        lag = λ a j ha hj h e. rw (same a, same j) (lag' a j (back ha) (back hj) (pool a (ℕ_discrete a i) h) e (ℕ_discrete j i));
        base = base';
        full = λ a x ha hx h. full' a x (back ha) (omega (arith, same-pcpus q.shape)) (pool a (ℕ_discrete a i) h) (ℕ_discrete a i);
        past = λ a x ha h. let f = q.there a (not-i a x h) in rw f (L.past a x (back ha) (sym (state-there q a (not-i a x h)) ∙ h));
        early = λ a x ha h. let f = q.there a (not-i a x h) in rw f (L.early a x (back ha) (sym (state-there q a (not-i a x h)) ∙ h));
        spare = λ a ha h. spare' a (back ha) h (ℕ_discrete a i);
      }
    where
      back : {a : ℕ} → Present s' a → Present s a
      back h = present-back q.shape h

      room : (vcpu_at s i).runtime + elapsed (vcpu_at s i) now ≤ now
      room = omega (arith, L.early i p hi on, L.past i p hi on)

      held : min ((vcpu_at s i).runtime + elapsed (vcpu_at s i) now) (2 ^ 64 - 1) ≡ (vcpu_at s i).runtime + elapsed (vcpu_at s i) now
      held = omega (arith, room)

      closed : (vcpu_at s' i).runtime ≡ raw_service s now i
      closed = ap (λ (x : VirtualCpu). x.runtime) q.here ∙ (held ∙ sym (raw-running s now i p on))

      same : (a : ℕ) → raw_service s' now a ≡ raw_service s now a
      same a = go (ℕ_discrete a i)
        where
          go : Dec (a ≡ i) → raw_service s' now a ≡ raw_service s now a
          go (yes e) = rw e (raw-waiting s' now i (state-here q) ∙ closed)
          go (no n) = raw-there now q a n

      pool : (a : ℕ) → Dec (a ≡ i) → Pool (state_at s' a) → Pool (state_at s a)
      pool a (yes e) h = rw (e, on) (runs p)
      pool a (no n) h = subst Pool (state-there q a n) h

      not-i : (a x : ℕ) → state_at s' a ≡ Running x → a ≢ i
      not-i a x h e = let g = state-here q in zero_one cc

      lag' : (a j : ℕ) → Present s a → Present s j → Pool (state_at s a) → state_at s' j ≡ Runnable → Dec (j ≡ i)
          → raw_service s now a * w j ≤ raw_service s now j * w a + lim * w j
      lag' a j ha hj h e (yes x) =
          rw x (lag-trans (raw_service s now a) (w a) (raw_service s now k) (w k) (raw_service s now i) (w i) lim (pos k) (L.lag a k ha hk h kw) wins)
      lag' a j ha hj h e (no n) = L.lag a j ha hj h (sym (state-there q j n) ∙ e)

      base'' : (a j x : ℕ) → Present s a → Present s j → state_at s a ≡ Running x → state_at s' j ≡ Runnable
          → Dec (j ≡ i) → (vcpu_at s a).runtime * w j ≤ raw_service s now j * w a
      base'' a j x ha hj h e (yes y) =
          rw y (base-trans (vcpu_at s a).runtime (w a) (raw_service s now k) (w k) (raw_service s now i) (w i) (pos k) (L.base a k x ha hk h kw) wins)
      base'' a j x ha hj h e (no n) = L.base a j x ha hj h (sym (state-there q j n) ∙ e)

      base' : (a j x : ℕ) → Present s' a → Present s' j → state_at s' a ≡ Running x → state_at s' j ≡ Runnable
          → (vcpu_at s' a).runtime * w j ≤ raw_service s' now j * w a
      base' a j x ha hj h e =
          let n = not-i a x h in
          let f = q.there a n in
          rw (f, same j) (base'' a j x (back ha) (back hj) (sym (state-there q a n) ∙ h) e (ℕ_discrete j i))

      full' : (a x : ℕ) → Present s a → x < pcpus s → Pool (state_at s a) → Dec (a ≡ i) → admits s' a x ≡ true
      full' a x ha hx h (yes e) =
          let f = L.full a x ha hx h in
          let g : (vcpu_at s' i).affinity ≡ (vcpu_at s i).affinity = ap (λ (v : VirtualCpu). v.affinity) q.here in
          cc
      full' a x ha hx h (no n) = let f = L.full a x ha hx h in let g = q.there a n in cc

      spare' : (a : ℕ) → Present s a → state_at s' a ≡ Runnable → Dec (a ≡ i) → (vcpu_at s' a).runtime ≤ now
      spare' a ha h (yes e) = rw e (omega (arith, closed, raw-running s now i p on, room))
      spare' a ha h (no n) = let f = q.there a n in rw f (L.spare a ha (sym (state-there q a n) ∙ h))

  -- a dispatch, of one that nobody who waits is before
  pub on-lag : {s s' : System} {i p : ℕ} {o : Occupant} (now : ℕ) → Lag w lim s now → CanRun s i p
      → Wrote s s' i (dispatched (vcpu_at s i) p now) p o
      → ((j : ℕ) → Present s j → state_at s j ≡ Runnable → raw_service s now i * w j ≤ raw_service s now j * w i)
      → Lag w lim s' now
  unfolding dispatched
  on-lag {s} {s'} {i} {p} now L c q least =
      record {
        lag = λ a j ha hj h e. rw (same a, same j) (L.lag a j (back ha) (back hj) (pool a (ℕ_discrete a i) h) (waited j e));
        base = λ a j x ha hj h e. base' a j x (back ha) (back hj) h e (ℕ_discrete a i);
        full = λ a x ha hx h. full' a x (back ha) (omega (arith, same-pcpus q.shape)) (pool a (ℕ_discrete a i) h) (ℕ_discrete a i);
        past = λ a x ha h. past' a x (back ha) h (ℕ_discrete a i);
        early = λ a x ha h. early' a x (back ha) h (ℕ_discrete a i);
        spare = λ a ha h. let f = q.there a (not-i a h) in rw f (L.spare a (back ha) (waited a h));
      }
    where
      back : {a : ℕ} → Present s' a → Present s a
      back h = present-back q.shape h

      time : (vcpu_at s' i).runtime ≡ (vcpu_at s i).runtime
      time = ap (λ (v : VirtualCpu). v.runtime) q.here

      clock : (vcpu_at s' i).dispatched_at ≡ now
      clock = ap (λ (v : VirtualCpu). v.dispatched_at) q.here

      same-i : raw_service s' now i ≡ raw_service s now i
      same-i = omega (arith, raw-running s' now i p (state-here q), raw-waiting s now i c.ready, time, clock)

      same : (a : ℕ) → raw_service s' now a ≡ raw_service s now a
      same a = go (ℕ_discrete a i)
        where
          go : Dec (a ≡ i) → raw_service s' now a ≡ raw_service s now a
          go (yes e) = rw e same-i
          go (no n) = raw-there now q a n

      pool : (a : ℕ) → Dec (a ≡ i) → Pool (state_at s' a) → Pool (state_at s a)
      pool a (yes e) h = rw (e, c.ready) waits
      pool a (no n) h = subst Pool (state-there q a n) h

      not-i : (a : ℕ) → state_at s' a ≡ Runnable → a ≢ i
      not-i a h x = let g = state-here q in zero_one cc

      waited : (a : ℕ) → state_at s' a ≡ Runnable → state_at s a ≡ Runnable
      waited a h = sym (state-there q a (not-i a h)) ∙ h

      base' : (a j x : ℕ) → Present s a → Present s j → state_at s' a ≡ Running x → state_at s' j ≡ Runnable
          → Dec (a ≡ i) → (vcpu_at s' a).runtime * w j ≤ raw_service s' now j * w a
      base' a j x ha hj h e (yes y) = rw (y, time, ← raw-waiting s now i c.ready, same j) (least j hj (waited j e))
      base' a j x ha hj h e (no n) = let f = q.there a n in rw (f, same j) (L.base a j x ha hj (sym (state-there q a n) ∙ h) (waited j e))

      full' : (a x : ℕ) → Present s a → x < pcpus s → Pool (state_at s a) → Dec (a ≡ i) → admits s' a x ≡ true
      full' a x ha hx h (yes e) =
          let f = L.full a x ha hx h in
          let g : (vcpu_at s' i).affinity ≡ (vcpu_at s i).affinity = ap (λ (v : VirtualCpu). v.affinity) q.here in
          cc
      full' a x ha hx h (no n) = let f = L.full a x ha hx h in let g = q.there a n in cc

      past' : (a x : ℕ) → Present s a → state_at s' a ≡ Running x → Dec (a ≡ i) → (vcpu_at s' a).dispatched_at ≤ now
      past' a x ha h (yes e) = rw e (omega (arith, clock))
      past' a x ha h (no n) = let f = q.there a n in rw f (L.past a x ha (sym (state-there q a n) ∙ h))

      early' : (a x : ℕ) → Present s a → state_at s' a ≡ Running x → Dec (a ≡ i)
          → (vcpu_at s' a).runtime ≤ (vcpu_at s' a).dispatched_at
      early' a x ha h (yes e) = rw e (omega (arith, clock, time, L.spare i c.present c.ready))
      early' a x ha h (no n) = let f = q.there a n in rw f (L.early a x ha (sym (state-there q a n) ∙ h))
