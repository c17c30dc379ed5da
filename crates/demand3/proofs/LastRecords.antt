-- What a request makes of the pCPU that a record was last on: kept, but for a dispatch and for one that goes Offline.
-- Assumes nothing.
use Rattle.std.specs.Prelude.{Result, Ok, Err}
use Prim.Native.Nat.{ℕ}
use mathlib.Core.Bool.{Bool, true, false, cond}
use mathlib.Core.Path.{◌≡◌, refl, sym, ◌∙◌, ap}
use Rattle.masks.specs.Masks.{permits, full_mask, clipped}
use Rattle.system.specs.declared.RunState.{RunState}
use Rattle.system.specs.declared.RunState.TheVariants.{Offline, Runnable, Running, Blocked}
use Rattle.system.specs.declared.VirtualCpu.{VirtualCpu}
use Rattle.system.specs.declared.Answer.{Answer}
use Rattle.system.specs.declared.Answer.TheVariants.{NotAffine}
use Rattle.system.specs.Records.{no_pcpu, with_mask}
use Rattle.calls.specs.declared.Request.{Request}
use Rattle.changes.specs.declared.Change.{Change}
use Rattle.changes.specs.declared.Change.TheVariants.{Write, Enter, Leave}
use Rattle.changes.specs.Records.{dispatched, left}
use Rattle.changes.specs.Changes.{admitted, ran, preempted, blocked, woken, masked, offlined, changed}
use Rattle.sched.proofs.Laws.{off_nr}
use Rattle.demand3.specs.LastPcpu.{unless_offline}

-- what the state of a record says of it
pub record Right (v : VirtualCpu) : Type 0 where
  pub running : (p : ℕ) → v.state ≡ Running p → v.last ≡ p
  pub offline : v.state ≡ Offline → v.last ≡ no_pcpu

pub right-offline : {v : VirtualCpu} → Right v → unless_offline v.state v.last ≡ v.last
right-offline {v} y = go v.state y.offline
  where
    go : (st : RunState) → (st ≡ Offline → v.last ≡ no_pcpu) → unless_offline st v.last ≡ v.last
    go Offline f = sym (f refl)
    go Runnable f = refl
    go (Running p) f = refl
    go Blocked f = refl

-- ---- records made anew

-- w was made of v with what v kept, or goes Offline
abbrev pub KeepsLast : VirtualCpu → VirtualCpu → Type 0
KeepsLast v w = w.last ≡ unless_offline w.state v.last

pub kept-right : {v w : VirtualCpu} → KeepsLast v w → ((p : ℕ) → w.state ≡ Running p → v.state ≡ Running p)
    → Right v → Right w
kept-right {v} {w} k was y =
    record { running = λ p e. with-state e ∙ y.running p (was p e); offline = λ e. with-state e }
  where
    with-state : {st : RunState} → w.state ≡ st → w.last ≡ unless_offline st v.last
    with-state e = k ∙ ap (λ (st : RunState). unless_offline st v.last) e

pub on-right : {w : VirtualCpu} {p : ℕ} → w.last ≡ p → w.state ≡ Running p → Right w
on-right {w} {p} l on =
    record { running = λ q e. let f : p ≡ q = cc in l ∙ f; offline = λ e. absurd (off_nr p (sym e ∙ on)) }

-- ---- each request

-- of a change of v
abbrev pub LastIn : VirtualCpu → Result Change Answer → Type 0
LastIn v (Err a) = Unit {0}
LastIn v (Ok (Write w)) = KeepsLast v w
LastIn v (Ok (Enter w p)) = w.last ≡ p
LastIn v (Ok (Leave w p)) = KeepsLast v w

module _ (v : VirtualCpu) where
  admitted-last : (st : RunState) → LastIn v (admitted v st)
  admitted-last Offline = refl
  admitted-last Runnable = tt
  admitted-last (Running p) = tt
  admitted-last Blocked = tt

  ran-last : (p now : ℕ) (st : RunState) → LastIn v (ran v p now st)
  unfolding dispatched
  ran-last p now Offline = tt
  ran-last p now Runnable = go (permits v.affinity p)
    where
      go : (t : Bool) → LastIn v (cond t (Ok (Enter (dispatched v p now) p)) (Err NotAffine))
      go true = refl
      go false = tt
  ran-last p now (Running q) = tt
  ran-last p now Blocked = tt

  preempted-last : (now : ℕ) (st : RunState) → LastIn v (preempted v now st)
  unfolding left
  preempted-last now Offline = tt
  preempted-last now Runnable = tt
  preempted-last now (Running p) = refl
  preempted-last now Blocked = tt

  blocked-last : (now : ℕ) (st : RunState) → LastIn v (blocked v now st)
  unfolding left
  blocked-last now Offline = tt
  blocked-last now Runnable = refl
  blocked-last now (Running p) = refl
  blocked-last now Blocked = tt

  woken-last : (st : RunState) → LastIn v (woken v st)
  woken-last Offline = tt
  woken-last Runnable = tt
  woken-last (Running p) = tt
  woken-last Blocked = refl

  offlined-last : (full now : ℕ) (st : RunState) → LastIn v (offlined v full now st)
  unfolding left
  offlined-last full now Offline = tt
  offlined-last full now Runnable = refl
  offlined-last full now (Running p) = refl
  offlined-last full now Blocked = refl

  -- a new mask leaves the state, and what it says
  masked-last : Right v → (m : ℕ) (st : RunState) → LastIn v (masked v m st)
  masked-last y m Offline = sym (right-offline y)
  masked-last y m Runnable = sym (right-offline y)
  masked-last y m (Running p) = go (permits m p)
    where
      go : (t : Bool) → LastIn v (cond t (Ok (Write (with_mask v m))) (Err NotAffine))
      go true = sym (right-offline y)
      go false = tt
  masked-last y m Blocked = sym (right-offline y)

  pub changed-last : Right v → (q : Request) (n : ℕ) → LastIn v (changed q n v)
  changed-last y Request.Admit n = admitted-last v.state
  changed-last y (Request.Run p now) n = ran-last p now v.state
  changed-last y (Request.Preempt now) n = preempted-last now v.state
  changed-last y (Request.Block now) n = blocked-last now v.state
  changed-last y Request.Wake n = woken-last v.state
  changed-last y (Request.SetAffinity m) n = masked-last y (clipped m n) v.state
  changed-last y (Request.Offline now) n = offlined-last (full_mask n) now v.state
