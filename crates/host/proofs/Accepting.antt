-- A change refuses for the state exactly where the request does not accept it. Assumes nothing.
use Rattle.std.specs.Prelude.{Result, Ok, Err}
use Prim.Native.Nat.{ℕ}
use mathlib.Core.Bool.{Bool, true, false, cond, not, ◌&&◌}
use mathlib.Core.Path.{◌≡◌, refl}
use lib.Dec.{eqb, ltb}
use Rattle.masks.specs.Masks.{permits, full_mask, clipped}
use Rattle.system.specs.declared.RunState.{RunState}
use Rattle.system.specs.declared.RunState.TheVariants.{Offline, Runnable, Running, Blocked}
use Rattle.system.specs.declared.VirtualCpu.{VirtualCpu}
use Rattle.system.specs.declared.Answer.{Answer}
use Rattle.system.specs.declared.Answer.TheVariants.{NotAffine, FoundOffline, FoundRunnable}
use Rattle.system.specs.Answers.{told}
use Rattle.system.specs.Records.{with_mask}
use Rattle.calls.specs.declared.Request.{Request}
use Rattle.changes.specs.declared.Change.{Change}
use Rattle.changes.specs.declared.Change.TheVariants.{Write, Enter}
use Rattle.changes.specs.Records.{dispatched}
use Rattle.changes.specs.Changes.{found_in, admitted, ran, preempted, blocked, woken, masked, offlined, changed}
use Rattle.host.specs.FoundStates.{accepts}

-- none of the four numbers
abbrev pub ordinary : ℕ → Bool
ordinary n = ltb n (told FoundOffline) && not (eqb n (told FoundRunnable))

-- no refusal for the state
abbrev pub Ordinary : Result Change Answer → Type 0
Ordinary (Ok c) = Unit {0}
Ordinary (Err a) = ordinary (told a) ≡ true

-- what a request comes to in a state, by whether it accepts that state
pub data View (accepted : Bool) (st : RunState) : Result Change Answer → Type 0 where
  refuses : accepted ≡ false → View accepted st (Err (found_in st))
  takes : {c : Result Change Answer} → accepted ≡ true → Ordinary c → View accepted st c

-- or for the mask
affine : {st : RunState} (b : Bool) (c : Change) → View true st (cond b (Ok c) (Err NotAffine))
affine true c = takes {c = Ok c} refl tt
affine false c = takes {c = Err NotAffine} refl refl

-- on a host of n pCPUs
module _ (v : VirtualCpu) (n : ℕ) where
  -- what a request does in a state
  abbrev changed_in : Request → RunState → Result Change Answer
  changed_in Request.Admit st = admitted v st
  changed_in (Request.Run p now) st = ran v p now st
  changed_in (Request.Preempt now) st = preempted v now st
  changed_in (Request.Block now) st = blocked v now st
  changed_in Request.Wake st = woken v st
  changed_in (Request.SetAffinity m) st = masked v (clipped m n) st
  changed_in (Request.Offline now) st = offlined v (full_mask n) now st

  view : (q : Request) (st : RunState) → View (accepts q st) st (changed_in q st)
  view Request.Admit Offline = takes refl tt
  view Request.Admit Runnable = refuses refl
  view Request.Admit (Running p) = refuses refl
  view Request.Admit Blocked = refuses refl
  view (Request.Run p now) Offline = refuses refl
  view (Request.Run p now) Runnable = affine (permits v.affinity p) (Enter (dispatched v p now) p)
  view (Request.Run p now) (Running q) = refuses refl
  view (Request.Run p now) Blocked = refuses refl
  view (Request.Preempt now) Offline = refuses refl
  view (Request.Preempt now) Runnable = refuses refl
  view (Request.Preempt now) (Running p) = takes refl tt
  view (Request.Preempt now) Blocked = refuses refl
  view (Request.Block now) Offline = refuses refl
  view (Request.Block now) Runnable = takes refl tt
  view (Request.Block now) (Running p) = takes refl tt
  view (Request.Block now) Blocked = refuses refl
  view Request.Wake Offline = refuses refl
  view Request.Wake Runnable = refuses refl
  view Request.Wake (Running p) = refuses refl
  view Request.Wake Blocked = takes refl tt
  view (Request.SetAffinity m) Offline = takes refl tt
  view (Request.SetAffinity m) Runnable = takes refl tt
  view (Request.SetAffinity m) (Running p) = affine (permits (clipped m n) p) (Write (with_mask v (clipped m n)))
  view (Request.SetAffinity m) Blocked = takes refl tt
  view (Request.Offline now) Offline = refuses refl
  view (Request.Offline now) Runnable = takes refl tt
  view (Request.Offline now) (Running p) = takes refl tt
  view (Request.Offline now) Blocked = takes refl tt

  pub changed-view : (q : Request) → View (accepts q v.state) v.state (changed q n v)
  changed-view Request.Admit = view Request.Admit v.state
  changed-view (Request.Run p now) = view (Request.Run p now) v.state
  changed-view (Request.Preempt now) = view (Request.Preempt now) v.state
  changed-view (Request.Block now) = view (Request.Block now) v.state
  changed-view Request.Wake = view Request.Wake v.state
  changed-view (Request.SetAffinity m) = view (Request.SetAffinity m) v.state
  changed-view (Request.Offline now) = view (Request.Offline now) v.state
