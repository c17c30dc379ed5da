-- Which pCPU a change is about: the one that a run asks for, else the one that the vCPU is on. Assumes nothing.
use Prim.Native.Nat.{ℕ, ◌%◌}
use mathlib.Core.Bool.{Bool, true, false, cond}
use mathlib.Core.Path.{◌≡◌, refl, ◌∙◌, ap}
use native.Mathlib.Omega.{arith}
use borrow.Author.Tests.{ltb-true}
use Rattle.std.specs.Prelude.{Result, Ok, Err}
use Rattle.masks.specs.Masks.{permits, clipped}
use Rattle.system.specs.declared.RunState.{RunState}
use Rattle.system.specs.declared.RunState.TheVariants.{Offline, Runnable, Running, Blocked}
use Rattle.system.specs.declared.VirtualCpu.{VirtualCpu}
use Rattle.system.specs.declared.System.{System}
use Rattle.system.specs.declared.Answer.{Answer}
use Rattle.system.specs.Reads.{vcpu_at}
use Rattle.system.specs.Slots.{pcpus, Present}
use Rattle.verdict.specs.Sound.{Sound}
use Rattle.verdict.specs.OneViolation.{pcpu_index}
use Rattle.calls.specs.declared.Request.{Request}
use Rattle.changes.specs.declared.Change.{Change}
use Rattle.changes.specs.declared.Change.TheVariants.{Write, Enter, Leave}
use Rattle.changes.specs.Changes.{admitted, ran, preempted, blocked, woken, masked, offlined, reaches}
use Rattle.sched.specs.Steps.{change_of}
use Rattle.sched.specs.RequestInPlace.{pcpu_read}

-- p is the pCPU of a change that has one
abbrev pub About : Result Change Answer → ℕ → Type 0
About (Err a) p = Unit {0}
About (Ok (Write v)) p = Unit {0}
About (Ok (Enter v q)) p = p ≡ q
About (Ok (Leave v q)) p = p ≡ q

about_if : (b : Bool) (c : Result Change Answer) (a : Answer) (p : ℕ) → About c p → About (cond b c (Err a)) p
about_if true c a p h = h
about_if false c a p h = tt

ran_about : (x : VirtualCpu) (p r now : ℕ) → p ≡ r → (st : RunState) → About (ran x r now st) p
ran_about x p r now e Offline = tt
ran_about x p r now e Runnable = about_if (permits x.affinity r) _ _ p e
ran_about x p r now e (Running q) = tt
ran_about x p r now e Blocked = tt

-- the other requests
module _ (x : VirtualCpu) (p : ℕ) (on : (r : ℕ) → x.state ≡ Running r → p ≡ r) where
  admitted_about : (st : RunState) → About (admitted x st) p
  admitted_about Offline = tt
  admitted_about Runnable = tt
  admitted_about (Running r) = tt
  admitted_about Blocked = tt

  preempted_about : (now : ℕ) (st : RunState) → x.state ≡ st → About (preempted x now st) p
  preempted_about now Offline e = tt
  preempted_about now Runnable e = tt
  preempted_about now (Running r) e = on r e
  preempted_about now Blocked e = tt

  blocked_about : (now : ℕ) (st : RunState) → x.state ≡ st → About (blocked x now st) p
  blocked_about now Offline e = tt
  blocked_about now Runnable e = tt
  blocked_about now (Running r) e = on r e
  blocked_about now Blocked e = tt

  woken_about : (st : RunState) → About (woken x st) p
  woken_about Offline = tt
  woken_about Runnable = tt
  woken_about (Running r) = tt
  woken_about Blocked = tt

  masked_about : (m : ℕ) (st : RunState) → About (masked x m st) p
  masked_about m Offline = tt
  masked_about m Runnable = tt
  masked_about m (Running r) = about_if (permits m r) (Ok (Write _)) _ p tt
  masked_about m Blocked = tt

  offlined_about : (full now : ℕ) (st : RunState) → x.state ≡ st → About (offlined x full now st) p
  offlined_about full now Offline e = tt
  offlined_about full now Runnable e = tt
  offlined_about full now (Running r) e = on r e
  offlined_about full now Blocked e = tt

-- on a sound system both are below 64, so that they are read as they are
module _ {s : System} {i : ℕ} (S : Sound s) (h : Present s i) where
  abbrev x : VirtualCpu
  x = vcpu_at s i

  on : (r : ℕ) → x.state ≡ Running r → pcpu_index x.state ≡ r
  on r e = let o = S.runs i r h e in ap pcpu_index e ∙ omega (arith, o.exists)

  pub read_about : (q : Request) → reaches q (pcpus s) ≡ true → About (change_of s i q) (pcpu_read q x)
  read_about Request.Admit r = admitted_about x _ on x.state
  read_about (Request.Run p now) r = let l = ltb-true p (pcpus s) r in ran_about x (p % 64) p now (omega arith) x.state
  read_about (Request.Preempt now) r = preempted_about x _ on now x.state refl
  read_about (Request.Block now) r = blocked_about x _ on now x.state refl
  read_about Request.Wake r = woken_about x _ on x.state
  read_about (Request.SetAffinity m) r = masked_about x _ on (clipped m s.pcpu_count) x.state
  read_about (Request.Offline now) r = offlined_about x _ on _ now x.state refl
