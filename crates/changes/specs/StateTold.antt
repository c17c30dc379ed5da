-- What is told of a vCPU found in a state that the call does not accept tells that state, of every request. Assumes nothing.
use Rattle.std.specs.Prelude.{ℕ, ◌<◌, Bool, true, false, cond, ◌≡◌, refl, ◌≢◌, Option, Some, Result, Ok, Err}
use Rattle.std.proofs.Common.{arith}
use Rattle.masks.specs.Masks.{permits}
use Rattle.system.specs.declared.RunState.{RunState}
use Rattle.system.specs.declared.RunState.TheVariants.{Offline, Runnable, Running, Blocked}
use Rattle.system.specs.declared.VirtualCpu.{VirtualCpu}
use Rattle.system.specs.declared.Answer.{Answer}
use Rattle.system.specs.declared.Answer.TheVariants.{Done, NotAffine, Unsound}
use Rattle.system.specs.declared.Answer.TheVariants.{FoundOffline, FoundRunnable, FoundRunning, FoundBlocked}
use Rattle.system.specs.Answers.{told}
use Rattle.system.specs.Records.{with_mask}
use Rattle.calls.specs.declared.Request.{Request}
use Rattle.changes.specs.declared.Change.{Change}
use Rattle.changes.specs.declared.Change.TheVariants.{Write, Enter, Leave}
use Rattle.changes.specs.Records.{dispatched}
use Rattle.changes.specs.Changes.{found_in, admitted, ran, preempted, blocked, woken, masked, offlined, changed}

-- each of the four numbers is told of a vCPU that is there, and of one state alone
pub record TellsState (found : Option RunState) (number : ℕ) : Type 0 where
  pub offline : number ≡ told FoundOffline → found ≡ Some Offline
  pub runnable : number ≡ told FoundRunnable → found ≡ Some Runnable
  pub running : number ≡ told FoundRunning → (p : ℕ) × (found ≡ Some (Running p))
  pub blocked : number ≡ told FoundBlocked → found ≡ Some Blocked

-- a number that is none of the four tells nothing
pub unfound : (m : Option RunState) (n : ℕ) → n ≢ told FoundRunnable → n < told FoundOffline → TellsState m n
unfound m n other l =
    record {
      offline = λ e. absurd (omega arith);
      runnable = λ e. absurd (other e);
      running = λ e. absurd (omega arith);
      blocked = λ e. absurd (omega arith);
    }

pub done-tells : (m : Option RunState) → TellsState m (told Done)
done-tells m = unfound m (told Done) (λ e. omega arith) (omega arith)

pub unsound-tells : (m : Option RunState) → TellsState m (told Unsound)
unsound-tells m = unfound m (told Unsound) (λ e. omega arith) (omega arith)

found-tells : (st : RunState) → TellsState (Some st) (told (found_in st))
found-tells Offline =
    record {
      offline = λ e. refl;
      runnable = λ e. absurd (omega arith);
      running = λ e. absurd (omega arith);
      blocked = λ e. absurd (omega arith);
    }
found-tells Runnable =
    record {
      offline = λ e. absurd (omega arith);
      runnable = λ e. refl;
      running = λ e. absurd (omega arith);
      blocked = λ e. absurd (omega arith);
    }
found-tells (Running p) =
    record {
      offline = λ e. absurd (omega arith);
      runnable = λ e. absurd (omega arith);
      running = λ e. (p, refl);
      blocked = λ e. absurd (omega arith);
    }
found-tells Blocked =
    record {
      offline = λ e. absurd (omega arith);
      runnable = λ e. absurd (omega arith);
      running = λ e. absurd (omega arith);
      blocked = λ e. refl;
    }

-- a request that is refused tells the state
abbrev pub RefusalTells : RunState → Result Change Answer → Type 0
RefusalTells st (Err a) = TellsState (Some st) (told a)
RefusalTells st (Ok (Write v)) = Unit {0}
RefusalTells st (Ok (Enter v p)) = Unit {0}
RefusalTells st (Ok (Leave v p)) = Unit {0}

off-mask : (st : RunState) (b : Bool) (c : Result Change Answer) → RefusalTells st c → RefusalTells st (cond b c (Err NotAffine))
off-mask st true c t = t
off-mask st false c t = unfound (Some st) (told NotAffine) (λ e. omega arith) (omega arith)

module _ (v : VirtualCpu) where
  admit-tells : (st : RunState) → RefusalTells st (admitted v st)
  admit-tells Offline = tt
  admit-tells Runnable = found-tells Runnable
  admit-tells (Running p) = found-tells (Running p)
  admit-tells Blocked = found-tells Blocked

  run-tells : (p now : ℕ) (st : RunState) → RefusalTells st (ran v p now st)
  run-tells p now Offline = found-tells Offline
  run-tells p now Runnable = off-mask Runnable (permits v.affinity p) (Ok (Enter (dispatched v p now) p)) tt
  run-tells p now (Running q) = found-tells (Running q)
  run-tells p now Blocked = found-tells Blocked

  preempt-tells : (now : ℕ) (st : RunState) → RefusalTells st (preempted v now st)
  preempt-tells now Offline = found-tells Offline
  preempt-tells now Runnable = found-tells Runnable
  preempt-tells now (Running p) = tt
  preempt-tells now Blocked = found-tells Blocked

  block-tells : (now : ℕ) (st : RunState) → RefusalTells st (blocked v now st)
  block-tells now Offline = found-tells Offline
  block-tells now Runnable = tt
  block-tells now (Running p) = tt
  block-tells now Blocked = found-tells Blocked

  wake-tells : (st : RunState) → RefusalTells st (woken v st)
  wake-tells Offline = found-tells Offline
  wake-tells Runnable = found-tells Runnable
  wake-tells (Running p) = found-tells (Running p)
  wake-tells Blocked = tt

  mask-tells : (m : ℕ) (st : RunState) → RefusalTells st (masked v m st)
  mask-tells m Offline = tt
  mask-tells m Runnable = tt
  mask-tells m (Running p) = off-mask (Running p) (permits m p) (Ok (Write (with_mask v m))) tt
  mask-tells m Blocked = tt

  offline-tells : (full now : ℕ) (st : RunState) → RefusalTells st (offlined v full now st)
  offline-tells full now Offline = found-tells Offline
  offline-tells full now Runnable = tt
  offline-tells full now (Running p) = tt
  offline-tells full now Blocked = tt

  pub changed-tells : (q : Request) (n : ℕ) → RefusalTells v.state (changed q n v)
  changed-tells Request.Admit n = admit-tells v.state
  changed-tells (Request.Run p now) n = run-tells p now v.state
  changed-tells (Request.Preempt now) n = preempt-tells now v.state
  changed-tells (Request.Block now) n = block-tells now v.state
  changed-tells Request.Wake n = wake-tells v.state
  changed-tells (Request.SetAffinity m) n = mask-tells _ v.state
  changed-tells (Request.Offline now) n = offline-tells _ now v.state
