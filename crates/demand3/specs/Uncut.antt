-- Where clocks do not run back no run time is cut at 2^64 − 1. It is proved as `machine_uncut` of every lawful
-- machine, and as `uncut` of every fresh host.
use Rattle.std.specs.Prelude.{ℕ, ◌+◌, ◌-◌, ◌^◌, ◌≤◌, ◌<◌, ◌≡◌, List}
use Rattle.system.specs.declared.RunState.{RunState}
use Rattle.system.specs.declared.RunState.TheVariants.{Running}
use Rattle.calls.specs.declared.Call.{Call}
use Rattle.demand3.specs.Machine.{Machine}
use Rattle.demand3.specs.ServiceMachine.{service_machine}
use Rattle.demand3.specs.Book.{Book, Shape, closed}
use Rattle.demand3.specs.Agreement.{PresentIn, InStep}
use Rattle.demand3.specs.Lists.{book_after, Forward}
use Rattle.demand3.specs.Fresh.{Fresh, first_host, book_at}

-- no run time is past the latest clock c, nor past the clock of a run
pub record Early (k : Shape) (b : Book) (c : ℕ) : Type 0 where
  pub running : (i p : ℕ) → PresentIn k i → (b i).state ≡ Running p
      → ((b i).time ≤ (b i).clock) × ((b i).clock ≤ c)
  pub times : (i : ℕ) → PresentIn k i → (b i).time ≤ c

-- so that coming off at any clock from c on adds all of the ticks since the run's clock
pub record Uncut (k : Shape) (b : Book) (c : ℕ) : Type 0 where
  pub early : Early k b c
  pub exact : (i p now : ℕ) (st : RunState) → PresentIn k i → (b i).state ≡ Running p → c ≤ now → now < 2 ^ 64
      → (closed (b i) st now).time ≡ (b i).time + (now - (b i).clock)

-- from every host in step with a book, where no run time is past the clock at first; every part of such a list from its
-- start is one too
abbrev pub EveryForwardUncut : Machine → Type 0
EveryForwardUncut M = (k : Shape) (b : Book) (h : M.Host) (c : ℕ) → InStep k b (M.system h) → Early k b c
    → (cs : List Call) (c' : ℕ) → Forward M h c cs c' → Uncut k (book_after M k h b cs) c'

abbrev pub EveryForwardList : Type 0
EveryForwardList = (f : Fresh) (cs : List Call) (c : ℕ) → Forward service_machine (first_host f) 0 cs c
    → Uncut f.shape (book_at f cs) c
