-- What holds of a call of any machine, whose host and book are given. It is proved as `machine_at-call` of every
-- lawful one.
use Rattle.std.specs.Prelude.{◌≡◌, List}
use Rattle.calls.specs.declared.Call.{Call}
use Rattle.demand3.specs.Machine.{Machine}
use Rattle.demand3.specs.Book.{Book, Shape}
use Rattle.demand3.specs.Agreement.{InStep}
use Rattle.demand3.specs.Lists.{after_all, entry_of, book_after}

pub record AtCall (M : Machine) (k : Shape) (b : Book) (h : M.Host) (c : Call) : Type 0 where
  -- a call is told by the system what it is told by the book
  pub told : M.number h c ≡ (entry_of M k h b c).number

-- whatever the next call is, after every list from every host in step with a book
abbrev pub EveryCallTold : Machine → Type 0
EveryCallTold M = (k : Shape) (b : Book) (h : M.Host) → InStep k b (M.system h) → (cs : List Call) (c : Call)
    → AtCall M k (book_after M k h b cs) (after_all M h cs) c
