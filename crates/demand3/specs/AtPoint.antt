-- What holds of a book and a system of any machine at every point of a list. It is proved as `machine_at-point` of
-- every lawful one.
use Rattle.std.specs.Prelude.{ℕ, ◌+◌, ◌*◌, ◌^◌, ◌<◌, ◌≡◌, List}
use Rattle.masks.specs.Masks.{bit}
use Rattle.system.specs.declared.System.{System}
use Rattle.system.specs.Reads.{affinity_permits}
use Rattle.calls.specs.declared.Call.{Call}
use Rattle.demand3.specs.Machine.{Machine}
use Rattle.demand3.specs.Book.{Book, Shape}
use Rattle.demand3.specs.Agreement.{PresentIn, Agrees, InStep}
use Rattle.demand3.specs.Reads.{ReadsAgree}
use Rattle.demand3.specs.Lists.{after_all, book_after}

pub record AtPoint (k : Shape) (b : Book) (s : System) : Type 0 where
  -- the system agrees with the book on states, holders, masks, run times and the clock of each Running vCPU
  pub agrees : Agrees k b s
  -- and so does every read of the system
  pub reads : ReadsAgree k b s
  -- stored masks are clipped: no bit at or above the pCPU count is set
  pub masks : (i : ℕ) → PresentIn k i → (b i).mask < 2 ^ k.pcpus
  -- so that `affinity_permits` goes by the mask's bit, for a pCPU id of any size
  pub admits : (d v p : ℕ) → d < k.domains → v < k.vcpus → affinity_permits s d v p ≡ bit (b (d * 8 + v)).mask p

-- from every host in step with a book whose masks are clipped, such as the blank one
abbrev pub EveryPoint : Machine → Type 0
EveryPoint M = (k : Shape) (b : Book) (h : M.Host) → InStep k b (M.system h)
    → ((i : ℕ) → (b i).mask < 2 ^ k.pcpus) → (cs : List Call)
    → AtPoint k (book_after M k h b cs) (M.system (after_all M h cs))
