-- What holds as an advance returns, of its moves and of the book after it.
use Rattle.std.specs.Prelude.{ℕ, ◌*◌, ◌≤◌, ◌<◌, true, ◌≡◌, List, length}
use Rattle.masks.specs.Masks.{permits}
use Rattle.system.specs.declared.RunState.TheVariants.{Runnable}
use Rattle.scans.specs.Scan.{nobody}
use Rattle.moves.specs.declared.Choice.{Choice}
use Rattle.rules.specs.Settle.{moves_on}
use Rattle.demand3.specs.Book.{Book, Shape, holder}
use Rattle.demand3.specs.Agreement.{PresentIn}

pub record AfterAdvance (k : Shape) (ms : List Choice) (b : Book) : Type 0 where
  -- at most two moves a pCPU: twice as many in all as there are pCPUs, and two on each
  pub moves : length ms ≤ 2 * k.pcpus
  pub moves-on : (p : ℕ) → p < k.pcpus → moves_on p ms ≤ 2
  -- no vCPU waits beside an idle pCPU that its mask admits
  pub placed : (i p : ℕ) → PresentIn k i → p < k.pcpus → (b i).state ≡ Runnable → holder k b p ≡ nobody
      → permits (b i).mask p ≡ true → ⊥
