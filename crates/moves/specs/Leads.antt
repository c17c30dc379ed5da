-- What the loops keep: whoever leads, which is somebody where the scan so far has a pick, and has what the row of that slot has.
use Rattle.std.specs.Prelude.{ℕ, Bool, true, ◌≡◌, List, Option, Some, None}
use Rattle.service.specs.Service.{value, more_deserving}
use Rattle.moves.specs.declared.Leader.{Leader}
use Rattle.moves.specs.declared.Row.{Row}
use Rattle.scans.specs.Scan.{Pick, nobody, at}
use Rattle.moves.specs.Decide.{first_idle_pcpu_for, chosen, victim}
use Rattle.moves.specs.Table.{row_at, tabled}

-- a is more deserving than b
abbrev pub ahead : Leader → Leader → Bool
ahead a b = more_deserving (value a.service) a.weight (value b.service) b.weight

-- nobody leads so far, or a comes before whoever does
abbrev pub before : (Leader → Leader → Bool) → Leader → Option Leader → Bool
before f a None = true
before f a (Some b) = f a b

-- a is more deserving than the best so far
abbrev pub goes_before : Leader → Option Leader → Bool
goes_before a best = before ahead a best

-- the worst so far is more deserving than a
abbrev pub yields_before : Leader → Option Leader → Bool
yields_before a worst = before (λ x y. ahead y x) a worst

-- l has what its slot's row has, and the pCPU that on gives the slot
pub record Stands (t : List Row) (on : ℕ → ℕ) (l : Leader) : Type 0 where
  pub served : l.service ≡ (row_at t l.at).service
  pub weighs : l.weight ≡ (row_at t l.at).weight
  pub placed : l.pcpu ≡ on l.at

-- o stands for the pick r
abbrev pub Leads : List Row → (ℕ → ℕ) → Pick → Option Leader → Type 0
Leads t on r None = r ≡ nobody
Leads t on r (Some l) = (r ≡ at l.at) × Stands t on l

-- o stands for the most deserving that can be placed, with the lowest-numbered pCPU that it can be placed on
abbrev pub LeadsChosen : List Row → ℕ → ℕ → Option Leader → Type 0
LeadsChosen t idle n o = Leads t (first_idle_pcpu_for (tabled t idle)) (chosen (tabled t idle) n) o

-- l has what the row of an expired slot has, with the pCPU that it runs on, whatever is idle
abbrev pub StandsExpired : List Row → Leader → Type 0
StandsExpired t l = Stands t (tabled t 0).on l

-- o stands for the least deserving that loses, with the pCPU that it runs on
abbrev pub LeadsVictim : List Row → ℕ → Option Leader → Type 0
LeadsVictim t n o = Leads t (tabled t 0).on (victim (tabled t 0) n) o
