-- Each vCPU record keeps the pCPU that it was last dispatched onto, none at first and none again after offline: by
-- the calls alone, as the book has them, and that the record has the same. It is proved as `machine_keeps-last` of
-- every lawful machine, and as `last-kept` of every fresh host.
use Rattle.std.specs.Prelude.{ℕ, cond, ◌≡◌, List, [], ◌∷◌, eqb}
use Rattle.system.specs.declared.RunState.{RunState}
use Rattle.system.specs.declared.RunState.TheVariants.{Offline, Runnable, Running, Blocked}
use Rattle.system.specs.declared.System.{System}
use Rattle.system.specs.Records.{no_pcpu}
use Rattle.system.specs.Reads.{state_at, last_at}
use Rattle.calls.specs.declared.Call.{Call}
use Rattle.demand3.specs.Machine.{Machine}
use Rattle.demand3.specs.ServiceMachine.{service_machine}
use Rattle.demand3.specs.Dated.{Direction, onto, off, Dated}
use Rattle.demand3.specs.Book.{Book, Shape, blank_book, Entry}
use Rattle.demand3.specs.Agreement.{PresentIn, InStep}
use Rattle.demand3.specs.Lists.{after_all, entry_of}
use Rattle.demand3.specs.Fresh.{Fresh, first_host, host_at}

-- ---- by the moves

-- what a move at pCPU p leaves of whom it moves, where l was kept before
abbrev pub arrived : Direction → ℕ → ℕ → ℕ
arrived onto p l = p
arrived off p l = l

-- the pCPU of slot i's latest move onto one; l where there is none
unfoldable pub latest_onto : ℕ → ℕ → List Dated → ℕ
latest_onto i l [] = l
latest_onto i l (m ∷ ms) = latest_onto i (cond (eqb i m.slot) (arrived m.direction m.pcpu l) l) ms

-- ---- by the calls

-- one that is Offline was last on none
abbrev pub unless_offline : RunState → ℕ → ℕ
unless_offline Offline l = no_pcpu
unless_offline Runnable l = l
unless_offline (Running p) l = l
unless_offline Blocked l = l

-- what is kept of slot i after what a call enters, where l was kept before
abbrev pub last_by : Entry → ℕ → ℕ → ℕ
last_by e i l = unless_offline (e.book i).state (latest_onto i l e.moves)

module _ (M : Machine) where
  -- and after a list of calls of a host
  unfoldable pub last_after : Shape → M.Host → Book → ℕ → ℕ → List Call → ℕ
  last_after k h b i l [] = l
  last_after k h b i l (c ∷ cs) = let e = entry_of M k h b c in last_after k (M.after h c) e.book i (last_by e i l) cs

-- ---- the records

-- of slot i, where the calls say l
pub record LastKept (s : System) (i l : ℕ) : Type 0 where
  pub last : last_at s i ≡ l
  -- so that one that is Running was last dispatched onto where it is, and one that is Offline onto none
  pub running : (p : ℕ) → state_at s i ≡ Running p → last_at s i ≡ p
  pub offline : state_at s i ≡ Offline → last_at s i ≡ no_pcpu

-- from every host in step with a book, where it is so at first
abbrev pub EveryPointKeepsLast : Machine → Type 0
EveryPointKeepsLast M = (k : Shape) (b : Book) (h : M.Host) → InStep k b (M.system h)
    → let l : ℕ → ℕ = λ i. last_at (M.system h) i in
    ((i : ℕ) → PresentIn k i → LastKept (M.system h) i (l i))
    → (cs : List Call) (i : ℕ) → PresentIn k i
    → LastKept (M.system (after_all M h cs)) i (last_after M k h b i (l i) cs)

abbrev pub EveryLastKept : Type 0
EveryLastKept = (f : Fresh) (cs : List Call) (i : ℕ) → PresentIn f.shape i
    → let k = f.shape in
    LastKept (host_at f cs).system i (last_after service_machine k (first_host f) (blank_book k) i no_pcpu cs)
