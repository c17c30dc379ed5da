-- Settling over the table of a system is settling of the system, under any steady rule: the statements. They are proved as
-- `decided-choice`, `settled-moves`, `settled-system`, `no_slots`, `slot-stored`, `idle-set-is`.
use Rattle.std.specs.Prelude.{ℕ, suc, ◌^◌, ◌<◌, false, ◌≡◌, List, length}
use Rattle.masks.specs.Sets.{set_of}
use Rattle.service.specs.Service.{value}
use Rattle.system.specs.declared.RunState.TheVariants.{Runnable, Running}
use Rattle.system.specs.declared.System.{System}
use Rattle.system.specs.Reads.{vcpu_at, state_at, runtime_at}
use Rattle.system.specs.Writes.{Tables}
use Rattle.system.specs.Slots.{Present, slots, present}
use Rattle.verdict.specs.Sound.{Sound}
use Rattle.changes.specs.Records.{left}
use Rattle.moves.specs.declared.Row.{Row}
use Rattle.moves.specs.Decide.{decide}
use Rattle.moves.specs.Table.{tabled}
use Rattle.moves.specs.Settling.{settled}
use Rattle.rules.specs.Rules.{Rule}
use Rattle.rules.specs.Choices.{choice}
use Rattle.rules.specs.Steady.{Steady}
use Rattle.rules.specs.Settle.{settle}
use Rattle.settling.specs.Standings.{standing_of}
use Rattle.settling.specs.IdleSet.{idle_in, idle_set}
use Rattle.settling.specs.AfterMoves.{after_moves}
use Rattle.settling.specs.TableOf.{TableOf, row_of, slot_stored}

-- one decision over the table is the choice
abbrev pub DecidedChoice : Type 0
DecidedChoice = (s : System) (ρ : Rule) (now : ℕ) (t : List Row) → Sound s → TableOf s ρ now t (slots s)
    → decide (tabled t (idle_set s)) (slots s) ≡ choice s ρ now

-- What settling needs of the system and its table. Run times are words, as the code's are. Where runners may be barred, those that are
-- have been taken off.
pub record Settleable (s : System) (ρ : Rule) (now : ℕ) (t : List Row) : Type 0 where
  pub tables : Tables s
  pub sound : Sound s
  pub times : (i : ℕ) → runtime_at s i < 2 ^ 64
  pub unbarred : (i p : ℕ) → Present s i → state_at s i ≡ Running p → ρ.barred s now i ≡ false
  pub table : TableOf s ρ now t (slots s)

-- the moves over the table, at most k, are those of the system
abbrev pub SettledMoves : Type 0
SettledMoves = (ρ : Rule) → Steady ρ → (now k : ℕ) (s : System) (t : List Row) → Settleable s ρ now t
    → settled ρ.slice (slots s) k t (idle_set s) ≡ (settle ρ now k s).moves

-- and what they leave, written one after another, is the system that settling leaves
abbrev pub SettledSystem : Type 0
SettledSystem = (ρ : Rule) → Steady ρ → (now k : ℕ) (s : System) (t : List Row) → Settleable s ρ now t
    → after_moves s now (settled ρ.slice (slots s) k t (idle_set s)) ≡ (settle ρ now k s).system

-- ---- filling the table

-- of no slots any table is the table
abbrev pub NoSlots : Type 0
NoSlots = (s : System) (ρ : Rule) (now : ℕ) (t : List Row) → length t ≡ 128 → TableOf s ρ now t 0

-- a table of the first i slots, with slot i's row stored, is that of one more; w are the limbs of its service, l those once it has left
abbrev pub SlotStored : Type 0
SlotStored = (s : System) (ρ : Rule) (now i : ℕ) (t : List Row) (w l : List ℕ) → i < slots s
    → value w ≡ ρ.service (vcpu_at s i) now i → value l ≡ ρ.service (left (vcpu_at s i) Runnable now) now i
    → TableOf s ρ now t i
    → let standing = standing_of (present s i) (ρ.barred s now i) ρ.slice now (vcpu_at s i) in
    TableOf s ρ now (slot_stored t i (row_of standing (ρ.weight i) w l (vcpu_at s i))) (suc i)

-- the idle set, by the pCPUs of a system and their count
abbrev pub IdleSetIs : Type 0
IdleSetIs = (s : System) → set_of (idle_in s.pcpus s.pcpu_count) 64 ≡ idle_set s
