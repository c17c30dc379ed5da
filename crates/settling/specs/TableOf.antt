-- The table of a system under a rule: what it has of each slot that takes part in a decision.
use Rattle.std.specs.Prelude.{ℕ, ◌<◌, ◌≡◌, ◌≢◌, List, [], ◌∷◌, length, set}
use Rattle.service.specs.Service.{value}
use Rattle.system.specs.declared.RunState.TheVariants.{Runnable}
use Rattle.system.specs.declared.VirtualCpu.{VirtualCpu}
use Rattle.system.specs.declared.System.{System}
use Rattle.system.specs.Reads.{vcpu_at}
use Rattle.system.specs.Slots.{present}
use Rattle.changes.specs.Records.{left}
use Rattle.moves.specs.declared.Standing.{Standing}
use Rattle.moves.specs.declared.Standing.TheVariants.{Rests, Waits, Expired}
use Rattle.moves.specs.declared.Row.{Row}
use Rattle.moves.specs.Table.{row_at}
use Rattle.rules.specs.Rules.{Rule}
use Rattle.settling.specs.Standings.{standing_of}

-- a slot of that row takes part in a decision: it waits, or may be preempted
abbrev pub TakesPart : Row → Type 0
TakesPart r = r.standing ≢ Rests

-- r is what the table has of slot i; of one that takes no part it has its standing and nothing else
pub record RowOf (s : System) (ρ : Rule) (now i : ℕ) (r : Row) : Type 0 where
  pub standing : r.standing ≡ standing_of (present s i) (ρ.barred s now i) ρ.slice now (vcpu_at s i)
  pub weight : TakesPart r → r.weight ≡ ρ.weight i
  pub mask : TakesPart r → r.mask ≡ (vcpu_at s i).affinity
  pub service : TakesPart r → value r.service ≡ ρ.service (vcpu_at s i) now i
  pub last : TakesPart r → r.last ≡ (vcpu_at s i).last
  -- of a runner that may be preempted, what it has had once it has left
  pub leaving : (p : ℕ) → r.standing ≡ Expired p → value r.leaving ≡ ρ.service (left (vcpu_at s i) Runnable now) now i

-- t is the table of the first n slots, as long as the code's
pub record TableOf (s : System) (ρ : Rule) (now : ℕ) (t : List Row) (n : ℕ) : Type 0 where
  pub size : length t ≡ 128
  pub rows : (i : ℕ) → i < n → RowOf s ρ now i (row_at t i)

-- ---- filling it

-- a row of a vCPU's record, its standing, weight and service, and its service once it has left
abbrev pub row_of : Standing → ℕ → List ℕ → List ℕ → VirtualCpu → Row
row_of standing weight service leaving v =
    record { standing = standing; mask = v.affinity; service = service; weight = weight; last = v.last; leaving = leaving }

-- what is not read
abbrev pub unread : List ℕ
unread = 0 ∷ 0 ∷ 0 ∷ 0 ∷ []

-- What is stored of a row: of a slot that takes no part its standing alone; of one that may be preempted also what it has had once it
-- has left.
abbrev pub stored_by : Standing → Row → Row
stored_by Rests r = record { standing = Rests; mask = 0; service = unread; weight = 0; last = 0; leaving = unread }
stored_by Waits r = record r { leaving = unread }
stored_by (Expired p) r = r

-- a row stored as slot i's
abbrev pub slot_stored : List Row → ℕ → Row → List Row
slot_stored t i r = set t i (stored_by r.standing r)
