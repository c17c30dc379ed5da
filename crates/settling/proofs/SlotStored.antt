-- Filling the table: with one slot more stored it is the table of one slot more. Assumes nothing.
use Prim.Native.Nat.{ℕ, suc}
use mathlib.Core.Path.{◌≡◌, refl}
use mathlib.Core.List.{List}
use native.Mathlib.Omega.{arith}
use Rattle.service.specs.Service.{value}
use Rattle.system.specs.declared.RunState.TheVariants.{Runnable}
use Rattle.system.specs.declared.System.{System}
use Rattle.system.specs.Reads.{vcpu_at}
use Rattle.system.specs.Slots.{present}
use Rattle.changes.specs.Records.{left}
use Rattle.moves.specs.declared.Standing.{Standing}
use Rattle.moves.specs.declared.Standing.TheVariants.{Rests, Waits, Expired}
use Rattle.rules.specs.Rules.{Rule}
use Rattle.settling.specs.Standings.{standing_of}
use Rattle.settling.specs.TableOf.{RowOf, row_of, stored_by}
use Rattle.settling.specs.TableLaws.{NoSlots, SlotStored}
use Rattle.settling.proofs.TableFollows.{one_stored}

-- of no slots any table is the table
pub no_slots : NoSlots
no_slots s ρ now t e = record { size = e; rows = λ i l. absurd (omega arith) }

module _ (s : System) (ρ : Rule) (now i : ℕ) (w l : List ℕ) (served : value w ≡ ρ.service (vcpu_at s i) now i)
    (leaves : value l ≡ ρ.service (left (vcpu_at s i) Runnable now) now i) where
  -- what is stored of a slot of that standing is its row
  stored-row : (st : Standing) → st ≡ standing_of (present s i) (ρ.barred s now i) ρ.slice now (vcpu_at s i)
      → RowOf s ρ now i (stored_by st (row_of st (ρ.weight i) w l (vcpu_at s i)))
  stored-row Rests e =
      record {
        standing = e;
        weight = λ h. absurd (h refl);
        mask = λ h. absurd (h refl);
        service = λ h. absurd (h refl);
        last = λ h. absurd (h refl);
        leaving = λ p h. absurd cc;
      }
  stored-row Waits e =
      record {
        standing = e;
        weight = λ h. refl;
        mask = λ h. refl;
        service = λ h. served;
        last = λ h. refl;
        leaving = λ p h. absurd cc;
      }
  stored-row (Expired p) e =
      record {
        standing = e;
        weight = λ h. refl;
        mask = λ h. refl;
        service = λ h. served;
        last = λ h. refl;
        leaving = λ q h. leaves;
      }

pub slot-stored : SlotStored
slot-stored s ρ now i t w l below served leaves T =
    one_stored s s ρ now i (suc i) i t _ T (omega (arith, below)) (stored-row s ρ now i w l served leaves _ refl)
    (λ j m n. T.rows j (omega arith))
