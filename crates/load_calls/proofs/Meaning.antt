-- The record of a call is read as the call that is meant. Assumes nothing.
use Prim.Native.Nat.{ℕ, ◌^◌, ◌<◌}
use mathlib.Core.Bool.{true}
use mathlib.Core.Path.{◌≡◌, refl, ◌∙◌}
use mathlib.Core.List.{List, ◌++◌}
use Rattle.generator.specs.Xorshift.{after}
use Rattle.records.specs.declared.Plan.{Plan}
use Rattle.records.specs.Bytes.{record_bytes}
use Rattle.records.specs.Records.{planned, plan_of}
use Rattle.records.proofs.Laws.{plan-back}
use Rattle.load_calls.specs.declared.Kind.{Kind}
use Rattle.load_calls.specs.declared.Kind.TheVariants.{Admit, Block, Wake, Mask, Advance}
use Rattle.load_calls.specs.declared.Numbers.{Numbers}
use Rattle.load_calls.specs.Calls.{kind_of, numbers_drawn, state_drawn, id_of, clock_after, called_by, called}
use Rattle.load_calls.specs.Meant.{meant_by, meant}
use Rattle.load_calls.proofs.Widths.{call_fits}

-- kind by kind: a call that is no build
by_kind : (d v t : ℕ) (k : Kind) (m : Numbers) (x : ℕ)
    → planned true (called_by d v t k m x).call ≡ Plan.Call (meant_by k (id_of m.dom d) (id_of m.vcpu v) m.last (clock_after k t m.last))
by_kind d v t Admit m x = refl
by_kind d v t Block m x = refl
by_kind d v t Wake m x = refl
by_kind d v t Mask m x = refl
by_kind d v t Advance m x = refl

planned-meant : (d v x t : ℕ) → planned true (called d v x t).call ≡ Plan.Call (meant d v x t)
unfolding called
planned-meant d v x t = by_kind d v t (kind_of (after x)) (numbers_drawn d v x) (state_drawn d v x)

-- whatever follows it in the script
pub read_as_meant : (d v x t : ℕ) → d < 2 ^ 16 → v < 2 ^ 32 → x < 2 ^ 64 → t < 2 ^ 64 → (cs : List ℕ)
    → plan_of true (record_bytes (called d v x t).call ++ cs) ≡ Plan.Call (meant d v x t)
read_as_meant d v x t dl vl xl tl cs =
    plan-back true (called d v x t).call (call_fits d v x t dl vl xl tl) cs ∙ planned-meant d v x t
