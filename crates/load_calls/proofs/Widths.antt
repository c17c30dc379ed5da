-- The fields of a call's record fit their types. Assumes nothing.
use Prim.Native.Nat.{ℕ, ◌^◌, ◌<◌}
use mathlib.Core.Bool.{Bool, true, false}
use native.Mathlib.Nat.{lt_of_le_of_lt}
use lib.Dec.{lit<}
use Rattle.generator.specs.Xorshift.{after, drawn_if}
use Rattle.generator.proofs.Laws.{after-below}
use Rattle.records.specs.Bytes.{FitsRecord}
use Rattle.load_calls.specs.declared.Kind.{Kind}
use Rattle.load_calls.specs.declared.Kind.TheVariants.{Admit, Block, Wake, Mask, Advance}
use Rattle.load_calls.specs.Calls.{kind_of, draws_last, numbers_drawn, kind_number, value_of, called}
use Rattle.load_calls.proofs.Ids.{id-within}
use Rattle.load_calls.proofs.Clock.{clock-below}
use Rattle.load_calls.proofs.States.{ids-below}

kind_fits : (k : Kind) → kind_number k < 2 ^ 16
kind_fits Admit = lit< tt
kind_fits Block = lit< tt
kind_fits Wake = lit< tt
kind_fits Mask = lit< tt
kind_fits Advance = lit< tt

drawn-fits : (wanted : Bool) (y : ℕ) → y < 2 ^ 64 → drawn_if wanted y < 2 ^ 64
drawn-fits true y l = after-below y l
drawn-fits false y l = lit< tt

value-fits : (k : Kind) (t n : ℕ) → t < 2 ^ 64 → n < 2 ^ 64 → value_of k t n < 2 ^ 64
value-fits Admit t n l m = lit< tt
value-fits Block t n l m = l
value-fits Wake t n l m = lit< tt
value-fits Mask t n l m = m
value-fits Advance t n l m = l

pub call_fits : (d v x t : ℕ) → d < 2 ^ 16 → v < 2 ^ 32 → x < 2 ^ 64 → t < 2 ^ 64 → FitsRecord (called d v x t).call
unfolding called numbers_drawn
call_fits d v x t dl vl xl tl =
    record {
      kind = kind_fits (kind_of (after x));
      dom = lt_of_le_of_lt (id-within _ d) dl;
      vcpu = lt_of_le_of_lt (id-within _ v) vl;
      third = lit< tt;
      value = value-fits (kind_of (after x)) _ _ (clock-below d v x t tl) (drawn-fits (draws_last (after x)) _ (ids-below d v x xl));
    }
