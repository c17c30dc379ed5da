-- `put_at` of a `u32` meets its contract. Assumes nothing.
use Rattle.std.proofs.Common.{List, ℕ, ap, ◌∙◌, arith}
use Rattle.std.proofs.lemmas.List.Edits.{sets}
use Rattle.big_endian.proofs.Std.{high-first, written}
use Rattle.big_endian.proofs.U32BigEndian.put_at.Goals as goal

pub returns-then-saturating_add-out : goal.returns-then-saturating_add-out
returns-then-saturating_add-out c =
    written c.args.out.now c.args.at 4 c.args.self (c.copy_from_slice.ensures.after ∙ c.to_be_bytes-bytes.ensures) (omega arith)

pub returns-else-saturating_add-out : goal.returns-else-saturating_add-out
returns-else-saturating_add-out c =
    c.put_what_fits.ensures
    ∙ ap (λ (b : List ℕ). sets c.args.out.now c.args.at b) (c.to_be_bytes-bytes.ensures ∙ high-first 4 c.args.self)
