-- `trace::main`: the room for the text is as long as it was made. Assumes nothing.
use Rattle.std.proofs.Common.{ℕ, sym}
use Rattle.std.proofs.lemmas.List.{length-replicate}
use Rattle.trace.proofs.main.Goals as goal

pub slice_bounds-to_end-end-2 : goal.slice_bounds-to_end-end-2
slice_bounds-to_end-end-2 c = sym (length-replicate {A = ℕ} 1148000 0)
