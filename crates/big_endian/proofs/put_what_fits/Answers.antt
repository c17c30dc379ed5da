-- `put_what_fits` meets its contract. Assumes nothing.
use Rattle.std.proofs.Common.{◌∙◌, arith}
use Rattle.std.proofs.lemmas.List.{length-take}
use Rattle.big_endian.proofs.Std.{copied}
use Rattle.big_endian.proofs.Ends.{none-past, fitting}
use Rattle.big_endian.proofs.put_what_fits.Goals as goal

pub returns-then-at-out : goal.returns-then-at-out
returns-then-at-out c =
    let l = c.args.out.now in
    let b = c.args.bytes.now in
    let fit = c.min-fit.result in
    copied l c.args.at fit c.copy_from_slice.ensures.after (omega (arith, length-take fit b)) (omega arith)
    ∙ fitting l c.args.at b (omega arith) c.min-fit.ensures

pub returns-else-at-out : goal.returns-else-at-out
returns-else-at-out c = none-past c.args.out.now c.args.at c.args.bytes.now c.if-at-out.false
