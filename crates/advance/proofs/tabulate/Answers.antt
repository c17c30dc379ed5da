-- What `advance::tabulate` leaves to show. Assumes nothing.
use Rattle.std.proofs.Common.{◌<◌, add-one, arith}
use Rattle.system.specs.Reads.{vcpu_at}
use Rattle.system.specs.Slots.{slots}
use Rattle.advance.proofs.ServiceRows.{row-stored}
use Rattle.advance.proofs.tabulate.Goals as goal

pub loop-i-preserved : goal.loop-i-preserved
unfolding vcpu_at
loop-i-preserved c =
    let l : c.loop-i.i < slots c.args.s.now = omega arith in
    rw (add-one, c.row_of.ensures, c.account_at.ensures, c.vcpus_per_domain-k.ensures)
    (row-stored c.args.s.now c.args.p.now c.args.now c.loop-i.i l c.loop-i.invariant)
