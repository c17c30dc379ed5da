-- `test_fields::kept` meets its contract. Assumes nothing.
use Rattle.std.proofs.Common.{arith}
use Rattle.system.specs.Reads.{vcpu_at}
use Rattle.policy.proofs.Laws.{stored}
use Rattle.test_fields.specs.Fields.{kept, slot_of}
use Rattle.test_fields.proofs.kept.Goals as goal

pub returns : goal.returns
unfolding kept vcpu_at
returns c =
    let a = c.args in
    let account = stored a.h.now.scheduler (record { accounts = omega arith }) (slot_of a.dom a.vcpu) (omega arith) in
    rw (c.wide-6.ensures, c.bit-2.ensures, c.bit.ensures, c.wide-5.ensures, c.wide-4.ensures, c.wide-3.ensures, c.wide-2.ensures, c.wide.ensures)
    (rw (c.slot_read-i.ensures, account))
