-- `test_fields::write_policy` meets its contract. Assumes nothing.
use Rattle.std.proofs.Common.{arith}
use Rattle.policy.proofs.Laws.{stored}
use Rattle.test_fields.specs.Fields.{policy_written, slot_of}
use Rattle.test_fields.proofs.write_policy.Goals as goal

pub returns : goal.returns
unfolding policy_written
returns c =
    let r = c.args.r in
    let account = stored c.args.p.now (record { accounts = omega arith }) (slot_of r.dom r.vcpu) (omega arith) in
    rw (c.named-p.ensures, c.named-p-2.ensures, c.named-p-3.ensures, c.named-p-4.ensures)
    (rw (c.write_account.ensures, c.slot_read.ensures, account))
