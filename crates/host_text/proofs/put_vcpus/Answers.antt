-- `host_text::put_vcpus` meets its contract. Assumes nothing.
use Rattle.std.proofs.Common.{add-one, arith}
use Rattle.system.specs.Reads.{vcpu_at}
use Rattle.text.specs.Places.{placed-none, placed-then}
use Rattle.host_text.specs.HostText.{vcpu_rows}
use Rattle.host_text.specs.Lengths.{vcpu-rows-short}
use Rattle.host_text.proofs.put_vcpus.Goals as goal

pub loop-i-init : goal.loop-i-init
unfolding vcpu_rows
loop-i-init c = placed-none c.args.out.now c.args.at

pub put_vcpu-past-requires : goal.put_vcpu-past-requires
put_vcpu-past-requires c =
    let l = c.loop-i in
    let short = vcpu-rows-short c.args.s.now c.args.p.now l.i in
    omega (arith, l.invariant.past, l.auto.out, short, c.domain_count-i-end.ensures, c.requires)

pub loop-i-preserved : goal.loop-i-preserved
unfolding vcpu_rows vcpu_at
loop-i-preserved c =
    let a = c.args in
    let row = rw (c.vcpus_per_domain-k.ensures, c.used_weight.ensures, c.account_at.ensures) at c.put_vcpu-past.ensures in
    rw (add-one c.loop-i.i) (placed-then (omega (arith, c.requires)) c.loop-i.invariant row)
