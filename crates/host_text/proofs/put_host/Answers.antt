-- `host_text::put_host` meets its contract. Assumes nothing.
use Rattle.std.proofs.Common.{◌*◌, arith}
use Rattle.system.specs.Slots.{domains}
use Rattle.text.specs.Places.{placed-then, put-within}
use Rattle.host_text.specs.HostText.{host_text}
use Rattle.host_text.specs.Rooms.{host_room}
use Rattle.host_text.specs.Lengths.{vcpu-rows-short}
use Rattle.host_text.proofs.put_host.Goals as goal

-- what the vCPUs took leaves room for the pCPUs
pub put_pcpus-requires : goal.put_pcpus-requires
put_pcpus-requires c =
    let a = c.args in
    let put = c.put_vcpus-past in
    omega (arith, put.ensures.past, put.auto.out, vcpu-rows-short a.s.now a.p.now (domains a.s.now * 8))

pub returns : goal.returns
unfolding host_text
returns c =
    let there = put-within host_room (omega arith) (placed-then (omega arith) c.put_vcpus-past.ensures c.put_pcpus.ensures) in
    record { put = there.0; end = there.1 }
