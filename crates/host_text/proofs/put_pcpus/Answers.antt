-- `host_text::put_pcpus` meets its contract. Assumes nothing.
use Rattle.std.proofs.Common.{add-one, arith}
use Rattle.system.specs.Reads.{occupant_at}
use Rattle.text.specs.Places.{placed-none, placed-then}
use Rattle.host_text.specs.HostText.{pcpu_rows}
use Rattle.host_text.specs.Lengths.{pcpu-rows-short}
use Rattle.host_text.proofs.put_pcpus.Goals as goal

pub loop-p-init : goal.loop-p-init
unfolding pcpu_rows
loop-p-init c = placed-none c.args.out.now c.args.at

pub put_pcpu-past-requires : goal.put_pcpu-past-requires
put_pcpu-past-requires c =
    let l = c.loop-p in
    omega (arith, l.invariant.past, l.auto.out, pcpu-rows-short c.args.s.now l.p, c.pcpu_count-p-end.ensures, c.requires)

pub loop-p-preserved : goal.loop-p-preserved
unfolding pcpu_rows occupant_at
loop-p-preserved c = rw (add-one c.loop-p.p) (placed-then (omega (arith, c.requires)) c.loop-p.invariant c.put_pcpu-past.ensures)
