-- `sched::requested` is a request in place, in the system's own frame. Assumes nothing.
use Rattle.std.proofs.Common.{◌∙◌}
use Rattle.sched.proofs.RequestInPlace.{by-stores}
use Rattle.sched.proofs.requested.Goals as goal

pub returns : goal.returns
returns c = rw c.frame_of-frame.ensures at c.request_in_place.ensures ∙ by-stores c.args.s.now c.args.dom c.args.vcpu c.args.request
