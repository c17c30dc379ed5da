-- What `advance::enact` leaves to show. Assumes nothing.
use Rattle.std.proofs.Common.{refl, rules}
use Rattle.system.specs.Reads.{vcpu_at}
use Rattle.system.specs.Writes.{put_vcpu, put_occupant}
use Rattle.settling.specs.AfterMoves.{after_moves}
use Rattle.advance.proofs.EnactLoop.{enacts_next}
use Rattle.advance.proofs.enact.Goals as goal

pub loop-m-init : goal.loop-m-init
unfolding after_moves
loop-m-init c = refl

pub loop-m-preserved : goal.loop-m-preserved
unfolding vcpu_at put_vcpu put_occupant
loop-m-preserved c =
    enacts_next c.args.s.now c.args.now c.args.log.now c.loop-m.m-index _ (search rules) c.loop-m.invariant c.from-c.ensures
    (rw (c.record_after.ensures, c.occupant_after.ensures, c.slot_in-at.ensures, c.onto_in.ensures) refl)
