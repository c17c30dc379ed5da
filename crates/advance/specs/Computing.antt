-- The definitions by which the mechanism's calls, `next` and an advance compute, said once: to unfold `computing` is to unfold each.
use Rattle.scans.specs.Scan.{scan}
use Rattle.masks.specs.Masks.{first}
use Rattle.service.specs.Service.{value, limbs, held, more_deserving}
use Rattle.system.specs.Records.{in_flight}
use Rattle.system.specs.Reads.{vcpu_at, occupant_at}
use Rattle.system.specs.Shape.{fresh}
use Rattle.system.specs.Writes.{put_vcpu, put_occupant}
use Rattle.verdict.specs.Violations.{slot_violation, pcpu_violation, earliest, first_violation, invariants_hold}
use Rattle.changes.specs.Records.{dispatched, left}
use Rattle.sched.specs.Steps.{applied, requested, offline_first, offline_all}
use Rattle.moves.specs.Decide.{decide, chosen, victim, first_idle_pcpu_for, placement, placeable, beaten, loses}
use Rattle.rules.specs.Choices.{standings, choice, choice_by_lowest}
use Rattle.rules.specs.Settle.{enacted, settle}
use Rattle.policy.specs.Accounts.{account_at, account_of, put_account, fresh_policy, set_weight, set_wake_boost}
use Rattle.policy.specs.Standing.{service_by, deserves}
use Rattle.policy.specs.Accounting.{floor, renewed, renew_first, accounted}
use Rattle.advance.specs.Advance.{next, advance}

unfoldable pub computing : Type 0
unfolding scan first value limbs held more_deserving in_flight vcpu_at occupant_at fresh put_vcpu put_occupant slot_violation
    pcpu_violation earliest first_violation invariants_hold dispatched left applied requested offline_first offline_all decide chosen
    victim first_idle_pcpu_for placement placeable beaten loses standings choice choice_by_lowest enacted settle account_at account_of
    put_account fresh_policy set_weight set_wake_boost service_by deserves floor renewed renew_first accounted next advance
computing = Unit {0}
