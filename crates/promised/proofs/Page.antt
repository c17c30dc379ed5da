-- What the code's contracts say is the page's: the laws by which each promise follows from the contract of the function that it calls.
use Rattle.page.proofs.Laws.{lowest-is, sum_is, difference-is, product_is, quotient_is, less-is, more-deserving-is}
use Rattle.page.proofs.Laws.{vcpu-of-is, state-of-is, is-running-is, runtime-is, since-is, occupant-is}
use Rattle.page.proofs.Laws.{affinity-of-is, affinity-permits-is, busy-is, first_violation_is, sound-is}
use Rattle.page.proofs.Laws.{request_is, offline-all-is, frame-of-is, in-place-is}
use Rattle.page.proofs.Laws.{account-is, weight_is, flight-is, service-by-is, accounted-is, set-weight-is, set-wake-boost-is}
use Rattle.page.proofs.Laws.{number_in_is, put-answer-is, past-answer-is, numbers-line-is, pcpu-line-is, usage-line-of}
use Rattle.page.proofs.Laws.{numbers-line-made, pcpu-line-made, usage-line-made}
use Rattle.page.proofs.Laws.{record_at-is, put_record_is, plan-is, begun-is, file-is, count-is}
use Rattle.page.proofs.Laws.{told_is, body_is, place_is, body-by-is, place-by-is, file-text-is, text-by-is, file-text-made, text-by-made}
use Rattle.page.proofs.Laws.{weight-of-body-is, service-of-body-is, body-lines_are, body-text-is}
use Rattle.page.proofs.Laws.{draw-is, draw_if_is, state_if_is, drawn-is, called_is, handed-is, filled_is, filled-out-is, hands-load}
use Rattle.page.proofs.Laws.{hands-system}

pub ruleset leaves = (lowest-is, sum_is, difference-is, product_is, quotient_is, less-is, more-deserving-is)

pub ruleset reads = (vcpu-of-is, state-of-is, is-running-is, runtime-is, since-is, occupant-is, affinity-of-is, affinity-permits-is, busy-is, flight-is)

pub ruleset verdicts = (first_violation_is, sound-is)

pub ruleset calls = (request_is, offline-all-is, frame-of-is, in-place-is, hands-system)

pub ruleset policies = (account-is, weight_is, service-by-is, accounted-is, set-weight-is, set-wake-boost-is)

pub ruleset lines = (number_in_is, put-answer-is, past-answer-is, numbers-line-is, pcpu-line-is, usage-line-of, numbers-line-made, pcpu-line-made, usage-line-made)

pub ruleset scripts = (record_at-is, put_record_is, plan-is, begun-is)

pub ruleset files = (count-is, told_is, body_is, place_is, body-by-is, place-by-is, file-text-is, text-by-is, file-text-made, text-by-made, weight-of-body-is, service-of-body-is, body-lines_are, body-text-is, file-is)

pub ruleset loads = (draw-is, draw_if_is, state_if_is, drawn-is, called_is, handed-is, filled_is, filled-out-is, hands-load)
