-- What other crates cite of these proofs: what the code's contracts say is the page's.

-- the leaves
pub use Rattle.page.proofs.Leaves.{lowest-is, sum_is, difference-is, product_is, quotient_is, less-is}
pub use Rattle.page.proofs.Leaves.{more-deserving-is, whole_is}
-- the reads, and the verdicts
pub use Rattle.page.proofs.ReadLaws.{vcpu-of-is, state-of-is, is-running-is, runtime-is, since-is, occupant-is}
pub use Rattle.page.proofs.ReadLaws.{affinity-of-is, affinity-permits-is, busy-is, usage-is}
pub use Rattle.page.proofs.Verdict.{first_violation_is, sound-is}
-- the calls, and the policy's own
pub use Rattle.page.proofs.Calls.{request_is, offline-all-is}
pub use Rattle.page.proofs.InPlace.{pcpu-read-is, frame-of-is, effect_does, in-place-is}
pub use Rattle.page.proofs.Standing.{account-is, weight_is, flight-is, service-by-is}
pub use Rattle.page.proofs.Accounting.{accounted-is}
pub use Rattle.page.proofs.Policy.{set-weight-is, set-wake-boost-is}
-- lines, records and scripts
pub use Rattle.page.proofs.NumberLaws.{number_in_is}
pub use Rattle.page.proofs.LineLaws.{put-answer-is, past-answer-is}
pub use Rattle.page.proofs.LineLaws.{numbers-line-is, pcpu-line-is, usage-line-of, numbers-line-made, pcpu-line-made, usage-line-made}
pub use Rattle.page.proofs.ScriptLaws.{record_at-is, put_record_is, plan-is, begun-is, replayed-is, output-is, example-is}
-- usage files, and what 2.3 says of them
pub use Rattle.page.proofs.UsageFileLaws.{file-is, written_is}
pub use Rattle.page.proofs.UsageAccepted.{count-is}
pub use Rattle.page.proofs.UsageReadLaws.{told_is, body_is, place_is, told-by-is, body-by-is, place-by-is}
pub use Rattle.page.proofs.UsageTextLaws.{weight-of-body-is, service-of-body-is, body-lines_are, body-text-is}
pub use Rattle.page.proofs.UsageTextLaws.{weight-of-is, service-of-is, domain-text-is, file-text-is, text-by-is}
pub use Rattle.page.proofs.UsageTextLaws.{file-text-made, text-by-made}
pub use Rattle.page.proofs.UsageExact.{written-says, exactly, every-choice, no_two-alike}
-- loads
pub use Rattle.page.proofs.DrawLaws.{draw-is, draw_if_is, state_if_is, drawn-is, called_is}
pub use Rattle.page.proofs.LoadLaws.{handed-is, filled_is, filled-out-is, script-is, handed_out_lem, hands-load}
-- what is handed back
pub use Rattle.page.proofs.Handed.{hands-system, hands-new-system, hands-new-policy, hands-new-host}
pub use Rattle.page.proofs.Handed.{hands-decision, hands-advance, hands-step}
