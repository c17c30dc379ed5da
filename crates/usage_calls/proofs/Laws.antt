-- What other crates cite of these proofs.

-- a call leaves what every domain used up to its clock as it was
pub use Rattle.usage_calls.proofs.AtItsClock.{step-usage}
