-- What other crates cite of these proofs.

-- a test against a count that was read is the test of the definition
pub use Rattle.system.proofs.HeldCounts.{below, beyond}
