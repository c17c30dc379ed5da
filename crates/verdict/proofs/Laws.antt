-- What other crates cite of these proofs.

-- what a test of soundness keeps, slot by slot, and its verdict
pub use Rattle.verdict.proofs.Testing.{fits, Testing, testing_starts, testing_rests, testing_backed, testing_broken}
pub use Rattle.verdict.proofs.Testing.{testing_verdict, testing_unsound}
