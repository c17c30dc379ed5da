-- What other crates cite of these proofs.

-- the decision depends only on what is known of the slots below n that wait or are expired, and of the pCPUs
pub use Rattle.moves.proofs.DecideCong.{Alike, decide_cong}
