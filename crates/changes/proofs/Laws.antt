-- What other crates cite of these proofs.

-- a refusal hands both records back as they are
pub use Rattle.changes.proofs.HandsBack.{tested-hands-back, stored-hands-back}
