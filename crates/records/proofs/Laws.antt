-- What other crates cite of these proofs. Assumes nothing.

-- a record is 20 bytes, and read back from them
pub use Rattle.records.proofs.ReadBack.{record_length, read_back, plan-back}
