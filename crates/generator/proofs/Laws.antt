-- What other crates cite of these proofs.

-- no draw leaves the 64 bits, and from a state that is not 0 none leads to 0
pub use Rattle.generator.proofs.Nonzero.{after-below, after-nonzero, draws-below, draws-nonzero}
