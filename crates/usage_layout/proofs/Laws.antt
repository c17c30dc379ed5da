-- What other crates cite of these proofs.

-- parts of one length, one behind the other
pub use Rattle.usage_layout.proofs.Each.{each-length}
-- the file that figures make
pub use Rattle.usage_layout.proofs.Parts.{entry_length, vcpu-length}
pub use Rattle.usage_layout.proofs.HasFile.{file-short, has-file}
-- what the first slots write of it
pub use Rattle.usage_layout.proofs.Slots.{upto, upto-none, upto_all, upto-length, upto_next, upto_stays}
-- bytes that are accepted
pub use Rattle.usage_layout.proofs.Accepted.{accepted-parts}
pub use Rattle.usage_layout.proofs.Same.{same-file, accepted-file}
