-- What other crates cite of these proofs.

-- whatever is called, a sound system stays sound, and one that is not stays as it is
pub use Rattle.host.proofs.Verdicts.{Kept, step_kept}
-- which call is told that it found its vCPU in which state
pub use Rattle.host.proofs.FoundStates.{step-found}
