-- What other crates cite of these proofs.

-- what these laws ask of a policy
pub use Rattle.policy.specs.Accounts.{Tabled}
-- what is looked up after an account was put
pub use Rattle.policy.proofs.AccountPuts.{covers_below, put_same}
-- what setting a weight, and clearing the offsets, leave
pub use Rattle.policy.proofs.SettingLaws.{set-weighed, set-weight-either, set-weight-tabled, cleared, cleared-tabled}
-- what a vCPU has that nothing was set for, and how it ranks
pub use Rattle.policy.proofs.DefaultLaws.{ranks-at, new-account, new-tabled, defaults}
-- what accounting leaves, and that it leaves all where nobody joined the pool or left it
pub use Rattle.policy.proofs.RenewalLaws.{renew_same, accounted-renewal}
pub use Rattle.policy.proofs.RenewalLoop.{renews-nothing}
-- what the code reads at a slot is the account there
pub use Rattle.policy.proofs.AccountReads.{zeros, stored}
-- a slot's vCPU id, tested against a count that is held at 8
pub use Rattle.policy.proofs.Ids.{vcpu-below, vcpu-beyond}
