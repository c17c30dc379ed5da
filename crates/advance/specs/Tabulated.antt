-- The row that a decision goes by, under the service policy.
use Rattle.std.specs.Prelude.{ℕ, Bool, false}
use Rattle.service.specs.Service.{held}
use Rattle.system.specs.declared.RunState.TheVariants.{Runnable}
use Rattle.system.specs.declared.VirtualCpu.{VirtualCpu}
use Rattle.changes.specs.Records.{left}
use Rattle.moves.specs.declared.Row.{Row}
use Rattle.policy.specs.declared.Account.{Account}
use Rattle.policy.specs.Accounts.{used_weight}
use Rattle.policy.specs.Standing.{service_of}
use Rattle.settling.specs.Standings.{standing_of}
use Rattle.settling.specs.TableOf.{row_of, stored_by}

-- of v, with account a; nobody is barred
abbrev pub service_row : VirtualCpu → Account → Bool → ℕ → ℕ → Row
service_row v a present slice now =
    let standing = standing_of present false slice now v in
    stored_by standing
    (row_of standing (used_weight a) (held (service_of v a now)) (held (service_of (left v Runnable now) a now)) v)
