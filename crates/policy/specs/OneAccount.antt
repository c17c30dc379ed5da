-- Accounting by the records of one vCPU: whether it joined the pool, who leads once it was compared, and its account renewed.
use Rattle.std.specs.Prelude.{ℕ, zero, suc, ◌/◌, ◌%◌, max, Bool, true, false, cond, not, ◌&&◌, ◌||◌, List, Option, None, Some}
use Rattle.service.specs.Service.{value, held, more_deserving}
use Rattle.system.specs.declared.VirtualCpu.{VirtualCpu}
use Rattle.system.specs.declared.System.{System}
use Rattle.system.specs.Reads.{vcpu_at}
use Rattle.system.specs.Slots.{present}
use Rattle.system.specs.States.{schedulable}
use Rattle.scans.specs.Scan.{Pick, nobody, at}
use Rattle.policy.specs.declared.Account.{Account}
use Rattle.policy.specs.declared.Share.{Share}
use Rattle.policy.specs.declared.Scheduler.{Scheduler}
use Rattle.policy.specs.Accounts.{account_at, account_of, put_account, used_weight}
use Rattle.policy.specs.Standing.{weight_at, service_of, service_at}
use Rattle.policy.specs.Accounting.{lift}

-- v is in the pool, and was not at the last snapshot
abbrev pub joins : VirtualCpu → Account → Bool
joins v a = schedulable v.state && not a.was_schedulable

-- one of the first n slots has a vCPU that joined, by the account that is kept there
unfoldable pub some_join : System → Scheduler → ℕ → Bool
some_join s π zero = false
some_join s π (suc n) = (present s n && joins (vcpu_at s n) (account_at π n)) || some_join s π n

-- that share comes before the floor so far
abbrev pub undercuts : Share → Option Share → Bool
undercuts l None = true
undercuts l (Some best) = more_deserving (value l.service) l.weight (value best.service) best.weight

-- who leads once v was compared
abbrev pub leader : Option Share → VirtualCpu → Account → ℕ → Option Share
leader best v a now =
    let l : Share = record { service = held (service_of v a now); weight = used_weight a } in
    cond (schedulable v.state && a.was_schedulable) (cond (undercuts l best) (Some l) best) best

-- the service and weight of the pick
abbrev pub share_of : System → Scheduler → ℕ → Pick → Option Share
share_of s π now nobody = None
share_of s π now (at f) = Some (record { service = held (service_at s π now f); weight = weight_at π f })

-- the offset that places a vCPU of that weight and run time at the floor; a divisor of 0 reads as 1
abbrev pub lifted_to : Share → ℕ → ℕ → List ℕ
lifted_to f weight runtime = held (lift (value f.service) (max f.weight 1) weight runtime)

-- the offset of one that joined: no floor, and the old one stays
abbrev pub placed_at : Option Share → Account → ℕ → List ℕ
placed_at None a runtime = a.offset
placed_at (Some f) a runtime = lifted_to f (used_weight a) runtime

-- a vCPU's account, renewed
abbrev pub renewed_at : VirtualCpu → Account → Option Share → Account
renewed_at v a f =
    record {
      weight = a.weight;
      offset = cond (joins v a) (placed_at f a v.runtime) a.offset;
      was_schedulable = schedulable v.state;
    }

-- the accounts of the first n slots renewed, with that floor
unfoldable pub renew_by : System → Scheduler → Option Share → ℕ → Scheduler
renew_by s π f zero = π
renew_by s π f (suc n) =
    let ρ = renew_by s π f n in
    cond (present s n) (put_account ρ (n / 8) (n % 8) (renewed_at (vcpu_at s n) (account_of ρ (n / 8) (n % 8)) f)) ρ
