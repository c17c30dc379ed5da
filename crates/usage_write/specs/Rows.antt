-- What is written of hosts, by hand: weights as looked up, run times with the part in flight, no offset; counts held at the sizes.
-- Assumes nothing.
use Rattle.std.specs.Prelude.{ℕ, ◌-◌, ◌^◌, true, refl, List, [], ◌∷◌}
use Rattle.rows.specs.Rows.{Row, rows, AllDue}
use Rattle.system.specs.declared.RunState.TheVariants.{Runnable, Running, Blocked}
use Rattle.system.specs.declared.System.{System}
use Rattle.system.specs.Records.{in_flight}
use Rattle.system.specs.Reads.{vcpu_at}
use Rattle.system.specs.Shape.{fresh}
use Rattle.system.specs.Writes.{put_vcpu}
use Rattle.policy.specs.declared.Scheduler.{Scheduler}
use Rattle.policy.specs.Accounts.{account_at, account_of, put_account, fresh_policy}
use Rattle.usage.specs.Rows.{is}
use Rattle.usage_layout.specs.Layout.{Figures}
use Rattle.usage_write.specs.Written.{figures_of}

-- 2 domains of 2 vCPUs: 0/0 runs, 0/1 is Blocked, 1/0 waits, 1/1 is Offline; each was last dispatched at 100
abbrev host : System
host = is 0 0 (Running 0) 5 (is 0 1 Blocked 7 (is 1 0 Runnable (2 ^ 64 - 1) (fresh 2 2 1)))

-- a weight, and an offset of 9 that is not to be seen
abbrev weighs : ℕ → ℕ → ℕ → Scheduler → Scheduler
weighs d v w π = put_account π d v (record { weight = w; offset = 9 ∷ 0 ∷ 0 ∷ 0 ∷ []; was_schedulable = true })

-- of domain 0 alone, whose 0/0 has twice the standard share; a weight of 0, as a damaged policy has, reads as 1
abbrev policy : Scheduler
policy = weighs 0 0 512 (weighs 0 1 0 (fresh_policy 1 2 10))

-- counts above the sizes, with the same records
abbrev damaged : System
damaged = record { domain_count = 17; vcpus_per_domain = 9; pcpu_count = 65; vcpus = host.vcpus; pcpus = host.pcpus }

-- the counts, then the weights and services of 0/0, 0/1, 1/0 and 1/1
abbrev all : Figures → List ℕ
all f =
    f.domains
    ∷ f.vcpus
    ∷ f.weight 0 0
    ∷ f.service 0 0
    ∷ f.weight 0 1
    ∷ f.service 0 1
    ∷ f.weight 1 0
    ∷ f.service 1 0
    ∷ f.weight 1 1
    ∷ f.service 1 1
    ∷ []

abbrev pub written : List Row
written =
    rows (all (figures_of host policy 130)) (2 ∷ 2 ∷ 512 ∷ 35 ∷ 1 ∷ 7 ∷ 256 ∷ (2 ^ 64 - 1) ∷ 256 ∷ 0 ∷ [])
    -- at the dispatch and before it nothing is in flight
    ∷ rows (all (figures_of host policy 100)) (2 ∷ 2 ∷ 512 ∷ 5 ∷ 1 ∷ 7 ∷ 256 ∷ (2 ^ 64 - 1) ∷ 256 ∷ 0 ∷ [])
    ∷ rows (all (figures_of host policy 0)) (2 ∷ 2 ∷ 512 ∷ 5 ∷ 1 ∷ 7 ∷ 256 ∷ (2 ^ 64 - 1) ∷ 256 ∷ 0 ∷ [])
    ∷ rows (all (figures_of damaged policy 130)) (16 ∷ 8 ∷ 512 ∷ 35 ∷ 1 ∷ 7 ∷ 256 ∷ (2 ^ 64 - 1) ∷ 256 ∷ 0 ∷ [])
    ∷ []

pub written-due : AllDue written
unfolding figures_of vcpu_at in_flight fresh put_vcpu account_at account_of put_account fresh_policy
written-due = refl
