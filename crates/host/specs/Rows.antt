-- Each call of a host does what it names, as the requirements have it: worked out by hand. Assumes nothing.
use Rattle.std.specs.Prelude.{ℕ, ◌+◌, true, false, refl, List, [], ◌∷◌}
use Rattle.rows.specs.Rows.{Row, row, rows, test, AllDue}
use Rattle.system.specs.declared.RunState.{RunState}
use Rattle.system.specs.declared.RunState.TheVariants.{Offline, Runnable, Running, Blocked}
use Rattle.system.specs.Reads.{vcpu_at, state_at}
use Rattle.policy.specs.Accounts.{weight_of}
use Rattle.host.specs.declared.Host.{Host}
use Rattle.calls.specs.declared.Call.{Call}
use Rattle.calls.specs.declared.Request.{Request}
use Rattle.host.specs.Computing.{computing}
use Rattle.host.specs.Outcomes.{HostOutcome, step_counted, built_host}
use Rattle.host.specs.Step.{step, host_after, fresh_host}

-- ---- what is read

abbrev state : RunState → ℕ
state Offline = 0
state Runnable = 1
state Blocked = 2
state (Running p) = 3 + p

-- the states of 0/0 and 0/1; the run time, the mask and the weight of 0/1; whether boost is on
abbrev read : Host → List ℕ
read h =
    state (state_at h.system 0) ∷ state (state_at h.system 1) ∷ (vcpu_at h.system 1).runtime ∷ (vcpu_at h.system 1).affinity
    ∷ weight_of h.scheduler 0 1 ∷ test h.scheduler.wake_boost ∷ []

-- what a build is told; the shape of the system; the shape of the policy and its slice
abbrev built : HostOutcome → List ℕ
built r =
    r.number ∷ r.host.system.domain_count ∷ r.host.system.vcpus_per_domain ∷ r.host.system.pcpu_count
    ∷ r.host.scheduler.domain_count ∷ r.host.scheduler.vcpus_per_domain ∷ r.host.scheduler.quantum ∷ []

-- ---- one domain of two vCPUs on two pCPUs, slice 10

abbrev host : List Call → Host
host cs = host_after (fresh_host 1 2 2 1 2 10) cs

-- 0/1 waits, or holds pCPU 1 from 5 on
abbrev waits : List Call → Host
waits cs = host (Call.Ask 0 1 Request.Admit ∷ cs)

abbrev runs : List Call → Host
runs cs = host (Call.Ask 0 1 Request.Admit ∷ Call.Ask 0 1 (Request.Run 1 5) ∷ cs)

abbrev pub table : List Row
table =
    rows (read (waits [])) (0 ∷ 1 ∷ 0 ∷ 3 ∷ 256 ∷ 1 ∷ [])
    ∷ rows (read (runs [])) (0 ∷ 4 ∷ 0 ∷ 3 ∷ 256 ∷ 1 ∷ [])
    -- off its pCPU at 12 it has run for 7
    ∷ rows (read (runs (Call.Ask 0 1 (Request.Preempt 12) ∷ []))) (0 ∷ 1 ∷ 7 ∷ 3 ∷ 256 ∷ 1 ∷ [])
    ∷ rows (read (runs (Call.Ask 0 1 (Request.Block 12) ∷ []))) (0 ∷ 2 ∷ 7 ∷ 3 ∷ 256 ∷ 1 ∷ [])
    ∷ rows (read (runs (Call.Ask 0 1 (Request.Block 12) ∷ Call.Ask 0 1 Request.Wake ∷ []))) (0 ∷ 1 ∷ 7 ∷ 3 ∷ 256 ∷ 1 ∷ [])
    -- offline fills the mask again, of one vCPU or of a whole domain
    ∷ rows (read (runs (Call.Ask 0 1 (Request.SetAffinity 2) ∷ []))) (0 ∷ 4 ∷ 0 ∷ 2 ∷ 256 ∷ 1 ∷ [])
    ∷ rows (read (runs (Call.Ask 0 1 (Request.SetAffinity 2) ∷ Call.Ask 0 0 Request.Admit ∷ Call.Ask 0 1 (Request.Offline 12) ∷ []))) (1 ∷ 0 ∷ 7 ∷ 3 ∷ 256 ∷ 1 ∷ [])
    ∷ rows (read (runs (Call.Ask 0 1 (Request.SetAffinity 2) ∷ Call.Ask 0 0 Request.Admit ∷ Call.OfflineAll 0 12 ∷ []))) (0 ∷ 0 ∷ 7 ∷ 3 ∷ 256 ∷ 1 ∷ [])
    ∷ rows (read (host (Call.SetWeight 0 1 5 ∷ []))) (0 ∷ 0 ∷ 0 ∷ 3 ∷ 5 ∷ 1 ∷ [])
    ∷ rows (read (host (Call.SetWakeBoost false ∷ []))) (0 ∷ 0 ∷ 0 ∷ 3 ∷ 256 ∷ 0 ∷ [])
    ∷ rows (read (host (Call.SetWakeBoost false ∷ Call.SetWakeBoost true ∷ []))) (0 ∷ 0 ∷ 0 ∷ 3 ∷ 256 ∷ 1 ∷ [])
    -- each goes onto the lowest-numbered idle pCPU, 0/0 first: two moves are counted
    ∷ rows (read (waits (Call.Ask 0 0 Request.Admit ∷ Call.Advance 5 ∷ []))) (3 ∷ 4 ∷ 0 ∷ 3 ∷ 256 ∷ 1 ∷ [])
    ∷ row (step_counted (step (waits (Call.Ask 0 0 Request.Admit ∷ [])) (Call.Advance 5))).count 2
    -- a policy of the system's shape; a shape above the sizes is told 7
    ∷ rows (built (built_host 2 3 4 10)) (0 ∷ 2 ∷ 3 ∷ 4 ∷ 2 ∷ 3 ∷ 10 ∷ [])
    ∷ rows (built (built_host 17 3 4 10)) (7 ∷ 0 ∷ 0 ∷ 0 ∷ 0 ∷ 0 ∷ 0 ∷ [])
    ∷ []

pub rows-due : AllDue table
unfolding computing
rows-due = refl
