-- What a request does to a vCPU, by its record alone, and what the change leaves.
use Rattle.std.specs.Prelude.{ℕ, Bool, true, cond, Result, Ok, Err, ltb}
use Rattle.masks.specs.Masks.{permits, full_mask, clipped}
use Rattle.system.specs.declared.RunState.{RunState}
use Rattle.system.specs.declared.RunState.TheVariants.{Offline, Runnable, Running, Blocked}
use Rattle.system.specs.declared.VirtualCpu.{VirtualCpu}
use Rattle.system.specs.declared.Occupant.{Occupant}
use Rattle.system.specs.declared.Occupant.TheVariants.{Idle}
use Rattle.system.specs.declared.PhysicalCpu.{PhysicalCpu}
use Rattle.system.specs.declared.Answer.{Answer}
use Rattle.system.specs.declared.Answer.TheVariants.{Done, PcpuBusy, NotAffine}
use Rattle.system.specs.declared.Answer.TheVariants.{FoundOffline, FoundRunnable, FoundRunning, FoundBlocked}
use Rattle.system.specs.Records.{with_mask}
use Rattle.system.specs.Reads.{is_idle}
use Rattle.calls.specs.declared.Request.{Request}
use Rattle.changes.specs.declared.Change.{Change}
use Rattle.changes.specs.declared.Change.TheVariants.{Write, Enter, Leave}
use Rattle.changes.specs.declared.After.{After}
use Rattle.changes.specs.Records.{with_state, dispatched, left, forgotten}

-- what is told of a vCPU found in a state that the call does not accept
abbrev pub found_in : RunState → Answer
found_in Offline = FoundOffline
found_in Runnable = FoundRunnable
found_in (Running p) = FoundRunning
found_in Blocked = FoundBlocked

-- admit: of one Offline
abbrev pub admitted : VirtualCpu → RunState → Result Change Answer
admitted v Offline = Ok (Write (with_state v Runnable))
admitted v Runnable = Err (found_in Runnable)
admitted v (Running p) = Err (found_in (Running p))
admitted v Blocked = Err (found_in Blocked)

-- run onto pCPU p: of one Runnable, that the mask admits
abbrev pub ran : VirtualCpu → ℕ → ℕ → RunState → Result Change Answer
ran v p now Offline = Err (found_in Offline)
ran v p now Runnable = cond (permits v.affinity p) (Ok (Enter (dispatched v p now) p)) (Err NotAffine)
ran v p now (Running q) = Err (found_in (Running q))
ran v p now Blocked = Err (found_in Blocked)

-- preempt: of one Running
abbrev pub preempted : VirtualCpu → ℕ → RunState → Result Change Answer
preempted v now Offline = Err (found_in Offline)
preempted v now Runnable = Err (found_in Runnable)
preempted v now (Running p) = Ok (Leave (left v Runnable now) p)
preempted v now Blocked = Err (found_in Blocked)

-- block: of one Runnable or Running
abbrev pub blocked : VirtualCpu → ℕ → RunState → Result Change Answer
blocked v now Offline = Err (found_in Offline)
blocked v now Runnable = Ok (Write (with_state v Blocked))
blocked v now (Running p) = Ok (Leave (left v Blocked now) p)
blocked v now Blocked = Err (found_in Blocked)

-- wake: of one Blocked
abbrev pub woken : VirtualCpu → RunState → Result Change Answer
woken v Offline = Err (found_in Offline)
woken v Runnable = Err (found_in Runnable)
woken v (Running p) = Err (found_in (Running p))
woken v Blocked = Ok (Write (with_state v Runnable))

-- a new mask must not exclude the pCPU that the vCPU is Running on
abbrev pub masked : VirtualCpu → ℕ → RunState → Result Change Answer
masked v m Offline = Ok (Write (with_mask v m))
masked v m Runnable = Ok (Write (with_mask v m))
masked v m (Running p) = cond (permits m p) (Ok (Write (with_mask v m))) (Err NotAffine)
masked v m Blocked = Ok (Write (with_mask v m))

-- offline: of one not Offline; the mask is filled again, no pCPU is the last, the run time is kept
abbrev pub offlined : VirtualCpu → ℕ → ℕ → RunState → Result Change Answer
offlined v full now Offline = Err (found_in Offline)
offlined v full now Runnable = Ok (Write (forgotten (with_state v Offline) full))
offlined v full now (Running p) = Ok (Leave (forgotten (left v Offline now) full) p)
offlined v full now Blocked = Ok (Write (forgotten (with_state v Offline) full))

-- what a request does to a vCPU whose record is v, on a host of n pCPUs, or why it is refused: a new mask is clipped to them
abbrev pub changed : Request → ℕ → VirtualCpu → Result Change Answer
changed Request.Admit n v = admitted v v.state
changed (Request.Run p now) n v = ran v p now v.state
changed (Request.Preempt now) n v = preempted v now v.state
changed (Request.Block now) n v = blocked v now v.state
changed Request.Wake n v = woken v v.state
changed (Request.SetAffinity m) n v = masked v (clipped m n) v.state
changed (Request.Offline now) n v = offlined v (full_mask n) now v.state

-- the pCPU that a run asks for is one of n; the other requests ask for none
abbrev pub reaches : Request → ℕ → Bool
reaches Request.Admit n = true
reaches (Request.Run p now) n = ltb p n
reaches (Request.Preempt now) n = true
reaches (Request.Block now) n = true
reaches Request.Wake n = true
reaches (Request.SetAffinity m) n = true
reaches (Request.Offline now) n = true

-- a refusal hands the records back as they are
abbrev pub kept : Answer → VirtualCpu → PhysicalCpu → After
kept a v c = record { answer = a; vcpu = v; pcpu = c }

-- what a change of the vCPU who, or its refusal, tells, and what it leaves at its slot, where v stood, and at its pCPU, where c stood
abbrev pub stored : Result Change Answer → Occupant → VirtualCpu → PhysicalCpu → After
stored (Err a) who v c = kept a v c
stored (Ok (Write w)) who v c = record { answer = Done; vcpu = w; pcpu = c }
stored (Ok (Enter w p)) who v c =
    cond (is_idle c.occupant) (record { answer = Done; vcpu = w; pcpu = record { occupant = who } }) (kept PcpuBusy v c)
stored (Ok (Leave w p)) who v c = record { answer = Done; vcpu = w; pcpu = record { occupant = Idle } }
