-- A call that is refused for its vCPU's state tells that state, as `state_of` reads it before the call: of every request and every
-- system, damaged or not. Assumes nothing.
use Rattle.std.specs.Prelude.{ℕ, Bool, true, false, ◌≡◌, refl, Option, None, Some, Result, Ok, Err, ltb}
use Rattle.std.proofs.Math.Path.{subst}
use Rattle.std.proofs.Common.{arith}
use Rattle.system.specs.declared.RunState.{RunState}
use Rattle.system.specs.declared.System.{System}
use Rattle.system.specs.declared.Answer.{Answer}
use Rattle.system.specs.declared.Answer.TheVariants.{BadDomain, BadVcpu, BadPcpu, PcpuBusy, Unsound}
use Rattle.system.specs.Answers.{told, SystemOutcome}
use Rattle.system.specs.Reads.{vcpu_at, occupant_at, is_idle, vcpu_of, state_of}
use Rattle.system.specs.Slots.{domains, vcpus, pcpus, slot}
use Rattle.verdict.specs.Violations.{invariants_hold}
use Rattle.calls.specs.declared.Request.{Request}
use Rattle.changes.specs.declared.Change.{Change}
use Rattle.changes.specs.declared.Change.TheVariants.{Write, Enter, Leave}
use Rattle.changes.specs.Changes.{changed, reaches}
use Rattle.changes.specs.StateTold.{TellsState, unfound, done-tells, unsound-tells, RefusalTells, changed-tells}
use Rattle.sched.specs.Steps.{tested, applied, requested, offline_all}

module _ (s : System) where
  tested-tells : (m : Option RunState) (b : Bool) (a : Answer) (r : SystemOutcome)
      → TellsState m (told a) → (b ≡ true → TellsState m r.number) → TellsState m (tested b a s r).number
  tested-tells m true a r t f = f refl
  tested-tells m false a r t f = t

  applied-tells : (i : ℕ) (st : RunState) (c : Result Change Answer) → RefusalTells st c → TellsState (Some st) (applied s i c).number
  unfolding applied
  applied-tells i st (Err a) t = t
  applied-tells i st (Ok (Write v)) t = done-tells (Some st)
  applied-tells i st (Ok (Enter v p)) t =
      tested-tells (Some st) (is_idle (occupant_at s p)) PcpuBusy _ (unfound (Some st) (told PcpuBusy) (λ e. omega arith) (omega arith))
      (λ e. done-tells (Some st))
  applied-tells i st (Ok (Leave v p)) t = done-tells (Some st)

  state-read : (d v : ℕ) → ltb d (domains s) ≡ true → ltb v (vcpus s) ≡ true → Some (vcpu_at s (slot d v)).state ≡ state_of s d v
  unfolding vcpu_of
  state-read d v a b = rw (a, b)

  pub requested-tells : (d v : ℕ) (q : Request) → TellsState (state_of s d v) (requested s d v q).number
  unfolding requested
  requested-tells d v q =
      let m = state_of s d v in
      tested-tells m (invariants_hold s) Unsound _ (unsound-tells m) λ a.
      tested-tells m (reaches q (pcpus s)) BadPcpu _ (unfound m (told BadPcpu) (λ e. omega arith) (omega arith)) λ b.
      tested-tells m (ltb d (domains s)) BadDomain _ (unfound m (told BadDomain) (λ e. omega arith) (omega arith)) λ c.
      tested-tells m (ltb v (vcpus s)) BadVcpu _ (unfound m (told BadVcpu) (λ e. omega arith) (omega arith)) λ e.
      let x = vcpu_at s (slot d v) in
      let change = changed q s.pcpu_count x in
      subst (λ (found : Option RunState). TellsState found (applied s (slot d v) change).number) (state-read d v c e)
      (applied-tells (slot d v) x.state change (changed-tells x q s.pcpu_count))

  -- it names no vCPU
  pub offline-all-tells : (d now : ℕ) → TellsState None (offline_all s d now).number
  unfolding offline_all
  offline-all-tells d now =
      tested-tells None (invariants_hold s) Unsound _ (unsound-tells None) (λ e. done-tells None)
