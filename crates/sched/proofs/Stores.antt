-- What the stores of a change leave is what the definition says. Assumes nothing.
use Prim.Native.Nat.{ℕ, ◌/◌, ◌%◌}
use mathlib.Core.Bool.{Bool, true, false, cond}
use mathlib.Core.Path.{◌≡◌, refl, sym}
use lib.ListN.{get_or}
use lib.Seq.{set-get_or}
use Rattle.system.specs.declared.VirtualCpu.{VirtualCpu}
use Rattle.system.specs.declared.Occupant.{Occupant}
use Rattle.system.specs.declared.Occupant.TheVariants.{Vcpu}
use Rattle.system.specs.declared.PhysicalCpu.{PhysicalCpu}
use Rattle.system.specs.declared.System.{System}
use Rattle.std.specs.Prelude.{Result, Ok, Err}
use Rattle.system.specs.declared.Answer.{Answer}
use Rattle.system.specs.declared.Answer.TheVariants.{PcpuBusy}
use Rattle.system.specs.Answers.{SystemOutcome}
use Rattle.system.specs.Shape.{no_vcpu, idle}
use Rattle.system.specs.Reads.{occupant_at, is_idle}
use Rattle.system.specs.Writes.{put_vcpu, put_occupant}
use Rattle.changes.specs.Changes.{kept, stored}
use Rattle.changes.specs.declared.Change.{Change}
use Rattle.changes.specs.declared.Change.TheVariants.{Write, Enter, Leave}
use Rattle.changes.specs.declared.After.{After}
use Rattle.sched.specs.Steps.{applied, refused, tested}
use Rattle.sched.specs.RequestInPlace.{stores}
use Rattle.sched.proofs.About.{About}

module _ (s : System) (i p : ℕ) where
  abbrev x : VirtualCpu
  x = get_or s.vcpus i no_vcpu

  abbrev c : PhysicalCpu
  c = get_or s.pcpus p idle

  abbrev who : Occupant
  who = Vcpu (i / 8) (i % 8)

  -- a refusal stores what is there
  stores-kept : (a : Answer) → stores s i p (kept a x c) ≡ refused a s
  stores-kept a = rw (set-get_or s.vcpus i no_vcpu, set-get_or s.pcpus p idle)

  pub stores-tested : (b : Bool) (a : Answer) (e : After) (r : SystemOutcome) → (b ≡ true → stores s i p e ≡ r)
      → stores s i p (cond b e (kept a x c)) ≡ tested b a s r
  stores-tested true a e r f = f refl
  stores-tested false a e r f = stores-kept a

  -- at any index p, if it is the change's where that has one: else it stores there what is there
  pub stores-applied : (y : Result Change Answer) → About y p → stores s i p (stored y who x c) ≡ applied s i y
  unfolding applied put_vcpu put_occupant occupant_at
  stores-applied (Err a) h = stores-kept a
  stores-applied (Ok (Write v)) h = rw (set-get_or s.pcpus p idle)
  stores-applied (Ok (Enter v q)) h = rw (sym h) (stores-tested (is_idle c.occupant) PcpuBusy _ _ (λ e. refl))
  stores-applied (Ok (Leave v q)) h = rw (sym h)
