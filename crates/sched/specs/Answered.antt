-- Every call on every system, damaged or not: a listed number is told, and a refused call changes nothing. Assumes nothing.
use Rattle.std.specs.Prelude.{ℕ, Bool, true, false, ◌≡◌, refl, Result, Ok, Err, ltb}
use Rattle.system.specs.declared.System.{System}
use Rattle.system.specs.declared.Answer.{Answer}
use Rattle.system.specs.declared.Answer.TheVariants.{Done, BadDomain, BadVcpu, BadPcpu, PcpuBusy, Unsound}
use Rattle.system.specs.Answers.{told, SystemOutcome}
use Rattle.system.specs.Reads.{occupant_at, is_idle, vcpu_count}
use Rattle.system.specs.Slots.{domains, vcpus, pcpus, slot}
use Rattle.verdict.specs.Violations.{invariants_hold}
use Rattle.changes.specs.Changes.{reaches}
use Rattle.calls.specs.declared.Request.{Request}
use Rattle.changes.specs.declared.Change.{Change}
use Rattle.changes.specs.declared.Change.TheVariants.{Write, Enter, Leave}
use Rattle.sched.specs.Steps.{refused, applied, tested, requested, offline_first, offline_all}

-- a listed answer is told, and a number other than 0 leaves the system as it was
pub record Answered (s : System) (r : SystemOutcome) : Type 0 where
  pub answer : Answer
  pub listed : r.number ≡ told answer
  pub refused : (r.number ≡ told Done → ⊥) → r.system ≡ s

told-refused : (s : System) (a : Answer) → Answered s (refused a s)
told-refused s a = record { answer = a; listed = refl; refused = λ n. refl }

told-done : (s t : System) → Answered s (record { number = told Done; system = t })
told-done s t = record { answer = Done; listed = refl; refused = λ n. absurd (n refl) }

tested-answered : (s : System) (b : Bool) (a : Answer) {r : SystemOutcome} → Answered s r → Answered s (tested b a s r)
tested-answered s true a h = h
tested-answered s false a h = told-refused s a

applied-answered : (s : System) (i : ℕ) (c : Result Change Answer) → Answered s (applied s i c)
unfolding applied
applied-answered s i (Err a) = told-refused s a
applied-answered s i (Ok (Write v)) = told-done s _
applied-answered s i (Ok (Enter v p)) = tested-answered s (is_idle (occupant_at s p)) PcpuBusy (told-done s _)
applied-answered s i (Ok (Leave v p)) = told-done s _

pub requested-answered : (s : System) (d v : ℕ) (q : Request) → Answered s (requested s d v q)
unfolding requested
requested-answered s d v q =
    tested-answered s (invariants_hold s) Unsound
    (tested-answered s (reaches q (pcpus s)) BadPcpu
    (tested-answered s (ltb d (domains s)) BadDomain
    (tested-answered s (ltb v (vcpus s)) BadVcpu
    (applied-answered s (slot d v) _))))

pub offline-all-answered : (s : System) (d now : ℕ) → Answered s (offline_all s d now)
unfolding offline_all
offline-all-answered s d now = tested-answered s (invariants_hold s) Unsound (told-done s (offline_first s d now (vcpu_count s d)))
