-- What the records of a script come to: its latest build, the calls since, and what each record is told. What holds
-- of every script is proved as `as_played`.
use Rattle.std.specs.Prelude.{ℕ, zero, suc, ◌*◌, ◌%◌, ◌^◌, ◌<◌, Bool, true, false, cond, ◌&&◌, ◌≡◌, List, [], ◌∷◌, ◌++◌, length, drop}
use Rattle.big_endian.specs.Numbers.{AllBytes}
use Rattle.system.specs.declared.Answer.TheVariants.{Done}
use Rattle.system.specs.Answers.{told}
use Rattle.host.specs.declared.Host.{Host}
use Rattle.calls.specs.declared.Call.{Call}
use Rattle.host.specs.Step.{step, host_after, fresh_host}
use Rattle.demand3.specs.Book as book
use Rattle.demand3.specs.Lists.{AllTyped}
use Rattle.demand3.specs.Fresh as fresh
use Rattle.demand3.specs.Built.{asked}
use Rattle.demand3.specs.Demand3.{Demand-3}
use Rattle.text.specs.Lines.{answer_line}
use Rattle.records.specs.declared.Shape.{Shape}
use Rattle.records.specs.declared.Plan.{Plan}
use Rattle.records.specs.Records.{plan_of}
use Rattle.host_text.specs.HostText.{host_text}
use Rattle.script.specs.Script.{begun, script_after}
use Rattle.script.specs.Script as scripts

-- whether a host was built, the shape and slice of the latest build, and the calls since
pub record Played : Type 0 where
  pub built : Bool
  pub shape : Shape
  pub calls : List Call

-- before the first build: the host of nothing, and no call
abbrev pub nothing : Played
nothing =
    record {
      built = false;
      shape = record { num_domains = 0; vcpus_per_domain = 0; num_pcpus = 0; quantum = 0 };
      calls = [];
    }

-- one record more: a refused one is skipped, a build starts again, a call is in the list whatever the host tells it
abbrev pub with : Played → Plan → Played
with r (Plan.Refuse a) = r
with r (Plan.Build s) = record { built = true; shape = s; calls = [] }
with r (Plan.Call c) = record { built = r.built; shape = r.shape; calls = r.calls ++ (c ∷ []) }

-- what the record after n of them is for, given what the n came to
abbrev pub plan_at : Played → List ℕ → ℕ → Plan
plan_at r bs n = plan_of r.built (drop (n * 20) bs)

-- what the first n records of the bytes come to
unfoldable pub played : List ℕ → ℕ → Played
played bs zero = nothing
played bs (suc n) = with (played bs n) (plan_at (played bs n) bs n)

-- a host as built, its policy of the same shape; and after the calls
abbrev pub host_built : Shape → Host
host_built s =
    fresh_host s.num_domains s.vcpus_per_domain s.num_pcpus s.num_domains s.vcpus_per_domain s.quantum

abbrev pub host_of : Played → Host
host_of r = host_after (host_built r.shape) r.calls

-- what a record is told: the answer, and how many moves
abbrev pub answer_to : Played → Plan → ℕ
answer_to r (Plan.Refuse a) = told a
answer_to r (Plan.Build s) = told Done
answer_to r (Plan.Call c) = (step (host_of r) c).number

abbrev pub moves_of : Played → Plan → ℕ
moves_of r (Plan.Refuse a) = 0
moves_of r (Plan.Build s) = 0
moves_of r (Plan.Call c) = length (step (host_of r) c).moves

-- the line of record n + 1, and the whole host after it where the states are asked for
abbrev pub line_of : List ℕ → ℕ → List ℕ
line_of bs n =
    let p = plan_at (played bs n) bs n in
    answer_line (suc n % 2 ^ 64) (answer_to (played bs n) p) (moves_of (played bs n) p)

abbrev pub shown : Bool → Played → List ℕ
shown states r = cond (states && r.built) (host_text (host_of r).system (host_of r).scheduler) []

-- the text of the first n records
unfoldable pub written : Bool → List ℕ → ℕ → List ℕ
written states bs zero = []
written states bs (suc n) = written states bs n ++ (line_of bs n ++ shown states (played bs (suc n)))

-- the shape of a system, as demand 3 has it
abbrev pub shape_built : Shape → book.Shape
shape_built s = record { domains = s.num_domains; vcpus = s.vcpus_per_domain; pcpus = s.num_pcpus }

-- a shape within the sizes, with a slice of 64 bits
pub record Sized (s : Shape) : Type 0 where
  pub sizes : fresh.Sized (shape_built s)
  pub slice : s.quantum < 2 ^ 64

-- demand 3 over a list of calls, and that it speaks of the host as built, after every part of them
pub record Holds (s : Shape) (z : fresh.Sized (shape_built s)) (cs : List Call) : Type 0 where
  pub host : (before : List Call)
      → host_after (host_built s) before ≡ fresh.host_at (asked (shape_built s) s.quantum z) before
  pub holds : Demand-3 (asked (shape_built s) s.quantum z) cs

-- what holds after n records: what they come to decides the script that is held and the text, and demand 3 holds of it
pub record AsPlayed (bs : List ℕ) (n : ℕ) : Type 0 where
  -- the host that is held is the one that was built last, after the calls since
  pub script : script_after begun bs n
      ≡ record { number = n % 2 ^ 64; built = (played bs n).built; host = host_of (played bs n) }
  -- before a build it is the host of nothing
  pub unbuilt : (played bs n).built ≡ false → played bs n ≡ nothing
  -- each line tells its record's number, and what a call is told by the host that the calls before it leave
  pub text : (states : Bool) → scripts.text states begun bs n ≡ written states bs n
  -- what was built is within the sizes, and the calls fit their types
  pub sized : Sized (played bs n).shape
  pub typed : AllTyped (played bs n).calls
  -- demand 3, from the latest build on
  pub holds : Holds (played bs n).shape sized.sizes (played bs n).calls

abbrev pub EveryScript : Type 0
EveryScript = (bs : List ℕ) → AllBytes bs → (n : ℕ) → AsPlayed bs n
