-- What is promised of loads. Each statement is proved in proofs/, under the name that stands before it.
use Rattle.std.specs.Prelude.{ℕ, ◌+◌, ◌%◌, ◌^◌, ◌≤◌, ◌<◌, None, Some, true, false, ◌≡◌, List, [], ◌++◌, length}
use Rattle.system.specs.declared.Answer.TheVariants.{Done, TooLarge, BadSeed}
use Rattle.system.specs.Answers.{told}
use Rattle.system.specs.Shape.{within_sizes}
use Rattle.records.specs.declared.Shape.{Shape}
use Rattle.records.specs.Bytes.{FitsRecord, record_bytes}
use Rattle.load_calls.specs.Calls.{later}
use Rattle.load_script.specs.declared.Load.{Load}
use Rattle.load_script.specs.Loads.{
  begin,
  no_load,
  refused_with,
  opened,
  chain,
  size,
  handed,
  load_after,
  nth_record,
  stretch,
  script,
  fitting,
  filled,
}

-- ---- opening

-- `bad_seed`: a seed of zero is refused, whatever the shape
abbrev pub ZeroSeedRefused : Type 0
ZeroSeedRefused = (s : Shape) (count : ℕ) → opened 0 s count ≡ refused_with BadSeed

-- `too_large`: then a shape above the sizes
abbrev pub LargeShapeRefused : Type 0
LargeShapeRefused = (seed : ℕ) (s : Shape) (count : ℕ) → 0 < seed
    → within_sizes s.num_domains s.vcpus_per_domain s.num_pcpus ≡ false → opened seed s count ≡ refused_with TooLarge

-- `done`: any other load is opened
abbrev pub OthersOpened : Type 0
OthersOpened = (seed : ℕ) (s : Shape) (count : ℕ) → 0 < seed
    → within_sizes s.num_domains s.vcpus_per_domain s.num_pcpus ≡ true
    → opened seed s count ≡ record { number = told Done; load = begin seed s count }

-- `refused-empty`: of a refused load nothing is handed out
abbrev pub RefusedEmpty : Type 0
RefusedEmpty = script no_load ≡ []

-- ---- the records

-- `record_is`: record n is that of the chain, which is made from seed and shape alone: the count does not show in it
abbrev pub RecordsOfTheChain : Type 0
RecordsOfTheChain = (seed : ℕ) (s : Shape) (count n : ℕ) → nth_record (begin seed s count) n ≡ (chain seed s n).call

-- ---- handing out

-- `over`: a load that is over hands out nothing, and has no script
abbrev pub OverIsOver : Type 0
OverIsOver = (l : Load) → size l ≡ 0 → (handed l ≡ record { next = None; load = l }) × (script l ≡ [])

-- `next-is`, `next-then`: any other hands out its first record, which is the start of its script, and is left with the rest
abbrev pub NextIsTheFirst : Type 0
NextIsTheFirst = (l : Load) → 0 < size l → handed l ≡ record { next = Some (nth_record l 0); load = load_after 1 l }

abbrev pub NextThenTheRest : Type 0
NextThenTheRest = (l : Load) → 0 < size l → script l ≡ record_bytes (nth_record l 0) ++ script (load_after 1 l)

-- `fill-then`, `fill-written`: so with the records that fit into a buffer, of any size
abbrev pub FilledThenTheRest : Type 0
FilledThenTheRest = (l : Load) (out : List ℕ) → script l ≡ stretch (fitting l out) l ++ script (filled l out).load

abbrev pub WrittenAsLong : Type 0
WrittenAsLong = (l : Load) (out : List ℕ) → (filled l out).written ≡ length (stretch (fitting l out) l)

-- ---- the clock

-- a load's numbers fit their types, as those of every load of a program do
pub record Typed (l : Load) : Type 0 where
  pub build : FitsRecord l.build
  pub state : l.generator.state < 2 ^ 64
  pub clock : l.clock < 2 ^ 64

-- `clock-never-back`: of any two points of a load the later one has no earlier clock
abbrev pub ClockNeverBack : Type 0
ClockNeverBack = (l : Load) → Typed l → (m n : ℕ) → m ≤ n → (load_after m l).clock ≤ (load_after n l).clock

-- `steps-whole`: every step of a load's calls, fewer than 2 ^ 32, is added whole
abbrev pub StepsWhole : Type 0
StepsWhole = (l : Load) → Typed l → l.clock ≡ 0 → (n k : ℕ) → n ≤ 2 ^ 32
    → later (load_after n l).clock k ≡ (load_after n l).clock + k % 100
