-- A load: a build, then as many calls as its count says, each drawn where the one before it left the generator and the clock.
use Rattle.std.specs.Prelude.{ℕ, zero, suc, ◌*◌, ◌-◌, ◌/◌, min, true, false, cond, Option, None, Some, List, [], ◌++◌, eqb, length}
use Rattle.calls.specs.declared.Call.{Call}
use Rattle.system.specs.declared.Answer.{Answer}
use Rattle.system.specs.declared.Answer.TheVariants.{Done, TooLarge, BadSeed}
use Rattle.system.specs.Answers.{told}
use Rattle.system.specs.Shape.{within_sizes}
use Rattle.records.specs.declared.Record.{Record}
use Rattle.records.specs.declared.Shape.{Shape}
use Rattle.records.specs.Bytes.{record_bytes}
use Rattle.load_calls.specs.declared.Called.{Called}
use Rattle.load_calls.specs.Calls.{called}
use Rattle.load_calls.specs.Meant.{meant}
use Rattle.load_script.specs.declared.Load.{Load}
use Rattle.load_script.specs.declared.Opened.{Opened}

-- ---- opening

abbrev pub build_record : Shape → Record
build_record s =
    record { kind = 0; dom = s.num_domains; vcpu = s.vcpus_per_domain; third = s.num_pcpus; value = s.quantum }

-- a load of which nothing was handed out
abbrev pub begin : ℕ → Shape → ℕ → Load
begin seed s count =
    record { build = build_record s; generator = record { state = seed }; clock = 0; built = false; left = count }

-- a load without records
abbrev pub no_load : Load
no_load =
    record {
      build = record { kind = 0; dom = 0; vcpu = 0; third = 0; value = 0 };
      generator = record { state = 0 };
      clock = 0;
      built = true;
      left = 0;
    }

-- the number told, and the load
pub record LoadOutcome : Type 0 where
  pub number : ℕ
  pub load : Load

abbrev pub load_outcome : Opened → LoadOutcome
load_outcome r = record { number = told r.answer; load = r.load }

abbrev pub refused_with : Answer → LoadOutcome
refused_with a = record { number = told a; load = no_load }

-- the seed is looked at before the shape
unfoldable pub opened : ℕ → Shape → ℕ → LoadOutcome
opened seed s count =
    cond (eqb seed 0) (refused_with BadSeed)
    (cond (within_sizes s.num_domains s.vcpus_per_domain s.num_pcpus)
    (record { number = told Done; load = begin seed s count }) (refused_with TooLarge))

-- ---- the records, by the load's numbers alone

-- record n, and where it leaves the generator and the clock: the build leaves them at the seed and at 0
unfoldable pub chain : ℕ → Shape → ℕ → Called
chain seed s zero = record { call = build_record s; state = seed; clock = 0 }
chain seed s (suc n) = called s.num_domains s.vcpus_per_domain (chain seed s n).state (chain seed s n).clock

-- the call of the host that is meant by call n, from 0 on
abbrev pub meant_at : ℕ → Shape → ℕ → Call
meant_at seed s n = meant s.num_domains s.vcpus_per_domain (chain seed s n).state (chain seed s n).clock

-- ---- handing out

-- how many records are still to come
abbrev pub size : Load → ℕ
size l = cond l.built l.left (suc l.left)

-- the call that comes next, once the build was handed out
abbrev pub next_call : Load → Called
next_call l = called l.build.dom l.build.vcpu l.generator.state l.clock

-- the record that comes next
unfoldable pub first : Load → Record
first l = cond l.built (next_call l).call l.build

-- the load after it
abbrev pub past_build : Load → Load
past_build l = record { build = l.build; generator = l.generator; clock = l.clock; built = true; left = l.left }

abbrev pub past_call : Load → Load
past_call l =
    record {
      build = l.build;
      generator = record { state = (next_call l).state };
      clock = (next_call l).clock;
      built = true;
      left = l.left - 1;
    }

unfoldable pub rest : Load → Load
rest l = cond l.built (past_call l) (past_build l)

-- the record that comes next, if there is one, and the load after it; a load that is over stays as it is
pub record Handed : Type 0 where
  pub next : Option Record
  pub load : Load

abbrev pub handed : Load → Handed
handed l =
    cond (eqb (size l) 0) (record { next = None; load = l }) (record { next = Some (first l); load = rest l })

-- the load after n records, and record n, from 0 on
unfoldable pub load_after : ℕ → Load → Load
load_after zero l = l
load_after (suc n) l = rest (load_after n l)

abbrev pub nth_record : Load → ℕ → Record
nth_record l n = first (load_after n l)

-- the bytes of the next n records, and of all of them: the script
unfoldable pub stretch : ℕ → Load → List ℕ
stretch zero l = []
stretch (suc n) l = stretch n l ++ record_bytes (nth_record l n)

abbrev pub script : Load → List ℕ
script l = stretch (size l) l

-- how many of them fit, and what is handed back once they are written
abbrev pub fitting : Load → List ℕ → ℕ
fitting l out = min (size l) (length out / 20)

pub record Filled : Type 0 where
  pub load : Load
  pub written : ℕ

abbrev pub filled : Load → List ℕ → Filled
filled l out = record { load = load_after (fitting l out) l; written = fitting l out * 20 }
