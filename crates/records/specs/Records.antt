-- A record of a script: 20 bytes, each field with its most significant byte first.
use Rattle.std.specs.Prelude.{ℕ, Bool, Option, None, Some, cond, not, List, [], ◌∷◌, ltb, leb, eqb, length, get_or}
use Rattle.big_endian.specs.Numbers.{number}
use Rattle.system.specs.declared.Answer.TheVariants.{TooLarge, BadScript}
use Rattle.system.specs.Shape.{within_sizes}
use Rattle.calls.specs.declared.Call.{Call}
use Rattle.calls.specs.declared.Request.{Request}
use Rattle.records.specs.declared.Record.{Record}
use Rattle.records.specs.declared.Shape.{Shape}
use Rattle.records.specs.declared.Plan.{Plan}

abbrev pub record_of : List ℕ → Record
record_of bs =
    record { kind = number bs 0 2; dom = number bs 2 2; vcpu = number bs 4 4; third = number bs 8 4; value = number bs 12 8 }

-- one that is cut off is of no kind
abbrev pub cut_off : Record
cut_off = record { kind = 65535; dom = 0; vcpu = 0; third = 0; value = 0 }

unfoldable pub record_at : List ℕ → Record
record_at bs = cond (leb 20 (length bs)) (record_of bs) cut_off

-- a call that asks something of one vCPU
abbrev pub asked : ℕ → ℕ → Request → Option Call
asked d v q = Some (Call.Ask d v q)

-- the calls by their kinds, from 0 on; kind 0 calls no host, it builds one
abbrev pub calls_of : Record → List (Option Call)
calls_of r =
    None
    ∷ asked r.dom r.vcpu Request.Admit
    ∷ asked r.dom r.vcpu (Request.Run r.third r.value)
    ∷ asked r.dom r.vcpu (Request.Preempt r.value)
    ∷ asked r.dom r.vcpu (Request.Block r.value)
    ∷ asked r.dom r.vcpu Request.Wake
    ∷ asked r.dom r.vcpu (Request.Offline r.value)
    ∷ asked r.dom r.vcpu (Request.SetAffinity r.value)
    ∷ Some (Call.SetWeight r.dom r.vcpu r.third)
    ∷ Some (Call.Advance r.value)
    ∷ Some (Call.SetWakeBoost (not (eqb r.value 0)))
    ∷ []

abbrev pub call_of : Record → Option Call
call_of r = get_or (calls_of r) r.kind None

-- a build of that shape and slice, if it is within the sizes
abbrev pub shape_of : Record → Shape
shape_of r =
    record { num_domains = r.dom; vcpus_per_domain = r.vcpu; num_pcpus = r.third; quantum = r.value }

abbrev pub build_of : Record → Plan
build_of r = cond (within_sizes r.dom r.vcpu r.third) (Plan.Build (shape_of r)) (Plan.Refuse TooLarge)

-- a call, if there is a host
abbrev pub after_build : Bool → Option Call → Plan
after_build built None = Plan.Refuse BadScript
after_build built (Some c) = cond built (Plan.Call c) (Plan.Refuse BadScript)

abbrev pub planned : Bool → Record → Plan
planned built r = cond (eqb r.kind 0) (build_of r) (after_build built (call_of r))

-- what a script does of the record at the start of what is left of it
unfoldable pub plan_of : Bool → List ℕ → Plan
plan_of built bs = cond (ltb (length bs) 20) (Plan.Refuse BadScript) (planned built (record_of bs))
