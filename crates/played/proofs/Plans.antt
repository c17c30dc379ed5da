-- What a record of bytes can be for: a refusal, a build within the sizes, or, once there is a host, a call that fits
-- its types. Assumes nothing.
use Rattle.std.specs.Prelude.{ℕ, zero, suc, Bool, true, false, cond, ◌≡◌, refl, Option, None, Some, List, [], ◌∷◌, ltb, eqb, length, get_or}
use Rattle.system.specs.declared.Answer.{Answer}
use Rattle.system.specs.declared.Answer.TheVariants.{TooLarge, BadScript}
use Rattle.system.specs.Shape.{within_sizes}
use Rattle.verdict.specs.Sound.{within-sizes}
use Rattle.calls.specs.declared.Call.{Call}
use Rattle.calls.specs.Typed.{Typed}
use Rattle.records.specs.declared.Record.{Record}
use Rattle.records.specs.declared.Shape.{Shape}
use Rattle.records.specs.declared.Plan.{Plan}
use Rattle.records.specs.Bytes.{FitsRecord}
use Rattle.records.specs.Records.{record_of, calls_of, call_of, shape_of, build_of, after_build, plan_of}
use Rattle.big_endian.specs.Numbers.{AllBytes}
use Rattle.big_endian.specs.Laws.{number-below}
use Rattle.played.specs.Played.{Sized}

pub data Fit (built : Bool) : Plan → Type 0 where
  refuse : (a : Answer) → Fit built (Plan.Refuse a)
  build : (s : Shape) → within_sizes s.num_domains s.vcpus_per_domain s.num_pcpus ≡ true → Sized s
      → Fit built (Plan.Build s)
  call : (c : Call) → built ≡ true → Typed c → Fit built (Plan.Call c)

fields_fit : (bs : List ℕ) → AllBytes bs → FitsRecord (record_of bs)
fields_fit bs a =
    record {
      kind = number-below bs a 0 2;
      dom = number-below bs a 2 2;
      vcpu = number-below bs a 4 4;
      third = number-below bs a 8 4;
      value = number-below bs a 12 8;
    }

-- a call, if it is one, fits its types
abbrev MaybeTyped : Option Call → Type 0
MaybeTyped None = Unit {0}
MaybeTyped (Some c) = Typed c

abbrev AllMaybeTyped : List (Option Call) → Type 0
AllMaybeTyped [] = Unit {0}
AllMaybeTyped (m ∷ ms) = MaybeTyped m × AllMaybeTyped ms

at-kind : (ms : List (Option Call)) → AllMaybeTyped ms → (k : ℕ) → MaybeTyped (get_or ms k None)
at-kind [] a k = tt
at-kind (m ∷ ms) a zero = a.0
at-kind (m ∷ ms) a (suc k) = at-kind ms a.1 k

call-typed : (r : Record) → FitsRecord r → MaybeTyped (call_of r)
call-typed r f = at-kind (calls_of r) (search depth 20) r.kind

call_fits : (built : Bool) (m : Option Call) → MaybeTyped m → Fit built (after_build built m)
call_fits built None t = refuse BadScript
call_fits true (Some c) t = call c refl t
call_fits false (Some c) t = refuse BadScript

build-fits : (built : Bool) (r : Record) → FitsRecord r → Fit built (build_of r)
build-fits built r f = go (within_sizes r.dom r.vcpu r.third) refl
  where
    go : (b : Bool) → within_sizes r.dom r.vcpu r.third ≡ b
        → Fit built (cond b (Plan.Build (shape_of r)) (Plan.Refuse TooLarge))
    go true e =
        let w = within-sizes r.dom r.vcpu r.third e in
        build (shape_of r) e (record { sizes = record { domains = w.0; vcpus = w.1; pcpus = w.2 }; slice = f.value })
    go false e = refuse TooLarge

either : {built : Bool} {p q : Plan} (b : Bool) → Fit built p → Fit built q → Fit built (cond b p q)
either true f g = f
either false f g = g

pub plan-fits : (built : Bool) (bs : List ℕ) → AllBytes bs → Fit built (plan_of built bs)
unfolding plan_of
plan-fits built bs a =
    let r = record_of bs in
    let f = fields_fit bs a in
    either (ltb (length bs) 20) (refuse BadScript)
    (either (eqb r.kind 0) (build-fits built r f) (call_fits built (call_of r) (call-typed r f)))
