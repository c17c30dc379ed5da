-- What a record is told, with the kinds above those of a script, and what is written of it.
use Rattle.std.specs.Prelude.{◌≡◌, ℕ, ◌+◌, ◌/◌, ◌%◌, ◌^◌, ◌≤◌, Bool, if◌then◌else◌, ◌&&◌, ◌||◌, ◌==◌, nat_le}
use Rattle.std.specs.Prelude.{List, [], ◌++◌, length, Some, Result, Ok, Err}
use Rattle.system.specs.declared.Answer.{Answer}
use Rattle.system.specs.declared.Answer.TheVariants.{Done, TooLarge, BadScript}
use Rattle.system.specs.Answers.{told}
use Rattle.system.specs.Shape.{within_sizes}
use Rattle.host.specs.declared.Host.{Host}
use Rattle.calls.specs.declared.Call.{Call}
use Rattle.host.specs.Step.{fresh_host}
use Rattle.host.specs.Outcomes.{HostOutcome}
use Rattle.records.specs.declared.Record.{Record}
use Rattle.records.specs.declared.Plan.{Plan}
use Rattle.records.specs.Records.{record_at, after_build, plan_of}
use Rattle.test_fields.specs.Fields.{written}
use Rattle.test_reads.specs.declared.Query.{Query}
use Rattle.test_reads.specs.Reads.{reads_text, reads_room}
use Rattle.script.specs.declared.Script.{Script}
use Rattle.script.specs.Script.{carried}
use Rattle.text.specs.Lines.{answer_line, answer_room}
use Rattle.text.specs.Places.{Placed}

-- a refusal leaves the host as it is
abbrev pub refused : Host → Answer → HostOutcome
refused h a = record { number = told a; host = h; count = 0 }

-- what is told of a host put in place of another
abbrev pub replaced : Host → Result Host Answer → HostOutcome
replaced h (Ok built) = record { number = told Done; host = built; count = 0 }
replaced h (Err a) = refused h a

-- kind 12: the policy's domains are the value's first byte, its vCPUs the second, the slice the other six
abbrev pub policy_domains : ℕ → ℕ
policy_domains x = x / 2 ^ 56

abbrev pub policy_vcpus : ℕ → ℕ
policy_vcpus x = x / 2 ^ 48 % 2 ^ 8

-- both shapes have to be within the sizes
unfoldable pub apart : Record → Result Host Answer
apart r =
    let e = policy_domains r.value in
    let u = policy_vcpus r.value in
    if within_sizes r.dom r.vcpu r.third && within_sizes e u 0
    then Ok (fresh_host r.dom r.vcpu r.third e u (r.value % 2 ^ 48))
    else Err TooLarge

-- kind 11 takes a domain offline; any other is a script's
unfoldable pub planned : Bool → List ℕ → Record → Plan
planned built bs r =
    if r.kind == 11 then after_build built (Some (Call.OfflineAll r.dom r.value)) else plan_of built bs

-- kinds 13 to 29 write a field, if there is a host
abbrev pub names_field : ℕ → Bool
names_field k = nat_le 13 k && nat_le k 29

abbrev pub field_written : Host → Bool → Record → HostOutcome
field_written h built r =
    if built then record { number = told Done; host = written r h; count = 0 } else refused h BadScript

unfoldable pub answered : Host → Bool → List ℕ → Record → HostOutcome
answered h built bs r =
    if r.kind == 12 then replaced h (apart r)
    else if names_field r.kind then field_written h built r
    else carried h (planned built bs r)

abbrev pub answered_by : Script → List ℕ → HostOutcome
answered_by c bs = answered c.host c.built bs (record_at bs)

-- the script after it: there is a host from the first record on that is told 0
unfoldable pub after : Script → List ℕ → Script
after c bs =
    record {
      number = (c.number + 1) % 2 ^ 64;
      built = c.built || (answered_by c bs).number == 0;
      host = (answered_by c bs).host;
    }

-- the ids of a record, and its value for a clock
abbrev pub query_of : Record → Query
query_of r = record { dom = r.dom; vcpu = r.vcpu; pcpu = r.third; clock = r.value }

-- what it is told
abbrev pub line_told : Script → List ℕ → List ℕ
line_told c bs = answer_line ((c.number + 1) % 2 ^ 64) (answered_by c bs).number (answered_by c bs).count

-- what can be read of the host, if there is one
unfoldable pub host_shown : Script → Record → List ℕ
host_shown c r = if c.built then reads_text c.host.system c.host.scheduler (query_of r) else []

unfoldable pub text : Script → List ℕ → List ℕ
text c bs = line_told c bs ++ host_shown (after c bs) (record_at bs)

-- the most bytes that it takes
abbrev pub entry_room : ℕ
entry_room = answer_room + reads_room

-- what a record leaves of the script and of the bytes that its text is written over, w of them
pub record Examined (c : Script) (bs before : List ℕ) (d : Script) (w : ℕ) (out : List ℕ) : Type 0 where
  pub script : d ≡ after c bs
  pub placed : Placed before 0 (text c bs) out w
  pub whole : w ≤ length out
