-- The call of the host that a load means, apart from how it is written as a record.
use Rattle.std.specs.Prelude.{ℕ}
use Rattle.generator.specs.Xorshift.{after}
use Rattle.calls.specs.declared.Call.{Call}
use Rattle.calls.specs.declared.Request.{Request}
use Rattle.load_calls.specs.declared.Kind.{Kind}
use Rattle.load_calls.specs.declared.Kind.TheVariants.{Admit, Block, Wake, Mask, Advance}
use Rattle.load_calls.specs.Calls.{kind_of, numbers_drawn, id_of, called}

-- of a kind, on vCPU d/v, with that mask, at that clock
abbrev pub meant_by : Kind → ℕ → ℕ → ℕ → ℕ → Call
meant_by Admit d v mask now = Call.Ask d v Request.Admit
meant_by Block d v mask now = Call.Ask d v (Request.Block now)
meant_by Wake d v mask now = Call.Ask d v Request.Wake
meant_by Mask d v mask now = Call.Ask d v (Request.SetAffinity mask)
meant_by Advance d v mask now = Call.Advance now

-- drawn from the state x as the clock was t, where a host has d domains of v vCPUs
abbrev pub meant : ℕ → ℕ → ℕ → ℕ → Call
meant d v x t =
    meant_by (kind_of (after x)) (id_of (numbers_drawn d v x).dom d) (id_of (numbers_drawn d v x).vcpu v) (numbers_drawn d v x).last
    (called d v x t).clock
