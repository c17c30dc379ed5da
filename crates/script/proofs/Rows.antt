-- Scripts are told what the requirements say, and what is no call is found by its bytes. Assumes nothing.
use Rattle.std.specs.Prelude.{refl}
use Rattle.rows.specs.Rows.{AllDue}
use Rattle.script.specs.Computing.{replaying}
use Rattle.script.specs.NoCall.{built_at}
use Rattle.script.specs.Rows.{told, no_calls}

pub told-due : AllDue told
unfolding replaying
told-due = refl

pub no_calls-due : AllDue no_calls
unfolding replaying built_at
no_calls-due = refl
