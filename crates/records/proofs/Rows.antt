-- Records are for what the requirements list, kind by kind. Assumes nothing.
use Rattle.std.specs.Prelude.{◌≡◌, refl, map}
use Rattle.big_endian.specs.Numbers.{bytes, number}
use Rattle.records.specs.Records.{plan_of}
use Rattle.records.specs.Rows.{PlanRow, table}

pub table-due : map (λ (r : PlanRow). r.given) table ≡ map (λ (r : PlanRow). r.due) table
unfolding bytes number plan_of
table-due = refl
