-- What records are for, kind by kind, as the requirements list them, and the bytes of one. Assumes nothing.
use Rattle.std.specs.Prelude.{ℕ, ◌^◌, true, false, refl, List, [], ◌∷◌, ◌++◌, take, replicate}
use Rattle.system.specs.declared.Answer.TheVariants.{TooLarge, BadScript}
use Rattle.calls.specs.declared.Call.{Call}
use Rattle.calls.specs.declared.Request.{Request}
use Rattle.records.specs.declared.Plan.{Plan}
use Rattle.big_endian.specs.Numbers.{bytes}
use Rattle.rows.specs.Rows.{Row, rows, AllDue}
use Rattle.records.specs.Bytes.{bytes_of, put_record}
use Rattle.records.specs.Records.{plan_of}

-- what a record is for, and what it has to be for
pub record PlanRow : Type 0 where
  pub given : Plan
  pub due : Plan

abbrev row : Plan → Plan → PlanRow
row given due = record { given = given; due = due }

-- a record of kind k whose other bytes are 1 to 18: domain 0x0102, vCPU 0x03040506, third 0x0708090a, value 0x0b0c0d0e0f101112
abbrev distinct : ℕ → List ℕ
distinct k = 0 ∷ k ∷ 1 ∷ 2 ∷ 3 ∷ 4 ∷ 5 ∷ 6 ∷ 7 ∷ 8 ∷ 9 ∷ 10 ∷ 11 ∷ 12 ∷ 13 ∷ 14 ∷ 15 ∷ 16 ∷ 17 ∷ 18 ∷ []

abbrev dom : ℕ
dom = 258

abbrev vcpu : ℕ
vcpu = 50595078

abbrev third : ℕ
third = 117967114

abbrev value : ℕ
value = 796025588171149586

-- the record of that kind once there is a host
abbrev of_kind : ℕ → Plan
of_kind k = plan_of true (distinct k)

-- a build of d domains, v vCPUs and p pCPUs with slice q, before which nothing was built, and as it has to be
abbrev build : ℕ → ℕ → ℕ → ℕ → Plan
build d v p q = plan_of false (bytes_of 0 d v p q)

abbrev built : ℕ → ℕ → ℕ → ℕ → Plan
built d v p q = Plan.Build (record { num_domains = d; vcpus_per_domain = v; num_pcpus = p; quantum = q })

abbrev pub table : List PlanRow
table =
    -- each kind, with the fields that it has
    row (of_kind 1) (Plan.Call (Call.Ask dom vcpu Request.Admit))
    ∷ row (of_kind 2) (Plan.Call (Call.Ask dom vcpu (Request.Run third value)))
    ∷ row (of_kind 3) (Plan.Call (Call.Ask dom vcpu (Request.Preempt value)))
    ∷ row (of_kind 4) (Plan.Call (Call.Ask dom vcpu (Request.Block value)))
    ∷ row (of_kind 5) (Plan.Call (Call.Ask dom vcpu Request.Wake))
    ∷ row (of_kind 6) (Plan.Call (Call.Ask dom vcpu (Request.Offline value)))
    ∷ row (of_kind 7) (Plan.Call (Call.Ask dom vcpu (Request.SetAffinity value)))
    ∷ row (of_kind 8) (Plan.Call (Call.SetWeight dom vcpu third))
    ∷ row (of_kind 9) (Plan.Call (Call.Advance value))
    -- boost: value 0 is off, any other on, whatever the other fields are
    ∷ row (plan_of true (bytes_of 10 0 0 0 0)) (Plan.Call (Call.SetWakeBoost false))
    ∷ row (plan_of true (bytes_of 10 1 2 3 0)) (Plan.Call (Call.SetWakeBoost false))
    ∷ row (plan_of true (bytes_of 10 0 0 0 1)) (Plan.Call (Call.SetWakeBoost true))
    ∷ row (plan_of true (bytes_of 10 0 0 0 (2 ^ 63))) (Plan.Call (Call.SetWakeBoost true))
    -- kinds above 10
    ∷ row (of_kind 11) (Plan.Refuse BadScript)
    ∷ row (plan_of true (bytes_of 256 1 1 1 1)) (Plan.Refuse BadScript)
    ∷ row (plan_of true (bytes_of 65535 1 1 1 1)) (Plan.Refuse BadScript)
    -- a build, first or later; the sizes are 16, 8 and 64
    ∷ row (build 3 4 5 6) (built 3 4 5 6)
    ∷ row (plan_of true (bytes_of 0 3 4 5 6)) (built 3 4 5 6)
    ∷ row (build 0 0 0 0) (built 0 0 0 0)
    ∷ row (build 16 8 64 (2 ^ 63)) (built 16 8 64 (2 ^ 63))
    ∷ row (build 17 8 64 10) (Plan.Refuse TooLarge)
    ∷ row (build 16 9 64 10) (Plan.Refuse TooLarge)
    ∷ row (build 16 8 65 10) (Plan.Refuse TooLarge)
    -- before a build
    ∷ row (plan_of false (distinct 1)) (Plan.Refuse BadScript)
    ∷ row (plan_of false (distinct 10)) (Plan.Refuse BadScript)
    -- 1 byte, 19 bytes, and 20 before others
    ∷ row (plan_of true (take 1 (distinct 1))) (Plan.Refuse BadScript)
    ∷ row (plan_of true (take 19 (distinct 1))) (Plan.Refuse BadScript)
    ∷ row (plan_of true (distinct 1 ++ distinct 2)) (Plan.Call (Call.Ask dom vcpu Request.Admit))
    ∷ []

-- ---- written

-- n zeros with a record of fields 1 to 5 written from index `at` on
abbrev put : ℕ → ℕ → List ℕ
put n at = put_record (replicate n 0) at (record { kind = 1; dom = 2; vcpu = 3; third = 4; value = 5 })

abbrev written : List ℕ
written = 0 ∷ 1 ∷ 0 ∷ 2 ∷ 0 ∷ 0 ∷ 0 ∷ 3 ∷ 0 ∷ 0 ∷ 0 ∷ 4 ∷ 0 ∷ 0 ∷ 0 ∷ 0 ∷ 0 ∷ 0 ∷ 0 ∷ 5 ∷ []

abbrev pub puts : List Row
puts =
    rows (put 20 0) written
    ∷ rows (put 21 0) (written ++ (0 ∷ []))
    ∷ rows (put 21 1) (0 ∷ written)
    -- a byte short, and past the end: nothing is written
    ∷ rows (put 19 0) (replicate 19 0)
    ∷ rows (put 21 2) (replicate 21 0)
    ∷ rows (put 21 100) (replicate 21 0)
    ∷ []

pub puts-due : AllDue puts
unfolding bytes
puts-due = refl
