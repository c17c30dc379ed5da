-- Loads record by record and byte by byte, worked out apart, and what opening one is told. Assumes nothing.
use Rattle.std.specs.Prelude.{ℕ, ◌-◌, ◌^◌, refl, Option, None, Some, List, [], ◌∷◌, ◌++◌, replicate}
use Rattle.rows.specs.Rows.{Row, row, rows, AllDue}
use Rattle.big_endian.specs.Numbers.{bytes}
use Rattle.generator.specs.Xorshift.{up, down, after}
use Rattle.records.specs.declared.Record.{Record}
use Rattle.records.specs.declared.Shape.{Shape}
use Rattle.load_calls.specs.Calls.{kind_of, state_drawn, numbers_drawn, later, called}
use Rattle.load_script.specs.declared.Load.{Load}
use Rattle.load_script.specs.Loads.{opened, size, first, rest, handed, load_after, nth_record, stretch, script, filled}

abbrev shape : ℕ → ℕ → ℕ → ℕ → Shape
shape d v p q = record { num_domains = d; vcpus_per_domain = v; num_pcpus = p; quantum = q }

abbrev fields : Record → List ℕ
fields r = r.kind ∷ r.dom ∷ r.vcpu ∷ r.third ∷ r.value ∷ []

-- seed 1, 2 domains of 2 vCPUs on 1 pCPU, slices of 10 ticks
abbrev small : ℕ → Load
small count = (opened 1 (shape 2 2 1 10) count).load

-- seed 5 on a host without domains, and on one whose domains have no vCPUs
abbrev no_domains : Load
no_domains = (opened 5 (shape 0 3 2 1) 8).load

abbrev no_vcpus : Load
no_vcpus = (opened 5 (shape 3 0 2 1) 8).load

abbrev pub records : List Row
records =
    rows (fields (nth_record (small 5) 0)) (0 ∷ 2 ∷ 2 ∷ 1 ∷ 10 ∷ [])
    ∷ rows (fields (nth_record (small 5) 1)) (4 ∷ 1 ∷ 1 ∷ 0 ∷ 45 ∷ [])
    ∷ rows (fields (nth_record (small 5) 2)) (7 ∷ 1 ∷ 1 ∷ 0 ∷ 14279964170112293133 ∷ [])
    ∷ rows (fields (nth_record (small 5) 3)) (9 ∷ 0 ∷ 0 ∷ 0 ∷ 143 ∷ [])
    ∷ rows (fields (nth_record (small 5) 4)) (9 ∷ 0 ∷ 0 ∷ 0 ∷ 196 ∷ [])
    ∷ rows (fields (nth_record (small 5) 5)) (7 ∷ 1 ∷ 0 ∷ 0 ∷ 14960181732260564859 ∷ [])
    -- an id of a count 0 is not drawn, so that the next one is drawn in its place
    ∷ rows (fields (nth_record no_domains 0)) (0 ∷ 0 ∷ 3 ∷ 2 ∷ 1 ∷ [])
    ∷ rows (fields (nth_record no_domains 3)) (1 ∷ 0 ∷ 1 ∷ 0 ∷ 0 ∷ [])
    ∷ rows (fields (nth_record no_domains 4)) (4 ∷ 0 ∷ 2 ∷ 0 ∷ 60 ∷ [])
    ∷ rows (fields (nth_record no_vcpus 3)) (1 ∷ 1 ∷ 0 ∷ 0 ∷ 0 ∷ [])
    ∷ rows (fields (nth_record no_vcpus 4)) (4 ∷ 2 ∷ 0 ∷ 0 ∷ 60 ∷ [])
    -- how many there are: the build and the calls
    ∷ row (size (small 5)) 6
    ∷ row (size (small 0)) 1
    ∷ row (size (load_after 6 (small 5))) 0
    -- the whole script of two calls
    ∷ rows (script (small 2))
    (0 ∷ 0 ∷ 0 ∷ 2 ∷ 0 ∷ 0 ∷ 0 ∷ 2 ∷ 0 ∷ 0 ∷ 0 ∷ 1 ∷ 0 ∷ 0 ∷ 0 ∷ 0 ∷ 0 ∷ 0 ∷ 0 ∷ 10
    ∷ 0 ∷ 4 ∷ 0 ∷ 1 ∷ 0 ∷ 0 ∷ 0 ∷ 1 ∷ 0 ∷ 0 ∷ 0 ∷ 0 ∷ 0 ∷ 0 ∷ 0 ∷ 0 ∷ 0 ∷ 0 ∷ 0 ∷ 45
    ∷ 0 ∷ 7 ∷ 0 ∷ 1 ∷ 0 ∷ 0 ∷ 0 ∷ 1 ∷ 0 ∷ 0 ∷ 0 ∷ 0 ∷ 198 ∷ 44 ∷ 159 ∷ 193 ∷ 20 ∷ 217 ∷ 89 ∷ 13 ∷ [])
    ∷ []

pub records-due : AllDue records
unfolding opened first rest load_after stretch called kind_of state_drawn numbers_drawn later after up down bytes
records-due = refl

-- ---- handing out

abbrev shown : Option Record → List ℕ
shown None = []
shown (Some r) = fields r

-- what is handed out, if anything, and how many records are left then
abbrev gives : Load → List ℕ
gives l = shown (handed l).next ++ (size (handed l).load ∷ [])

-- the bytes that are written where there is room for n, and how many records are left then
abbrev fills : Load → ℕ → List ℕ
fills l n = (filled l (replicate n 0)).written ∷ size (filled l (replicate n 0)).load ∷ []

abbrev pub handing : List Row
handing =
    rows (gives (small 1)) (0 ∷ 2 ∷ 2 ∷ 1 ∷ 10 ∷ 1 ∷ [])
    ∷ rows (gives (load_after 1 (small 1))) (4 ∷ 1 ∷ 1 ∷ 0 ∷ 45 ∷ 0 ∷ [])
    ∷ rows (gives (load_after 2 (small 1))) (0 ∷ [])
    ∷ rows (fills (small 5) 19) (0 ∷ 6 ∷ [])
    ∷ rows (fills (small 5) 20) (20 ∷ 5 ∷ [])
    ∷ rows (fills (small 5) 59) (40 ∷ 4 ∷ [])
    ∷ rows (fills (small 5) 120) (120 ∷ 0 ∷ [])
    ∷ rows (fills (small 5) 200) (120 ∷ 0 ∷ [])
    ∷ []

pub handing-due : AllDue handing
unfolding opened first rest load_after called kind_of state_drawn numbers_drawn later after up down
handing-due = refl

-- ---- opening

-- the number told, and how many records there are then
abbrev tells : ℕ → ℕ → ℕ → ℕ → List ℕ
tells seed d v p = (opened seed (shape d v p 10) 5).number ∷ size (opened seed (shape d v p 10) 5).load ∷ []

abbrev pub refusals : List Row
refusals =
    rows (tells 1 16 8 64) (0 ∷ 6 ∷ [])
    ∷ rows (tells (2 ^ 64 - 1) 0 0 0) (0 ∷ 6 ∷ [])
    -- a seed of zero, whatever the shape
    ∷ rows (tells 0 16 8 64) (15 ∷ 0 ∷ [])
    ∷ rows (tells 0 17 9 65) (15 ∷ 0 ∷ [])
    -- then a shape too large
    ∷ rows (tells 1 17 8 64) (7 ∷ 0 ∷ [])
    ∷ rows (tells 1 16 9 64) (7 ∷ 0 ∷ [])
    ∷ rows (tells 1 16 8 65) (7 ∷ 0 ∷ [])
    ∷ []

pub refusals-due : AllDue refusals
unfolding opened
refusals-due = refl
