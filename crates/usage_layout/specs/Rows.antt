-- Usage files byte by byte, worked out by hand from the layout, what they say, and bytes that are no file. Assumes nothing.
use Rattle.std.specs.Prelude.{ℕ, ◌+◌, ◌*◌, ◌^◌, refl, List, [], ◌∷◌, ◌++◌, map, length, get_or, set, take, replicate}
use Rattle.rows.specs.Rows.{Row, row, rows, test, AllDue}
use Rattle.big_endian.specs.Numbers.{bytes, number}
use Rattle.usage_layout.specs.Layout.{Figures, each, file, padded}
use Rattle.usage_layout.specs.Reading.{all, opens, shaped, accepted, domains_in, offset_in, vcpus_in, vcpus_each, weight_in}
use Rattle.usage_layout.specs.Reading.{service_in, body_in, count_of}

-- n domains of k vCPUs: d/v has the weight 256 × (d + 1) + v and the service d × (2 ^ 64 + 1) + 150
abbrev figures : ℕ → ℕ → Figures
figures n k =
    record { domains = n; vcpus = k; weight = λ d v. 256 * (d + 1) + v; service = λ d v. d * (2 ^ 64 + 1) + 150 }

-- two domains of one vCPU: 58 bytes
abbrev pub two : List ℕ
two =
    (85 ∷ 83 ∷ 71 ∷ 69 ∷ 0 ∷ 2 ∷ [])
    -- the bodies start at 18 and 38, with one vCPU each
    ++ (0 ∷ 0 ∷ 0 ∷ 18 ∷ 0 ∷ 1 ∷ [])
    ++ (0 ∷ 0 ∷ 0 ∷ 38 ∷ 0 ∷ 1 ∷ [])
    -- weight 256, service 150
    ++ (0 ∷ 0 ∷ 1 ∷ 0 ∷ [])
    ++ (0 ∷ 0 ∷ 0 ∷ 0 ∷ 0 ∷ 0 ∷ 0 ∷ 0 ∷ 0 ∷ 0 ∷ 0 ∷ 0 ∷ 0 ∷ 0 ∷ 0 ∷ 150 ∷ [])
    -- weight 512, service 2 ^ 64 + 151
    ++ (0 ∷ 0 ∷ 2 ∷ 0 ∷ [])
    ++ (0 ∷ 0 ∷ 0 ∷ 0 ∷ 0 ∷ 0 ∷ 0 ∷ 1 ∷ 0 ∷ 0 ∷ 0 ∷ 0 ∷ 0 ∷ 0 ∷ 0 ∷ 151 ∷ [])

abbrev pub layouts : List Row
layouts =
    rows (file (figures 2 1)) two
    -- nothing but the count; lines without bodies
    ∷ rows (file (figures 0 0)) (85 ∷ 83 ∷ 71 ∷ 69 ∷ 0 ∷ 0 ∷ [])
    ∷ rows (file (figures 0 8)) (85 ∷ 83 ∷ 71 ∷ 69 ∷ 0 ∷ 0 ∷ [])
    ∷ rows (file (figures 1 0)) (85 ∷ 83 ∷ 71 ∷ 69 ∷ 0 ∷ 1 ∷ 0 ∷ 0 ∷ 0 ∷ 12 ∷ 0 ∷ 0 ∷ [])
    -- the largest
    ∷ row (length (file (figures 16 8))) 2662
    ∷ rows (length (padded two) ∷ get_or (padded two) 57 9 ∷ get_or (padded two) 58 9 ∷ get_or (padded two) 2661 9 ∷ []) (2662 ∷ 151 ∷ 0 ∷ 0 ∷ [])
    ∷ []

pub layouts-due : AllDue layouts
unfolding file each bytes padded
layouts-due = refl

-- what the file of two domains says: the count, each line, each vCPU
abbrev pub readings : List Row
readings =
    rows (domains_in two ∷ vcpus_each two ∷ count_of two ∷ []) (2 ∷ 1 ∷ 2 ∷ [])
    ∷ rows (offset_in two 0 ∷ vcpus_in two 0 ∷ offset_in two 1 ∷ vcpus_in two 1 ∷ []) (18 ∷ 1 ∷ 38 ∷ 1 ∷ [])
    ∷ rows (weight_in (body_in two 0) 0 ∷ service_in (body_in two 0) 0 ∷ []) (256 ∷ 150 ∷ [])
    ∷ rows (weight_in (body_in two 1) 0 ∷ service_in (body_in two 1) 0 ∷ []) (512 ∷ (2 ^ 64 + 151) ∷ [])
    ∷ []

pub readings-due : AllDue readings
unfolding number accepted opens shaped all count_of
readings-due = refl

-- the file with another byte at i
abbrev with : ℕ → ℕ → List ℕ
with i b = set two i b

-- whether bytes are accepted
abbrev verdict : List ℕ → ℕ
verdict s = test (accepted s)

abbrev empty : ℕ → List ℕ
empty n = 85 ∷ 83 ∷ 71 ∷ 69 ∷ 0 ∷ n ∷ []

abbrev pub verdicts : List Row
verdicts =
    rows (verdict two ∷ verdict (file (figures 1 2)) ∷ verdict (file (figures 2 0)) ∷ verdict (empty 0) ∷ []) (1 ∷ 1 ∷ 1 ∷ 1 ∷ [])
    -- another weight or service is another file
    ∷ rows (verdict (with 21 1) ∷ verdict (with 22 255) ∷ verdict (with 57 0) ∷ []) (1 ∷ 1 ∷ 1 ∷ [])
    -- each of the four bytes; another count of domains
    ∷ rows (map verdict (with 0 84 ∷ with 1 84 ∷ with 2 84 ∷ with 3 84 ∷ with 4 1 ∷ with 5 1 ∷ with 5 3 ∷ [])) (replicate 7 0)
    -- an offset off by one; another vCPU count in the first line, in the second, in both
    ∷ rows (map verdict (with 9 17 ∷ with 9 19 ∷ with 15 37 ∷ with 6 1 ∷ with 11 0 ∷ with 17 2 ∷ set (with 11 0) 17 0 ∷ [])) (replicate 7 0)
    -- a weight of 0 in the first body, in the last
    ∷ rows (verdict (with 20 0) ∷ verdict (with 40 0) ∷ []) (0 ∷ 0 ∷ [])
    -- a byte after the last body, one too few, nothing
    ∷ rows (verdict (two ++ (0 ∷ [])) ∷ verdict (take 57 two) ∷ verdict (take 3 two) ∷ verdict [] ∷ []) (0 ∷ 0 ∷ 0 ∷ 0 ∷ [])
    -- 17 domains, 9 vCPUs, lines that are not there
    ∷ rows (verdict (file (figures 17 0)) ∷ verdict (file (figures 1 9)) ∷ verdict (empty 1) ∷ []) (0 ∷ 0 ∷ 0 ∷ [])
    -- what is not accepted has the count 17
    ∷ rows (count_of (empty 0) ∷ count_of (empty 1) ∷ count_of [] ∷ []) (0 ∷ 17 ∷ 17 ∷ [])
    ∷ []

pub verdicts-due : AllDue verdicts
unfolding file each bytes number accepted opens shaped all count_of
verdicts-due = refl
