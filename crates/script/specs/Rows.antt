-- What scripts are told, as the requirements say, and the whole host as `trace` writes it. Assumes nothing.
use Rattle.std.specs.Prelude.{ℕ, zero, suc, Bool, true, false, cond, List, [], ◌∷◌, ◌++◌, take, refl}
use Rattle.rows.specs.Rows.{Row, rows, AllDue}
use Rattle.records.specs.Bytes.{bytes_of}
use Rattle.text.specs.Ascii.{ascii}
use Rattle.script.specs.Computing.{replaying}
use Rattle.host_text.specs.HostText.{host_text}
use Rattle.script.specs.NoCall.{no_call_at}
use Rattle.script.specs.Script.{begun, script_after, text, records_in}

-- the bytes of some records
abbrev all : List (List ℕ) → List ℕ
all [] = []
all (r ∷ rs) = r ++ all rs

-- the text of a whole script, as `replay` writes it and as `trace` does
abbrev replayed : List ℕ → List ℕ
replayed bs = text false begun bs (records_in bs)

abbrev traced : List ℕ → List ℕ
traced bs = text true begun bs (records_in bs)

-- ---- the records: a build of d domains, v vCPUs and p pCPUs, and some of 0/0

abbrev build : ℕ → ℕ → ℕ → List ℕ
build d v p = bytes_of 0 d v p 10

abbrev admit : List ℕ
admit = bytes_of 1 0 0 0 0

abbrev of_kind : ℕ → List ℕ
of_kind k = bytes_of k 0 0 0 0

-- ---- the tables

abbrev pub told : List Row
told =
    -- the last record has 1 byte, or 19
    rows (replayed (0 ∷ [])) (ascii "1 9 0\n")
    ∷ rows (replayed (build 1 1 1 ++ take 19 admit)) (ascii "1 0 0\n2 9 0\n")
    -- kinds above 10
    ∷ rows (replayed (all (build 1 1 1 ∷ of_kind 11 ∷ of_kind 65535 ∷ []))) (ascii "1 0 0\n2 9 0\n3 9 0\n")
    -- every kind but 0 before a build
    ∷ rows (replayed (all (of_kind 1 ∷ of_kind 2 ∷ of_kind 3 ∷ of_kind 4 ∷ of_kind 5 ∷ []))) (ascii "1 9 0\n2 9 0\n3 9 0\n4 9 0\n5 9 0\n")
    ∷ rows (replayed (all (of_kind 6 ∷ of_kind 7 ∷ of_kind 8 ∷ of_kind 9 ∷ of_kind 10 ∷ []))) (ascii "1 9 0\n2 9 0\n3 9 0\n4 9 0\n5 9 0\n")
    -- the largest host, and one of nothing; 17 domains, 9 vCPUs, 65 pCPUs
    ∷ rows (replayed (all (build 16 8 64 ∷ build 0 0 0 ∷ []))) (ascii "1 0 0\n2 0 0\n")
    ∷ rows (replayed (all (build 17 8 64 ∷ build 16 9 64 ∷ build 16 8 65 ∷ []))) (ascii "1 7 0\n2 7 0\n3 7 0\n")
    -- a build that is refused is none
    ∷ rows (replayed (all (build 17 1 1 ∷ admit ∷ []))) (ascii "1 7 0\n2 9 0\n")
    -- what is refused keeps the earlier host, where 0/0 is not Offline: a build, a kind above 10, a call
    ∷ rows (replayed (all (build 1 1 1 ∷ admit ∷ build 17 1 1 ∷ admit ∷ []))) (ascii "1 0 0\n2 0 0\n3 7 0\n4 4 0\n")
    ∷ rows (replayed (all (build 1 1 1 ∷ admit ∷ of_kind 11 ∷ admit ∷ admit ∷ []))) (ascii "1 0 0\n2 0 0\n3 9 0\n4 4 0\n5 4 0\n")
    -- a call of one that is Offline, told in two digits
    ∷ rows (replayed (all (build 1 1 1 ∷ of_kind 5 ∷ []))) (ascii "1 0 0\n2 10 0\n")
    -- a second build replaces the host: 0/0 is Offline again
    ∷ rows (replayed (all (build 1 1 1 ∷ admit ∷ build 1 1 1 ∷ admit ∷ []))) (ascii "1 0 0\n2 0 0\n3 0 0\n4 0 0\n")
    ∷ []

-- of the first n records, 1 for one that is no call
abbrev flags : Bool → List ℕ → ℕ → List ℕ
flags b bs zero = []
flags b bs (suc n) = flags b bs n ++ (cond (no_call_at b bs n) 1 0 ∷ [])

-- kinds above 10, among calls of any other answer: 17 domains are told 7, a second admit 4
abbrev mixed : List ℕ
mixed = all (build 1 1 1 ∷ of_kind 11 ∷ admit ∷ of_kind 65535 ∷ admit ∷ build 17 1 1 ∷ admit ∷ [])

abbrev pub no_calls : List Row
no_calls =
    rows (flags false mixed 7) (0 ∷ 1 ∷ 0 ∷ 1 ∷ 0 ∷ 0 ∷ 0 ∷ [])
    -- cut off, by 19 bytes or 1
    ∷ rows (flags false (build 1 1 1 ++ take 1 admit) 2) (0 ∷ 1 ∷ [])
    ∷ rows (flags false (build 1 1 1 ++ take 19 admit) 2) (0 ∷ 1 ∷ [])
    -- before any host, which a build that is refused does not make; and where one was built before
    ∷ rows (flags false (all (admit ∷ build 17 1 1 ∷ of_kind 9 ∷ build 1 1 1 ∷ of_kind 10 ∷ [])) 5) (1 ∷ 0 ∷ 1 ∷ 0 ∷ 0 ∷ [])
    ∷ rows (flags true (all (admit ∷ of_kind 10 ∷ of_kind 11 ∷ [])) 3) (0 ∷ 0 ∷ 1 ∷ [])
    -- a script in words, and a usage file
    ∷ rows (flags false (ascii "build 1 domain 1 vcpu 1 pcpu slice 10\n") 2) (1 ∷ 1 ∷ [])
    ∷ rows (flags false (ascii "USGE" ++ (0 ∷ 0 ∷ [])) 1) (1 ∷ [])
    ∷ []

-- 0/0 is Offline; 0/1 waits, with mask 2 and weight 7; 0/2 runs on pCPU 1 since 100; 0/3 ran from 3 to 8 and is blocked
abbrev four : List ℕ
four =
    all
    (build 1 4 2
    ∷ bytes_of 1 0 1 0 0
    ∷ bytes_of 7 0 1 0 2
    ∷ bytes_of 8 0 1 7 0
    ∷ bytes_of 1 0 2 0 0
    ∷ bytes_of 2 0 2 1 100
    ∷ bytes_of 1 0 3 0 0
    ∷ bytes_of 2 0 3 0 3
    ∷ bytes_of 4 0 3 0 8
    ∷ [])

-- The requirements do not say how `trace` writes a host. Of a vCPU: domain, vCPU, state (0 Offline, 1 Runnable, 2 Running, 3 Blocked),
-- pCPU (64 for none), clock of its run (0 for none), run time, mask, weight, the pCPU that it was last on (64 for none). Of a pCPU that
-- is held: its id and the holder's.
abbrev pub hosts : List Row
hosts =
    rows (host_text (script_after begun four 9).host.system (script_after begun four 9).host.scheduler)
    (ascii " 0 0 0 64 0 0 3 256 64\n 0 1 1 64 0 0 2 7 64\n 0 2 2 1 100 0 3 256 1\n 0 3 3 64 0 5 3 256 0\n p 1 0 2\n")
    -- after each record that leaves a host, and not before
    ∷ rows (traced (all (admit ∷ build 2 1 1 ∷ []))) (ascii "1 9 0\n2 0 0\n 0 0 0 64 0 0 1 256 64\n 1 0 0 64 0 0 1 256 64\n")
    ∷ []

pub hosts-due : AllDue hosts
unfolding replaying
hosts-due = refl
