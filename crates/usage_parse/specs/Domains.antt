-- What is told of a domain of a usage file, its body as a stretch of the file, and a vCPU's figures in a body.
use Rattle.std.specs.Prelude.{Bool, false, Option, None, Some, cond, ◌&&◌, List, [], ℕ, ◌+◌, ◌*◌, ◌/◌, leb, ltb, length}
use Rattle.std.specs.Borrow.{Bor}
use Rattle.system.specs.declared.Answer.{Answer}
use Rattle.system.specs.declared.Answer.TheVariants.{Done, BadFile, NotInFile}
use Rattle.usage_layout.specs.Reading.{accepted, domains_in, offset_in, vcpus_in, body_in, weight_in, service_in}

-- bytes that are no file are told 13; then a domain that the file has not, 14
abbrev pub answer_of : List ℕ → ℕ → Answer
answer_of s d = cond (accepted s) (cond (ltb d (domains_in s)) Done NotInFile) BadFile

-- whether there is a body of domain d
abbrev pub has_body : List ℕ → ℕ → Bool
has_body s d = accepted s && ltb d (domains_in s)

-- its body, an empty stretch where there is none, and where it starts
abbrev pub stretch_of : List ℕ → ℕ → List ℕ
stretch_of s d = cond (has_body s d) (body_in s d) []

abbrev pub start_of : List ℕ → ℕ → ℕ
start_of s d = cond (has_body s d) (offset_in s d) 0

-- in memory: that stretch of the slice itself
abbrev pub place_of : Bor (List ℕ) → ℕ → ℕ × ℕ
place_of s d = (s.ref_ptr.0, start_of s.now d + s.ref_ptr.1)

-- ---- the same by a count that is kept beside the file: that of its domains, where it is accepted

unfoldable pub count_in : List ℕ → Option ℕ
count_in s = cond (accepted s) (Some (domains_in s)) None

-- a count above 16 is no file's
abbrev pub answer_at : Option ℕ → ℕ → Answer
answer_at None d = BadFile
answer_at (Some n) d = cond (leb n 16) (cond (ltb d n) Done NotInFile) BadFile

-- of any slice and any count: the slice has a line for domain d, and what the line names
abbrev pub names_body : List ℕ → Option ℕ → ℕ → Bool
names_body s None d = false
names_body s (Some n) d =
    leb n 16 && (ltb d n && (leb (12 + d * 6) (length s) && leb (offset_in s d + vcpus_in s d * 20) (length s)))

abbrev pub stretch_at : List ℕ → Option ℕ → ℕ → List ℕ
stretch_at s count d = cond (names_body s count d) (body_in s d) []

abbrev pub start_at : List ℕ → Option ℕ → ℕ → ℕ
start_at s count d = cond (names_body s count d) (offset_in s d) 0

abbrev pub place_at : Bor (List ℕ) → Option ℕ → ℕ → ℕ × ℕ
place_at s count d = (s.ref_ptr.0, start_at s.now count d + s.ref_ptr.1)

-- ---- a body

-- how many vCPUs it has, and what it says of vCPU v; 0 of one that it has not
abbrev pub vcpus_of : List ℕ → ℕ
vcpus_of body = length body / 20

abbrev pub weight_at : List ℕ → ℕ → ℕ
weight_at body v = cond (ltb v (vcpus_of body)) (weight_in body v) 0

abbrev pub service_at : List ℕ → ℕ → ℕ
service_at body v = cond (ltb v (vcpus_of body)) (service_in body v) 0
