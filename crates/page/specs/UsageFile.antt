-- The monthly usage file of 2.3: its layout, as it is written, as it is read, and its lines.
use Rattle.std.specs.Prelude.{ℕ, ◌+◌, ◌-◌, ◌*◌, ◌/◌, min, Bool, false, cond, ◌&&◌, List, [], ◌∷◌, ◌++◌, ltb, leb, eqb, length, get_or, take, drop, replicate, Option, None, Some}
use Rattle.system.specs.declared.System.{System}
use Rattle.policy.specs.declared.Scheduler.{Scheduler}
use Rattle.usage_text.specs.declared.BodyText.{BodyText}
use Rattle.usage_text.specs.declared.FileText.{FileText}
use Rattle.page.specs.Host.{domains, vcpus, vcpu}
use Rattle.page.specs.Policy.{weight}
use Rattle.page.specs.Standing.{in_flight}
use Rattle.page.specs.Numbers.{parts, all, bytes, field}
use Rattle.page.specs.Lines.{usage_line, put}

-- ---- The layout of n domains of k vCPUs
abbrev pub usge : List ℕ
usge = 85 ∷ 83 ∷ 71 ∷ 69 ∷ []

-- where body d starts
abbrev pub start : ℕ → ℕ → ℕ → ℕ
start n k d = 6 + 6 * n + 20 * k * d

-- USGE, the count of domains; per domain where its body starts and its vCPUs; per vCPU its weight and its service
unfoldable pub layout : ℕ → ℕ → (ℕ → ℕ → ℕ) → (ℕ → ℕ → ℕ) → List ℕ
layout n k weights services =
    usge
    ++ bytes 2 n
    ++ parts n (λ d. bytes 4 (start n k d) ++ bytes 2 k)
    ++ parts n (λ d. parts k (λ v. bytes 4 (weights d v) ++ bytes 16 (services d v)))

-- ---- Written, of a host at a reading
abbrev pub ran : System → ℕ → ℕ → ℕ → ℕ
ran s now d v = let x = vcpu s d v in x.runtime + in_flight x.state (now - x.dispatched_at)

unfoldable pub file : System → Scheduler → ℕ → List ℕ
file s π now = layout (domains s) (vcpus s) (weight π) (ran s now)

-- the array that is handed back: zero past the file's end
abbrev pub written : System → Scheduler → ℕ → List ℕ
written s π now = file s π now ++ replicate (2662 - length (file s π now)) 0

-- ---- Read
abbrev pub domains_in : List ℕ → ℕ
domains_in f = field f 4 2

-- what the first line says
abbrev pub vcpus_in : List ℕ → ℕ
vcpus_in f = field f 10 2

abbrev pub start_in : List ℕ → ℕ → ℕ
start_in f d = start (domains_in f) (vcpus_in f) d

abbrev pub weight_in : List ℕ → ℕ → ℕ → ℕ
weight_in f d v = field f (start_in f d + 20 * v) 4

abbrev pub service_in : List ℕ → ℕ → ℕ → ℕ
service_in f d v = field f (start_in f d + 20 * v + 4) 16

-- exactly this layout: at most 16 domains, one count of at most 8 vCPUs, no byte after the last body, each line as due,
-- weights of 1 or more
unfoldable pub accepted : List ℕ → Bool
accepted f =
    let n = domains_in f in
    let k = vcpus_in f in
    all 4 (λ i. eqb (get_or f i 0) (get_or usge i 0))
    && (leb n 16
    && (leb k 8
    && (eqb (length f) (start_in f n)
    && (all n (λ d. eqb (field f (6 + 6 * d) 4) (start_in f d) && eqb (field f (10 + 6 * d) 2) k)
    && all n (λ d. all k (λ v. leb 1 (weight_in f d v)))))))

-- ---- Of a domain: 13 for what is no file, then 14 for a domain that it has not; else its body, a stretch of the file
abbrev pub told : List ℕ → ℕ → ℕ
told f d = cond (accepted f) (cond (ltb d (domains_in f)) 0 14) 13

abbrev pub has : List ℕ → ℕ → Bool
has f d = accepted f && ltb d (domains_in f)

abbrev pub body : List ℕ → ℕ → List ℕ
body f d = cond (has f d) (take (20 * vcpus_in f) (drop (start_in f d) f)) []

abbrev pub body_start : List ℕ → ℕ → ℕ
body_start f d = cond (has f d) (start_in f d) 0

-- in memory, a place is a block and how far into it; the body stands that much further in the file's own
abbrev pub further : ℕ × ℕ → ℕ → ℕ × ℕ
further place n = (place.0, n + place.1)

-- ---- Of a vCPU, 0 where the file has it not; and the lines of a domain
abbrev pub weight_of : List ℕ → ℕ → ℕ → ℕ
weight_of f d v = cond (has f d && ltb v (vcpus_in f)) (weight_in f d v) 0

abbrev pub service_of : List ℕ → ℕ → ℕ → ℕ
service_of f d v = cond (has f d && ltb v (vcpus_in f)) (service_in f d v) 0

abbrev pub domain_text : List ℕ → ℕ → List ℕ
domain_text f d = cond (has f d) (parts (vcpus_in f) (λ v. usage_line d v (weight_in f d v) (service_in f d v))) []

-- of the first n domains, of sixteen at most
abbrev pub file_text : List ℕ → ℕ → List ℕ
file_text f n = parts (min n 16) (domain_text f)

-- ---- The reader's parts, of any bytes. It keeps the count of a file that is accepted, and none of another; a count above 16 is no file's.
abbrev pub count : List ℕ → Option ℕ
count f = cond (accepted f) (Some (domains_in f)) None

abbrev pub told_by : Option ℕ → ℕ → ℕ
told_by None d = 13
told_by (Some n) d = cond (leb n 16) (cond (ltb d n) 0 14) 13

-- from the table of contents: there is a line, and what it names
abbrev pub names : List ℕ → Option ℕ → ℕ → Bool
names f None d = false
names f (Some n) d =
    leb n 16
    && (ltb d n && (leb (12 + 6 * d) (length f) && leb (field f (6 + 6 * d) 4 + 20 * field f (10 + 6 * d) 2) (length f)))

abbrev pub body_by : List ℕ → Option ℕ → ℕ → List ℕ
body_by f count d = cond (names f count d) (take (20 * field f (10 + 6 * d) 2) (drop (field f (6 + 6 * d) 4) f)) []

abbrev pub start_by : List ℕ → Option ℕ → ℕ → ℕ
start_by f count d = cond (names f count d) (field f (6 + 6 * d) 4) 0

-- of a body: its vCPUs, and what it says of one
abbrev pub vcpus_of_body : List ℕ → ℕ
vcpus_of_body b = length b / 20

abbrev pub weight_of_body : List ℕ → ℕ → ℕ
weight_of_body b v = cond (ltb v (vcpus_of_body b)) (field b (20 * v) 4) 0

abbrev pub service_of_body : List ℕ → ℕ → ℕ
service_of_body b v = cond (ltb v (vcpus_of_body b)) (field b (20 * v + 4) 16) 0

-- a line for each vCPU, of eight at most
abbrev pub body_text : ℕ → List ℕ → List ℕ
body_text d b = parts (min (vcpus_of_body b) 8) (λ v. usage_line d v (weight_of_body b v) (service_of_body b v))

-- the same with zeros past them
abbrev pub body_text_of : ℕ → List ℕ → BodyText
body_text_of d b = record { bytes = put (replicate 824 0) 0 (body_text d b); length = length (body_text d b) }

-- the lines of the first n domains, of sixteen at most
abbrev pub text_by : List ℕ → Option ℕ → ℕ → List ℕ
text_by f count n = parts (min n 16) (λ d. body_text d (body_by f count d))

-- lines of a file with that count, zeros past them
abbrev pub file_text_of : Option ℕ → List ℕ → FileText
file_text_of count t = record { bytes = put (replicate 13184 0) 0 t; length = length t; count = count }
