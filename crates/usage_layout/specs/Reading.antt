-- What the bytes of a file say, and which bytes are accepted as a file.
use Rattle.std.specs.Prelude.{Bool, true, cond, ◌&&◌, List, ℕ, zero, suc, ◌+◌, ◌*◌, eqb, leb, length, get_or, take, drop}
use Rattle.big_endian.specs.Numbers.{number}
use Rattle.usage_layout.specs.Layout.{usge, start, Figures}

-- whether every number below n passes
unfoldable pub all : ℕ → (ℕ → Bool) → Bool
all zero passes = true
all (suc n) passes = all n passes && passes n

-- it opens with USGE
unfoldable pub opens : List ℕ → Bool
opens s = all 4 (λ i. eqb (get_or s i 0) (get_or usge i 0))

abbrev pub domains_in : List ℕ → ℕ
domains_in s = number s 4 2

-- domain d's line in the table of contents
abbrev pub offset_in : List ℕ → ℕ → ℕ
offset_in s d = number s (6 + d * 6) 4

abbrev pub vcpus_in : List ℕ → ℕ → ℕ
vcpus_in s d = number s (10 + d * 6) 2

-- vCPU v of a body
abbrev pub weight_in : List ℕ → ℕ → ℕ
weight_in body v = number body (v * 20) 4

abbrev pub service_in : List ℕ → ℕ → ℕ
service_in body v = number body (v * 20 + 4) 16

-- the stretch of a file that domain d's line names
abbrev pub body_in : List ℕ → ℕ → List ℕ
body_in s d = take (vcpus_in s d * 20) (drop (offset_in s d) s)

-- how many vCPUs each domain has: what the first line says, 0 where there is no line
abbrev pub vcpus_each : List ℕ → ℕ
vcpus_each s = cond (leb 12 (length s)) (vcpus_in s 0) 0

-- the line of domain d names the place that is due and k vCPUs
abbrev pub line_right : List ℕ → ℕ → ℕ → ℕ → Bool
line_right s n k d = eqb (offset_in s d) (start n k d) && eqb (vcpus_in s d) k

-- each of m vCPUs, from byte `from` on, has a weight of at least 1
abbrev pub weighed : List ℕ → ℕ → ℕ → Bool
weighed s from m = all m (λ i. leb 1 (number s (from + i * 20) 4))

-- n domains of k vCPUs each, every line right, every weight at least 1, and no byte after the last body
unfoldable pub shaped : List ℕ → ℕ → ℕ → Bool
shaped s n k =
    leb n 16 && (leb k 8 && (eqb (length s) (start n k n) && (all n (line_right s n k) && weighed s (start n k 0) (n * k))))

-- this layout and no other
unfoldable pub accepted : List ℕ → Bool
accepted s = opens s && shaped s (domains_in s) (vcpus_each s)

-- what a file says of its host
abbrev pub figures_in : List ℕ → Figures
figures_in s =
    record {
      domains = domains_in s;
      vcpus = vcpus_each s;
      weight = λ d v. weight_in (body_in s d) v;
      service = λ d v. service_in (body_in s d) v;
    }

-- the count that stands for a file that is not accepted
abbrev pub refused_count : ℕ
refused_count = 17

unfoldable pub count_of : List ℕ → ℕ
count_of s = cond (accepted s) (domains_in s) refused_count
