-- The layout of a usage file: the bytes that the figures of a host make.
use Rattle.std.specs.Prelude.{List, [], ◌∷◌, ◌++◌, ℕ, zero, suc, ◌+◌, ◌*◌, ◌-◌, ◌^◌, ◌≤◌, ◌<◌, length, replicate}
use Rattle.big_endian.specs.Numbers.{bytes}

-- USGE
abbrev pub usge : List ℕ
usge = 85 ∷ 83 ∷ 71 ∷ 69 ∷ []

-- the parts 0 up to n - 1, one right behind the other
unfoldable pub each : ℕ → (ℕ → List ℕ) → List ℕ
each zero part = []
each (suc n) part = each n part ++ part n

-- what a file says: how many domains, how many vCPUs each has, and the weight and the service of vCPU d/v
pub record Figures : Type 0 where
  pub domains : ℕ
  pub vcpus : ℕ
  pub weight : ℕ → ℕ → ℕ
  pub service : ℕ → ℕ → ℕ

-- what a file can say
pub record Within (f : Figures) : Type 0 where
  pub domains : f.domains ≤ 16
  pub vcpus : f.vcpus ≤ 8
  pub least : (d v : ℕ) → d < f.domains → v < f.vcpus → 1 ≤ f.weight d v
  pub weight : (d v : ℕ) → d < f.domains → v < f.vcpus → f.weight d v < 256 ^ 4
  pub service : (d v : ℕ) → d < f.domains → v < f.vcpus → f.service d v < 256 ^ 16

-- where the body of domain d starts, of n domains of k vCPUs: 6 bytes and a line for each domain come before all bodies
abbrev pub start : ℕ → ℕ → ℕ → ℕ
start n k d = 6 + n * 6 + d * (k * 20)

-- a domain's line in the table of contents
abbrev pub entry : ℕ → ℕ → ℕ → List ℕ
entry n k d = bytes 4 (start n k d) ++ bytes 2 k

abbrev pub vcpu_bytes : ℕ → ℕ → List ℕ
vcpu_bytes weight service = bytes 4 weight ++ bytes 16 service

abbrev pub body_of : Figures → ℕ → List ℕ
body_of f d = each f.vcpus (λ v. vcpu_bytes (f.weight d v) (f.service d v))

-- the four bytes, the count of domains, the table of contents, the bodies
unfoldable pub file : Figures → List ℕ
file f = usge ++ bytes 2 f.domains ++ each f.domains (entry f.domains f.vcpus) ++ each f.domains (body_of f)

abbrev pub zeros : ℕ → List ℕ
zeros n = replicate n 0

-- a file in an array of 2,662 bytes, zero past its end
unfoldable pub padded : List ℕ → List ℕ
padded l = l ++ zeros (2662 - length l)
