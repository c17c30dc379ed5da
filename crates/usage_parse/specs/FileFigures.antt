-- What is read of a usage file for each domain and vCPU, by the file's own bytes: weight and service stand where the
-- layout puts them, and there is nothing where the bytes are no file or it has no such domain or vCPU. It is proved as
-- `file-read`, of any bytes and any ids.
use Rattle.std.specs.Prelude.{Bool, cond, ◌&&◌, List, ◌≡◌, ℕ, ◌+◌, ◌*◌, ltb}
use Rattle.big_endian.specs.Numbers.{number}
use Rattle.usage_layout.specs.Layout.{start}
use Rattle.usage_layout.specs.Reading.{domains_in, vcpus_each}
use Rattle.usage_parse.specs.Domains.{has_body, stretch_of, vcpus_of, weight_at, service_at}

-- it is an accepted file that has vCPU d/v
abbrev pub has_vcpu : List ℕ → ℕ → ℕ → Bool
has_vcpu s d v = has_body s d && ltb v (vcpus_each s)

-- where the 20 bytes of vCPU d/v start
abbrev pub vcpu_place : List ℕ → ℕ → ℕ → ℕ
vcpu_place s d v = start (domains_in s) (vcpus_each s) d + v * 20

-- what the body of domain d gives, of bytes s
pub record ReadsFile (s : List ℕ) (d v : ℕ) : Type 0 where
  pub vcpus : vcpus_of (stretch_of s d) ≡ cond (has_body s d) (vcpus_each s) 0
  pub weight : weight_at (stretch_of s d) v ≡ cond (has_vcpu s d v) (number s (vcpu_place s d v) 4) 0
  pub service : service_at (stretch_of s d) v ≡ cond (has_vcpu s d v) (number s (vcpu_place s d v + 4) 16) 0

abbrev pub EveryFile : Type 0
EveryFile = (s : List ℕ) (d v : ℕ) → ReadsFile s d v
