-- A record as its 20 bytes.
use Rattle.std.specs.Prelude.{ℕ, ◌+◌, ◌^◌, ◌<◌, cond, List, ◌++◌, leb, length}
use Rattle.std.proofs.lemmas.List.Edits.{sets}
use Rattle.big_endian.specs.Numbers.{bytes}
use Rattle.records.specs.declared.Record.{Record}

-- kind (2 bytes), domain (2), vCPU (4), third (4), value (8)
abbrev pub bytes_of : ℕ → ℕ → ℕ → ℕ → ℕ → List ℕ
bytes_of kind dom vcpu third value = bytes 2 kind ++ (bytes 2 dom ++ (bytes 4 vcpu ++ (bytes 4 third ++ bytes 8 value)))

abbrev pub record_bytes : Record → List ℕ
record_bytes r = bytes_of r.kind r.dom r.vcpu r.third r.value

-- each field is a number of so many bytes
pub record FitsRecord (r : Record) : Type 0 where
  pub kind : r.kind < 2 ^ 16
  pub dom : r.dom < 2 ^ 16
  pub vcpu : r.vcpu < 2 ^ 32
  pub third : r.third < 2 ^ 32
  pub value : r.value < 2 ^ 64

-- they are stored from index `at` on where there is room for them
abbrev pub put_record : List ℕ → ℕ → Record → List ℕ
put_record out at r = cond (leb (at + 20) (length out)) (sets out at (record_bytes r)) out
