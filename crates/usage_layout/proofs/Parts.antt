-- What stands where in the file that figures make. Assumes nothing.
use Prim.Native.Nat.{ℕ, ◌+◌, ◌*◌, ◌<◌}
use mathlib.Core.Path.{◌≡◌, refl, ap, ap₂, ◌∙◌}
use mathlib.Core.List.{List, ◌++◌}
use native.Mathlib.Omega.{arith}
use lib.ListN.{length, get_or, length-append, get_or-append}
use Rattle.big_endian.specs.Numbers.{bytes, AllBytes}
use Rattle.big_endian.specs.Laws.{length-bytes, bytes_are_bytes, bytes-append}
use Rattle.usage_layout.specs.Layout.{usge, each, Figures, start, entry, vcpu_bytes, body_of, file}
use Rattle.usage_layout.proofs.Each.{at-behind, each-bytes, each-length, each_at}

pub entry_length : (n k d : ℕ) → length (entry n k d) ≡ 6
entry_length n k d = simp (length-append, length-bytes)

pub vcpu-length : (w s : ℕ) → length (vcpu_bytes w s) ≡ 20
vcpu-length w s = simp (length-append, length-bytes)

pub body-length : (f : Figures) (d : ℕ) → length (body_of f d) ≡ f.vcpus * 20
body-length f d = each-length f.vcpus 20 _ (λ v. vcpu-length (f.weight d v) (f.service d v))

-- byte r of vCPU v of body d
pub vcpu-at : (f : Figures) (d v r : ℕ) → v < f.vcpus → r < 20
    → get_or (body_of f d) (v * 20 + r) 0 ≡ get_or (vcpu_bytes (f.weight d v) (f.service d v)) r 0
vcpu-at f d v r = each_at f.vcpus 20 _ (λ u. vcpu-length (f.weight d u) (f.service d u)) v r

pair-bytes : (m x n y : ℕ) → AllBytes (bytes m x ++ bytes n y)
pair-bytes m x n y = bytes-append (bytes m x) (bytes n y) (bytes_are_bytes m x) (bytes_are_bytes n y)

module _ (f : Figures) where
  abbrev header : List ℕ
  header = usge ++ bytes 2 f.domains

  abbrev table : List ℕ
  table = each f.domains (entry f.domains f.vcpus)

  abbrev bodies : List ℕ
  bodies = each f.domains (body_of f)

  header-length : length header ≡ 6
  header-length = simp length-bytes

  table-length : length (header ++ table) ≡ 6 + f.domains * 6
  table-length =
      length-append header table
      ∙ ap₂ (λ (x y : ℕ). x + y) header-length (each-length f.domains 6 _ (entry_length f.domains f.vcpus))

  pub file-length : length (file f) ≡ start f.domains f.vcpus f.domains
  unfolding file
  file-length =
      length-append (header ++ table) bodies
      ∙ ap₂ (λ (x y : ℕ). x + y) table-length (each-length f.domains (f.vcpus * 20) (body_of f) (body-length f))

  pub file-bytes : AllBytes (file f)
  unfolding file
  file-bytes =
      let opening : AllBytes header = bytes-append usge (bytes 2 f.domains) (omega arith) (bytes_are_bytes 2 f.domains) in
      let lines : AllBytes table = each-bytes f.domains _ (λ d. pair-bytes 4 _ 2 f.vcpus) in
      bytes-append (header ++ table) bodies (bytes-append header table opening lines)
      (each-bytes f.domains (body_of f) (λ d. each-bytes f.vcpus _ (λ v. pair-bytes 4 (f.weight d v) 16 (f.service d v))))

  -- byte i of the count of domains
  pub count_at : (i : ℕ) → i < 2 → get_or (file f) (4 + i) 0 ≡ get_or (bytes 2 f.domains) i 0
  unfolding file
  count_at i l =
      get_or-append (header ++ table) bodies 0 (4 + i) (omega (arith, table-length))
      ∙ get_or-append header table 0 (4 + i) (omega (arith, header-length)) ∙ at-behind usge (bytes 2 f.domains) 4 i refl

  -- byte r of line d
  pub line_at : (d r : ℕ) → d < f.domains → r < 6 → get_or (file f) (6 + d * 6 + r) 0 ≡ get_or (entry f.domains f.vcpus d) r 0
  unfolding file
  line_at d r l k =
      let e : 6 + d * 6 + r ≡ 6 + (d * 6 + r) = omega arith in
      get_or-append (header ++ table) bodies 0 (6 + d * 6 + r) (omega (arith, table-length))
      ∙ ap (λ (i : ℕ). get_or (header ++ table) i 0) e ∙ at-behind header table 6 (d * 6 + r) header-length
      ∙ each_at f.domains 6 _ (entry_length f.domains f.vcpus) d r l k

  -- byte r of body d
  pub body_at : (d r : ℕ) → d < f.domains → r < f.vcpus * 20
      → get_or (file f) (start f.domains f.vcpus d + r) 0 ≡ get_or (body_of f d) r 0
  unfolding file
  body_at d r l k =
      let e : start f.domains f.vcpus d + r ≡ 6 + f.domains * 6 + (d * (f.vcpus * 20) + r) = omega arith in
      ap (λ (i : ℕ). get_or (header ++ table ++ bodies) i 0) e
      ∙ at-behind (header ++ table) bodies (6 + f.domains * 6) (d * (f.vcpus * 20) + r) table-length
      ∙ each_at f.domains (f.vcpus * 20) (body_of f) (body-length f) d r l k
