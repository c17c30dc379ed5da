-- The bodies of a file, written by slots, 8 for each domain: what the first i slots write. Assumes nothing.
use Prim.Native.Nat.{ℕ, suc, ◌+◌, ◌*◌, ◌/◌, ◌%◌, ◌<◌, ◌≤◌, min}
use mathlib.Core.Path.{◌≡◌, sym, ap, ap₂, ◌∙◌}
use mathlib.Core.List.{List, [], ◌++◌, append_assoc, append-nil}
use native.Mathlib.Decide.{ℕ_discrete}
use native.Mathlib.Omega.{arith}
use lib.ListN.{length, length-append}
use Rattle.usage_layout.specs.Layout.{each, Figures, vcpu_bytes, body_of}
use Rattle.usage_layout.proofs.Each.{each-length}
use Rattle.usage_layout.proofs.Parts.{vcpu-length, body-length}

-- d whole bodies, and m vCPUs of the next
abbrev pub written : Figures → ℕ → ℕ → List ℕ
written f d m = each d (body_of f) ++ each m (λ v. vcpu_bytes (f.weight d v) (f.service d v))

-- what the first i slots write; a slot from the count of vCPUs on writes nothing
unfoldable pub upto : Figures → ℕ → List ℕ
upto f i = written f (i / 8) (min (i % 8) f.vcpus)

written-turn : (f : Figures) (d : ℕ) → written f (suc d) 0 ≡ written f d f.vcpus
unfolding each
written-turn f d = append-nil (written f d f.vcpus)

written_next : (f : Figures) (d m : ℕ) → written f d (suc m) ≡ written f d m ++ vcpu_bytes (f.weight d m) (f.service d m)
unfolding each
written_next f d m = sym (append_assoc (each d (body_of f)) _ (vcpu_bytes (f.weight d m) (f.service d m)))

pub upto_all : (f : Figures) (n : ℕ) → upto f (n * 8) ≡ each n (body_of f)
unfolding upto each
upto_all f n =
    let q : n * 8 / 8 ≡ n = omega arith in
    let z : min (n * 8 % 8) f.vcpus ≡ 0 = omega arith in
    ap₂ (written f) q z ∙ append-nil (each n (body_of f))

pub upto-none : (f : Figures) → upto f 0 ≡ []
unfolding each
upto-none f = upto_all f 0

pub upto-length : (f : Figures) (i : ℕ) → length (upto f i) ≡ (i / 8 * f.vcpus + min (i % 8) f.vcpus) * 20
unfolding upto
upto-length f i =
    let whole : length (each (i / 8) (body_of f)) ≡ i / 8 * (f.vcpus * 20) = each-length (i / 8) _ (body_of f) (body-length f) in
    length-append (each (i / 8) (body_of f)) _
    ∙ ap₂ (λ (x y : ℕ). x + y) whole (each-length (min (i % 8) f.vcpus) 20 _ (λ v. vcpu-length (f.weight (i / 8) v) _))
    ∙ omega arith

module _ (f : Figures) (few : f.vcpus ≤ 8) (i : ℕ) where
  upto-suc : upto f (i + 1) ≡ written f (i / 8) (min (suc (i % 8)) f.vcpus)
  unfolding upto
  upto-suc = go (ℕ_discrete (i % 8) 7)
    where
      go : Dec (i % 8 ≡ 7) → upto f (i + 1) ≡ written f (i / 8) (min (suc (i % 8)) f.vcpus)
      go (yes e) =
          let q : (i + 1) / 8 ≡ suc (i / 8) = omega arith in
          let z : min ((i + 1) % 8) f.vcpus ≡ 0 = omega arith in
          ap₂ (written f) q z ∙ written-turn f (i / 8) ∙ ap (written f (i / 8)) (omega arith)
      go (no e) = ap₂ (written f) (omega arith) (omega arith)

  -- the slot of a vCPU writes its bytes
  pub upto_next : i % 8 < f.vcpus → upto f (i + 1) ≡ upto f i ++ vcpu_bytes (f.weight (i / 8) (i % 8)) (f.service (i / 8) (i % 8))
  unfolding upto
  upto_next l =
      let more : min (suc (i % 8)) f.vcpus ≡ suc (i % 8) = omega arith in
      let same : min (i % 8) f.vcpus ≡ i % 8 = omega arith in
      upto-suc ∙ ap (written f (i / 8)) more ∙ rw same (written_next f (i / 8) (i % 8))

  -- the others write nothing
  pub upto_stays : f.vcpus ≤ i % 8 → upto f (i + 1) ≡ upto f i
  unfolding upto
  upto_stays l = upto-suc ∙ ap (written f (i / 8)) (omega arith)
