-- A vCPU's weight and service in a body are those at its place in the file. Assumes nothing.
use mathlib.Core.Bool.{Bool, true, false, cond}
use mathlib.Core.List.{List, []}
use mathlib.Core.Path.{◌≡◌, refl, ◌∙◌, ap}
use Prim.Native.Nat.{ℕ, ◌+◌, ◌*◌, ◌≤◌, ◌<◌}
use native.Mathlib.Omega.{arith}
use borrow.Author.Tests.{ltb-true, le-ltb}
use lib.Dec.{ltb}
use lib.ListN.{length, length-take, length-drop}
use Rattle.big_endian.specs.Numbers.{number}
use Rattle.big_endian.specs.Laws.{number-within}
use Rattle.usage_layout.specs.Layout.{start}
use Rattle.usage_layout.specs.Reading.{accepted, domains_in, offset_in, vcpus_in, body_in, weight_in, service_in, vcpus_each}
use Rattle.usage_layout.proofs.Laws.{accepted-parts}
use Rattle.usage_parse.specs.Domains.{vcpus_of, weight_at, service_at}
use Rattle.usage_parse.specs.FileFigures.{vcpu_place, ReadsFile, EveryFile}

-- ---- a domain of an accepted file

module _ (s : List ℕ) (d : ℕ) (e : accepted s ≡ true) (l : d < domains_in s) where
  count : vcpus_in s d ≡ vcpus_each s
  count = (accepted-parts s e).shape.count d l

  -- all of its body is in the file
  size : length (body_in s d) ≡ vcpus_in s d * 20
  size = let f = (accepted-parts s e).fits d l in simp (length-take, length-drop) (omega arith)

  vcpus : vcpus_of (body_in s d) ≡ vcpus_each s
  vcpus = omega (arith, size, count)

  -- where each number of it stands
  there : (at m : ℕ) → at + m ≤ vcpus_each s * 20 → number (body_in s d) at m ≡ number s (start (domains_in s) (vcpus_each s) d + at) m
  there at m h =
      number-within s (offset_in s d) (vcpus_in s d * 20) at m (omega (arith, count))
      ∙ ap (λ (i : ℕ). number s (i + at) m) ((accepted-parts s e).shape.offset d l)

  weight : (v : ℕ) → weight_at (body_in s d) v ≡ cond (ltb v (vcpus_each s)) (number s (vcpu_place s d v) 4) 0
  weight v = ap (λ (n : ℕ). cond (ltb v n) (weight_in (body_in s d) v) 0) vcpus ∙ go (ltb v (vcpus_each s)) refl
    where
      go : (b : Bool) → ltb v (vcpus_each s) ≡ b → cond b (weight_in (body_in s d) v) 0 ≡ cond b (number s (vcpu_place s d v) 4) 0
      go true h = let m = ltb-true v (vcpus_each s) h in there (v * 20) 4 (omega arith)
      go false h = refl

  service : (v : ℕ) → service_at (body_in s d) v ≡ cond (ltb v (vcpus_each s)) (number s (vcpu_place s d v + 4) 16) 0
  service v = ap (λ (n : ℕ). cond (ltb v n) (service_in (body_in s d) v) 0) vcpus ∙ go (ltb v (vcpus_each s)) refl
    where
      go : (b : Bool) → ltb v (vcpus_each s) ≡ b → cond b (service_in (body_in s d) v) 0 ≡ cond b (number s (vcpu_place s d v + 4) 16) 0
      go true h =
          let m = ltb-true v (vcpus_each s) h in
          let same : start (domains_in s) (vcpus_each s) d + (v * 20 + 4) ≡ vcpu_place s d v + 4 = omega arith in
          there (v * 20 + 4) 16 (omega arith) ∙ ap (λ (i : ℕ). number s i 16) same
      go false h = refl

-- ---- any bytes: a body that is not there has no vCPU

pub file-read : EveryFile
file-read s d v = go (accepted s) (ltb d (domains_in s)) refl refl
  where
    none : (n at : ℕ) → cond (ltb v 0) (number [] at n) 0 ≡ 0
    none n at = rw (le-ltb v 0 (omega arith))

    go : (a b : Bool) → accepted s ≡ a → ltb d (domains_in s) ≡ b → ReadsFile s d v
    go true true e f =
        let l = ltb-true d (domains_in s) f in
        record {
          vcpus = simp (e, f) (vcpus s d e l);
          weight = simp (e, f) (weight s d e l v);
          service = simp (e, f) (service s d e l v);
        }
    go true false e f =
        record { vcpus = simp (e, f); weight = simp (e, f) (none 4 (v * 20)); service = simp (e, f) (none 16 (v * 20 + 4)) }
    go false b e f = record { vcpus = simp e; weight = simp e (none 4 (v * 20)); service = simp e (none 16 (v * 20 + 4)) }
