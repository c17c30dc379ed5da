-- A vCPU's weight and service in a file, and a domain's lines, are the page's, for any bytes. Assumes nothing.
use Rattle.std.specs.Prelude.{Option}
use Prim.Native.Nat.{ℕ, ◌+◌, ◌*◌, ◌/◌, ◌≤◌, min}
use mathlib.Core.Bool.{Bool, true, false, cond, ◌&&◌}
use mathlib.Core.List.{List, []}
use mathlib.Core.Path.{◌≡◌, refl, sym, ◌∙◌, ap, ap₂}
use native.Mathlib.Nat.{add-zero}
use native.Mathlib.Omega.{arith}
use lib.Dec.{ltb}
use lib.ListN.{length, take, drop, replicate, length-drop}
use lib.Seq.{length-take-le}
use borrow.Author.Tests.{lt-ltb, le-ltb, ltb-true}
use Rattle.scans.specs.Booleans.{both}
use Rattle.big_endian.specs.Laws.{number-within}
use Rattle.usage_layout.specs.Reading as reading
use Rattle.usage_layout.proofs.Laws.{accepted-parts}
use Rattle.usage_parse.specs.Domains as domains
use Rattle.usage_text.specs.declared.BodyText.{BodyText}
use Rattle.usage_text.specs.BodyText as usage
use Rattle.usage_text.specs.FileText as files
use Rattle.page.specs.Page.{times}
use Rattle.page.specs.Numbers.{parts, field}
use Rattle.page.specs.Lines.{usage_line, put}
use Rattle.page.specs.UsageFile as page
use Rattle.page.proofs.NumberLaws.{parts_are, parts_same, field_is}
use Rattle.page.proofs.LineLaws.{usage-line-is}
use Rattle.page.proofs.UsageAccepted.{number_at, count-is}
use Rattle.page.proofs.UsageReadLaws.{has-is, line-is, body_is, body-by-is}

-- ---- of any body
pub vcpus-of-body-is : (b : List ℕ) → domains.vcpus_of b ≡ page.vcpus_of_body b
vcpus-of-body-is b = refl

pub weight-of-body-is : (b : List ℕ) (v : ℕ) → domains.weight_at b v ≡ page.weight_of_body b v
weight-of-body-is b v =
    ap (λ (n : ℕ). cond (ltb v (length b / 20)) n 0) (number_at b (v * 20) (20 * v) 4 (omega arith))

pub service-of-body-is : (b : List ℕ) (v : ℕ) → domains.service_at b v ≡ page.service_of_body b v
service-of-body-is b v =
    ap (λ (n : ℕ). cond (ltb v (length b / 20)) n 0) (number_at b (v * 20 + 4) (20 * v + 4) 16 (omega arith))

pub body-lines_are : (d : ℕ) (b : List ℕ) → usage.body_lines d b ≡ page.body_text d b
unfolding usage.body_lines usage.vcpu_line
body-lines_are d b =
    parts_are (min (length b / 20) 8) _ _
    (λ v _. usage-line-is d v (domains.weight_at b v) (domains.service_at b v)
    ∙ ap₂ (usage_line d v) (weight-of-body-is b v) (service-of-body-is b v))

pub body-text-is : (d : ℕ) (b : List ℕ) → usage.body_text_of (usage.body_lines d b) ≡ page.body_text_of d b
body-text-is d b = ap text (body-lines_are d b)
  where
    text : List ℕ → BodyText
    text t = record { bytes = put (replicate 824 0) 0 t; length = length t }

-- ---- of a file's domain
module _ (s : List ℕ) (d : ℕ) where
  abbrev k : ℕ
  k = page.vcpus_in s

  abbrev stretch : List ℕ
  stretch = take (20 * k) (drop (page.start_in s d) s)

  module _ (e : page.has s d ≡ true) where
    old : domains.has_body s d ≡ true
    old = has-is s d ∙ e

    -- the stretch is whole, and of eight vCPUs at most
    long : length stretch ≡ 20 * k
    long =
        let x = both (reading.accepted s) (ltb d (reading.domains_in s)) old in
        let l = ltb-true d (reading.domains_in s) x.1 in
        let due = line-is s d old in
        length-take-le (20 * k) (drop (page.start_in s d) s)
        (omega (arith, length-drop (page.start_in s d) s, (accepted-parts s x.0).fits d l, due.0, due.1))

    few : k ≤ 8
    few =
        let x = both (reading.accepted s) (ltb d (reading.domains_in s)) old in
        let l = ltb-true d (reading.domains_in s) x.1 in
        let h = (accepted-parts s x.0).shape in
        omega (arith, h.vcpus, h.count d l, (line-is s d old).1)

    count : length stretch / 20 ≡ k
    count = omega (arith, long)

  -- m bytes from `at` on of vCPU v
  figure_is : (at m v : ℕ) → at + m ≤ 20
      → cond (ltb v (length (page.body s d) / 20)) (field (page.body s d) (20 * v + at) m) 0
      ≡ cond (page.has s d && ltb v k) (field s (page.start_in s d + 20 * v + at) m) 0
  figure_is at m v small = go (page.has s d) refl
    where
      go : (b : Bool) → page.has s d ≡ b
          → cond (ltb v (length (cond b stretch []) / 20)) (field (cond b stretch []) (20 * v + at) m) 0
          ≡ cond (b && ltb v k) (field s (page.start_in s d + 20 * v + at) m) 0
      go false e = rw (le-ltb v 0 (omega arith))
      go true e = ap (λ (n : ℕ). cond (ltb v n) (field stretch (20 * v + at) m) 0) (count e) ∙ here (ltb v k) refl
        where
          here : (t : Bool) → ltb v k ≡ t
              → cond t (field stretch (20 * v + at) m) 0 ≡ cond t (field s (page.start_in s d + 20 * v + at) m) 0
          here false q = refl
          here true q =
              let l = ltb-true v k q in
              sym (field_is stretch (20 * v + at) m)
              ∙ (number-within s (page.start_in s d) (20 * k) (20 * v + at) m (omega arith)
              ∙ number_at s (page.start_in s d + (20 * v + at)) (page.start_in s d + 20 * v + at) m (omega arith))

  weight-there : (v : ℕ) → page.weight_of_body (page.body s d) v ≡ page.weight_of s d v
  weight-there v =
      ap (λ (i : ℕ). cond (ltb v (length (page.body s d) / 20)) (field (page.body s d) i 4) 0) (sym (add-zero (20 * v)))
      ∙ (figure_is 0 4 v (omega arith)
      ∙ ap (λ (i : ℕ). cond (page.has s d && ltb v k) (field s i 4) 0) (add-zero (page.start_in s d + 20 * v)))

  service-there : (v : ℕ) → page.service_of_body (page.body s d) v ≡ page.service_of s d v
  service-there v = figure_is 4 16 v (omega arith)

  pub weight-of-is : (v : ℕ) → domains.weight_at (domains.stretch_of s d) v ≡ page.weight_of s d v
  weight-of-is v =
      weight-of-body-is (domains.stretch_of s d) v
      ∙ (ap (λ (b : List ℕ). page.weight_of_body b v) (body_is s d) ∙ weight-there v)

  pub service-of-is : (v : ℕ) → domains.service_at (domains.stretch_of s d) v ≡ page.service_of s d v
  service-of-is v =
      service-of-body-is (domains.stretch_of s d) v
      ∙ (ap (λ (b : List ℕ). page.service_of_body b v) (body_is s d) ∙ service-there v)

  -- from a file's bytes to a domain's lines
  pub domain-text-is : usage.body_lines d (domains.stretch_of s d) ≡ page.domain_text s d
  unfolding times
  domain-text-is =
      body-lines_are d (domains.stretch_of s d)
      ∙ (ap (page.body_text d) (body_is s d)
      ∙ ((λ i. parts (min (length (page.body s d) / 20) 8) (λ v. usage_line d v (weight-there v i) (service-there v i)))
      ∙ go (page.has s d) refl))
    where
      go : (b : Bool) → page.has s d ≡ b
          → parts (min (length (cond b stretch []) / 20) 8)
          (λ v. usage_line d v (cond (b && ltb v k) (page.weight_in s d v) 0) (cond (b && ltb v k) (page.service_in s d v) 0))
          ≡ cond b (parts k (λ v. usage_line d v (page.weight_in s d v) (page.service_in s d v))) []
      go false e = refl
      go true e =
          let n : min (length stretch / 20) 8 ≡ k = omega (arith, count e, few e) in
          ap (λ (m : ℕ). parts m (λ v. usage_line d v (cond (ltb v k) (page.weight_in s d v) 0) (cond (ltb v k) (page.service_in s d v) 0))) n
          ∙ parts_same k _ _
          (λ v l. ap (λ (t : Bool). usage_line d v (cond t (page.weight_in s d v) 0) (cond t (page.service_in s d v) 0)) (lt-ltb v k l))

-- the lines of the first domains of a file: told of the file, or by a count that is kept beside it
pub file-text-is : (s : List ℕ) (n : ℕ) → files.lines_of s n ≡ page.file_text s n
unfolding files.lines_of
file-text-is s n = parts_are (min n 16) _ _ (λ d _. domain-text-is s d)

pub text-by-is : (s : List ℕ) (count : Option ℕ) (n : ℕ) → files.file_lines s count n ≡ page.text_by s count n
unfolding files.file_lines
text-by-is s count n =
    parts_are (min n 16) _ _
    (λ d _. body-lines_are d (domains.stretch_at s count d) ∙ ap (page.body_text d) (body-by-is s count d))

-- the same with the count and zeros past them
pub file-text-made : (s : List ℕ) (n : ℕ) → files.file_text_of (domains.count_in s) (files.lines_of s n)
    ≡ page.file_text_of (page.count s) (page.file_text s n)
file-text-made s n = ap₂ page.file_text_of (count-is s) (file-text-is s n)

pub text-by-made : (s : List ℕ) (count : Option ℕ) (n : ℕ) → files.file_text_of count (files.file_lines s count n)
    ≡ page.file_text_of count (page.text_by s count n)
text-by-made s count n = ap (page.file_text_of count) (text-by-is s count n)
