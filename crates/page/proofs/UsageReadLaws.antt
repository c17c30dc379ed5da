-- What a reader tells of a domain, and the body that it gives, are the page's, for any bytes. Assumes nothing.
use Rattle.std.specs.Prelude.{Option, None, Some}
use Prim.Native.Nat.{ℕ, ◌+◌, ◌*◌}
use mathlib.Core.Bool.{Bool, true, false, cond, ◌&&◌}
use mathlib.Core.List.{List, []}
use mathlib.Core.Path.{◌≡◌, refl, ◌∙◌, ap, ap₂}
use native.Mathlib.Omega.{arith}
use denote.Ref.{Bor}
use lib.Dec.{ltb, leb}
use lib.ListN.{length, take, drop}
use borrow.Author.Tests.{le-leb, ltb-true}
use Rattle.scans.specs.Booleans.{both}
use Rattle.system.specs.declared.Answer.TheVariants.{Done, BadFile, NotInFile}
use Rattle.system.specs.Answers as answers
use Rattle.usage_layout.specs.Reading as reading
use Rattle.usage_layout.proofs.Laws.{accepted-parts}
use Rattle.usage_parse.specs.Domains as domains
use Rattle.page.specs.Numbers.{field}
use Rattle.page.specs.UsageFile as page
use Rattle.page.specs.UsageFile.{start}
use Rattle.page.proofs.NumberLaws.{field_is}
use Rattle.page.proofs.UsageFileLaws.{start_is}
use Rattle.page.proofs.UsageAccepted.{accepted-is, number_at}

-- 0, or 14, or 13
told_are : (a b : Bool) → answers.told (cond a (cond b Done NotInFile) BadFile) ≡ cond a (cond b 0 14) 13
told_are true true = refl
told_are true false = refl
told_are false b = refl

module _ (s : List ℕ) (d : ℕ) where
  pub told_is : answers.told (domains.answer_of s d) ≡ page.told s d
  told_is =
      ap₂ (λ (b : Bool) (n : ℕ). answers.told (cond b (cond (ltb d n) Done NotInFile) BadFile)) (accepted-is s)
      (field_is s 4 2)
      ∙ told_are (page.accepted s) (ltb d (page.domains_in s))

  pub has-is : domains.has_body s d ≡ page.has s d
  has-is = ap₂ (λ (b : Bool) (n : ℕ). b && ltb d n) (accepted-is s) (field_is s 4 2)

  -- the line of a domain that the file has says what is due
  pub line-is : domains.has_body s d
      ≡ true → (reading.offset_in s d ≡ page.start_in s d) × (reading.vcpus_in s d ≡ page.vcpus_in s)
  line-is e =
      let x = both (reading.accepted s) (ltb d (reading.domains_in s)) e in
      let h = accepted-parts s x.0 in
      let l = ltb-true d (reading.domains_in s) x.1 in
      let long = h.line d l in
      let k : reading.vcpus_each s ≡ page.vcpus_in s =
      ap (λ (b : Bool). cond b (reading.vcpus_in s 0) 0) (le-leb 12 (length s) (omega arith)) ∙ field_is s 10 2 in (
        h.shape.offset d l
            ∙ (start_is (reading.domains_in s) (reading.vcpus_each s) d ∙ ap₂ (λ (n m : ℕ). start n m d) (field_is s 4 2) k),
        h.shape.count d l ∙ k,
      )

  -- the body that a reader gives is the stretch that is due, and starts where it is due
  pub body_is : domains.stretch_of s d ≡ page.body s d
  body_is = go (domains.has_body s d) refl
      ∙ ap (λ (b : Bool). cond b (take (20 * page.vcpus_in s) (drop (page.start_in s d) s)) []) has-is
    where
      go : (b : Bool) → domains.has_body s d ≡ b
          → cond b (reading.body_in s d) [] ≡ cond b (take (20 * page.vcpus_in s) (drop (page.start_in s d) s)) []
      go true e =
          let due = line-is e in
          let more : reading.vcpus_in s d * 20 ≡ 20 * page.vcpus_in s = omega (arith, due.1) in
          ap₂ (λ (n m : ℕ). take n (drop m s)) more due.0
      go false e = refl

  body-start-is : domains.start_of s d ≡ page.body_start s d
  body-start-is = go (domains.has_body s d) refl ∙ ap (λ (b : Bool). cond b (page.start_in s d) 0) has-is
    where
      go : (b : Bool) → domains.has_body s d ≡ b → cond b (reading.offset_in s d) 0 ≡ cond b (page.start_in s d) 0
      go true e = (line-is e).0
      go false e = refl

-- in memory, it is that stretch of the slice itself
pub place_is : (s : Bor (List ℕ)) (d : ℕ) → domains.place_of s d ≡ page.further s.ref_ptr (page.body_start s.now d)
place_is s d = ap (page.further s.ref_ptr) (body-start-is s.now d)

-- ---- by a count that is kept beside the bytes, of any count
pub told-by-is : (n : Option ℕ) (d : ℕ) → answers.told (domains.answer_at n d) ≡ page.told_by n d
told-by-is None d = refl
told-by-is (Some n) d = told_are (leb n 16) (ltb d n)

module _ (s : List ℕ) (count : Option ℕ) (d : ℕ) where
  offset-is : reading.offset_in s d ≡ field s (6 + 6 * d) 4
  offset-is = number_at s (6 + d * 6) (6 + 6 * d) 4 (omega arith)

  vcpus_are : reading.vcpus_in s d ≡ field s (10 + 6 * d) 2
  vcpus_are = number_at s (10 + d * 6) (10 + 6 * d) 2 (omega arith)

  length-is : reading.vcpus_in s d * 20 ≡ 20 * field s (10 + 6 * d) 2
  length-is = omega (arith, vcpus_are)

  names-is : (n : Option ℕ) → domains.names_body s n d ≡ page.names s n d
  names-is None = refl
  names-is (Some n) =
      let e : 12 + d * 6 ≡ 12 + 6 * d = omega arith in
      let q : reading.offset_in s d + reading.vcpus_in s d * 20 ≡ field s (6 + 6 * d) 4 + 20 * field s (10 + 6 * d) 2 =
      omega (arith, offset-is, length-is) in
      ap₂ (λ (a b : ℕ). leb n 16 && (ltb d n && (leb a (length s) && leb b (length s)))) e q

  pub body-by-is : domains.stretch_at s count d ≡ page.body_by s count d
  body-by-is =
      ap₂ (λ (b : Bool) (l : List ℕ). cond b l []) (names-is count) (ap₂ (λ (k m : ℕ). take k (drop m s)) length-is offset-is)

  start-by-is : domains.start_at s count d ≡ page.start_by s count d
  start-by-is = ap₂ (λ (b : Bool) (m : ℕ). cond b m 0) (names-is count) offset-is

pub place-by-is : (s : Bor (List ℕ)) (count : Option ℕ) (d : ℕ) → domains.place_at s count d
    ≡ page.further s.ref_ptr (page.start_by s.now count d)
place-by-is s count d = ap (page.further s.ref_ptr) (start-by-is s.now count d)
