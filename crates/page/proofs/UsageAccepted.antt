-- What is accepted as a usage file is what the page accepts, for any bytes. Assumes nothing.
use Rattle.std.specs.Prelude.{None, Some}
use Prim.Native.Nat.{ℕ, zero, suc, ◌+◌, ◌*◌, ◌<◌}
use mathlib.Core.Bool.{Bool, true, false, cond, ◌&&◌, and_assoc}
use mathlib.Core.List.{List}
use mathlib.Core.Path.{◌≡◌, refl, sym, ◌∙◌, ap, ap₂}
use native.Mathlib.Decide.{ℕ_discrete}
use native.Mathlib.Nat.{add-suc, add-zero}
use native.Mathlib.Omega.{arith}
use lib.Dec.{leb, eqb}
use lib.ListN.{length, get_or, get_or-eq_default}
use borrow.Author.Tests.{leb-false, ne_eqb}
use Rattle.big_endian.specs.Numbers.{number}
use Rattle.usage_layout.specs.Layout as layout
use Rattle.usage_layout.specs.Reading as reading
use Rattle.usage_parse.specs.Domains.{count_in}
use Rattle.page.specs.Page.{times}
use Rattle.page.specs.Numbers.{all, field}
use Rattle.page.specs.UsageFile as page
use Rattle.page.specs.UsageFile.{start}
use Rattle.page.proofs.NumberLaws.{all-is, field_is}
use Rattle.page.proofs.UsageFileLaws.{start_is}

-- ---- a test of every number below n * k is one of every v below k of every d below n
all_more : (f : ℕ → Bool) (m k : ℕ) → all (m + k) f ≡ (all m f && all k (λ v. f (m + v)))
unfolding times
all_more f m zero = ap (λ (n : ℕ). all n f) (add-zero m) ∙ go (all m f)
  where
    go : (b : Bool) → b ≡ (b && true)
    go true = refl
    go false = refl
all_more f m (suc k) =
    ap (λ (n : ℕ). all n f) (add-suc m k)
    ∙ (ap (λ (b : Bool). b && f (m + k)) (all_more f m k) ∙ and_assoc (all m f) (all k (λ v. f (m + v))) (f (m + k)))

all-by-two : (f : ℕ → Bool) (n k : ℕ) → all (n * k) f ≡ all n (λ d. all k (λ v. f (d * k + v)))
unfolding times
all-by-two f zero k = let e : 0 * k ≡ 0 = omega arith in ap (λ (m : ℕ). all m f) e
all-by-two f (suc n) k =
    let e : suc n * k ≡ n * k + k = omega arith in
    ap (λ (m : ℕ). all m f) e
    ∙ (all_more f (n * k) k ∙ ap (λ (b : Bool). b && all k (λ v. f (n * k + v))) (all-by-two f n k))

-- ---- accepted
module _ (s : List ℕ) where
  -- the page's tests of n domains of k vCPUs
  abbrev shape : ℕ → ℕ → Bool
  shape n k =
      leb n 16
      && (leb k 8
      && (eqb (length s) (start n k n)
      && (all n (λ d. eqb (field s (6 + 6 * d) 4) (start n k d) && eqb (field s (10 + 6 * d) 2) k)
      && all n (λ d. all k (λ v. leb 1 (field s (start n k d + 20 * v) 4))))))

  pub number_at : (i j n : ℕ) → i ≡ j → number s i n ≡ field s j n
  number_at i j n e = field_is s i n ∙ ap (λ (m : ℕ). field s m n) e

  shaped-is : (n k : ℕ) → reading.shaped s n k ≡ shape n k
  unfolding reading.shaped
  shaped-is n k =
      ap (λ (b : Bool). leb n 16 && (leb k 8 && b))
      (ap₂ ◌&&◌ (ap (eqb (length s)) (start_is n k n)) (ap₂ ◌&&◌ (all-is n _ _ line) weights))
    where
      line : (d : ℕ) → reading.line_right s n k d
          ≡ (eqb (field s (6 + 6 * d) 4) (start n k d) && eqb (field s (10 + 6 * d) 2) k)
      line d =
          ap₂ ◌&&◌ (ap₂ eqb (number_at (6 + d * 6) (6 + 6 * d) 4 (omega arith)) (start_is n k d))
          (ap (λ (m : ℕ). eqb m k) (number_at (10 + d * 6) (10 + 6 * d) 2 (omega arith)))

      weights : reading.weighed s (layout.start n k 0) (n * k)
          ≡ all n (λ d. all k (λ v. leb 1 (field s (start n k d + 20 * v) 4)))
      weights =
          all-is (n * k) _ _ (λ i. ap (leb 1) (field_is s (layout.start n k 0 + i * 20) 4))
          ∙ (all-by-two (λ i. leb 1 (field s (layout.start n k 0 + i * 20) 4)) n k
          ∙ (λ i. all n (λ d. all k (λ v. leb 1 (field s (there d v i) 4)))))
        where
          there : (d v : ℕ) → layout.start n k 0 + (d * k + v) * 20 ≡ start n k d + 20 * v
          there d v = omega arith

  -- nothing of another length passes
  off-length : (n k : ℕ) → (length s ≡ start n k n → ⊥) → shape n k ≡ false
  off-length n k h = rw (ne_eqb (length s) (start n k n) h) (go (leb n 16) (leb k 8))
    where
      go : (a b : Bool) → (a && (b && false)) ≡ false
      go true true = refl
      go true false = refl
      go false b = refl

  -- with fewer than 12 bytes there is no line, and 6 are the only length
  pub cut : (n k : ℕ) → length s < 12 → (length s ≡ 6 → ⊥) → length s ≡ start n k n → ⊥
  cut zero k l h e = h (omega arith)
  cut (suc n) k l h e = omega arith

  pub no_line : length s ≡ 6 → page.vcpus_in s ≡ 0
  unfolding field times
  no_line e =
      let a : get_or s 10 0 ≡ 0 = get_or-eq_default s 0 (omega arith) in
      let b : get_or s 11 0 ≡ 0 = get_or-eq_default s 0 (omega arith) in
      omega (arith, a, b)

  each-is : (n : ℕ) → shape n (reading.vcpus_each s) ≡ shape n (page.vcpus_in s)
  each-is n = go (leb 12 (length s)) refl
    where
      go : (b : Bool) → leb 12 (length s) ≡ b → shape n (cond b (reading.vcpus_in s 0) 0) ≡ shape n (page.vcpus_in s)
      go true e = ap (shape n) (field_is s 10 2)
      go false e = six (ℕ_discrete (length s) 6)
        where
          short : length s < 12
          short = leb-false 12 (length s) e

          six : Dec (length s ≡ 6) → shape n 0 ≡ shape n (page.vcpus_in s)
          six (yes q) = ap (shape n) (sym (no_line q))
          six (no q) = off-length n 0 (cut n 0 short q)
              ∙ sym (off-length n (page.vcpus_in s) (cut n (page.vcpus_in s) short q))

  pub accepted-is : reading.accepted s ≡ page.accepted s
  unfolding reading.accepted reading.opens page.accepted
  accepted-is =
      ap₂ ◌&&◌ (all-is 4 _ _ (λ i. refl))
      (ap (λ (n : ℕ). reading.shaped s n (reading.vcpus_each s)) (field_is s 4 2)
      ∙ (shaped-is (page.domains_in s) (reading.vcpus_each s) ∙ each-is (page.domains_in s)))

  pub count-is : count_in s ≡ page.count s
  unfolding count_in
  count-is = ap₂ (λ (b : Bool) (n : ℕ). cond b (Some n) None) accepted-is (field_is s 4 2)
