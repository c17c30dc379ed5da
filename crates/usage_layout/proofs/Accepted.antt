-- What it takes to be accepted as a file, and what is known of bytes that are. Assumes nothing.
use Prim.Native.Nat.{ℕ, ◌+◌, ◌*◌, ◌<◌, ◌≤◌}
use mathlib.Core.Bool.{true}
use mathlib.Core.Path.{◌≡◌, ap, ◌∙◌}
use mathlib.Core.List.{List}
use native.Mathlib.Nat.{mul-le-mul_right}
use native.Mathlib.Omega.{arith}
use borrow.Author.Tests.{leb-true, eqb-true, le-leb, eq-eqb}
use lib.Arith.{digits_lt}
use lib.Dec.{leb, eqb}
use lib.ListN.{length}
use Rattle.big_endian.specs.Numbers.{number}
use Rattle.big_endian.specs.Laws.{number-within}
use Rattle.usage_layout.specs.Layout.{start}
use Rattle.usage_layout.specs.Reading.{
  all,
  opens,
  domains_in,
  offset_in,
  vcpus_in,
  weight_in,
  body_in,
  vcpus_each,
  line_right,
  weighed,
  shaped,
  accepted,
}
use Rattle.scans.specs.Booleans.{both, all_two}
use Rattle.usage_layout.proofs.Each.{by_parts}
use Rattle.usage_layout.proofs.Tests.{all_pass, each-passes}

-- a number of a body, as it stands in the file
pub body-number : (s : List ℕ) (d from k at m : ℕ) → offset_in s d ≡ from → vcpus_in s d ≡ k → at + m ≤ k * 20
    → number (body_in s d) at m ≡ number s (from + at) m
body-number s d from k at m o c l =
    number-within s (offset_in s d) (vcpus_in s d * 20) at m (rw c l) ∙ ap (λ (i : ℕ). number s (i + at) m) o

-- n domains of k vCPUs, lines and weights as they are due, and no byte after the last body
pub record Shaped (s : List ℕ) (n k : ℕ) : Type 0 where
  pub domains : n ≤ 16
  pub vcpus : k ≤ 8
  pub whole : length s ≡ start n k n
  pub offset : (d : ℕ) → d < n → offset_in s d ≡ start n k d
  pub count : (d : ℕ) → d < n → vcpus_in s d ≡ k
  pub least : (d v : ℕ) → d < n → v < k → 1 ≤ weight_in (body_in s d) v

-- the weight of vCPU v of domain d, which is vCPU d * k + v of all
weight-there : (s : List ℕ) (n k d v : ℕ) → v < k → offset_in s d ≡ start n k d → vcpus_in s d ≡ k
    → weight_in (body_in s d) v ≡ number s (start n k 0 + (d * k + v) * 20) 4
weight-there s n k d v l o c =
    let e : start n k d + v * 20 ≡ start n k 0 + (d * k + v) * 20 = omega arith in
    body-number s d (start n k d) k (v * 20) 4 o c (omega arith) ∙ ap (λ (i : ℕ). number s i 4) e

pub is-shaped : (s : List ℕ) (n k : ℕ) → Shaped s n k → shaped s n k ≡ true
unfolding shaped
is-shaped s n k h =
    all_two (le-leb n 16 h.domains)
    (all_two (le-leb k 8 h.vcpus) (all_two (eq-eqb (length s) (start n k n) h.whole) (all_two lines weights)))
  where
    lines : all n (line_right s n k) ≡ true
    lines =
        all_pass n (line_right s n k)
        (λ d l. all_two (eq-eqb (offset_in s d) (start n k d) (h.offset d l)) (eq-eqb (vcpus_in s d) k (h.count d l)))

    weights : weighed s (start n k 0) (n * k) ≡ true
    weights =
        all_pass (n * k) _
        (by_parts n k (λ i. leb 1 (number s (start n k 0 + i * 20) 4) ≡ true)
        (λ d v l m. rw (← weight-there s n k d v m (h.offset d l) (h.count d l))
        (le-leb 1 (weight_in (body_in s d) v) (h.least d v l m))))

has-shape : (s : List ℕ) (n k : ℕ) → shaped s n k ≡ true → Shaped s n k
unfolding shaped
has-shape s n k e =
    let x = both (leb n 16) _ e in
    let y = both (leb k 8) _ x.1 in
    let z = both (eqb (length s) (start n k n)) _ y.1 in
    let lines = both (all n (line_right s n k)) (weighed s (start n k 0) (n * k)) z.1 in
    let line : (d : ℕ) → d < n → (offset_in s d ≡ start n k d) × (vcpus_in s d ≡ k) =
    λ d l. right d (both (eqb (offset_in s d) (start n k d)) _ (each-passes n (line_right s n k) lines.0 d l)) in
    record {
      domains = leb-true n 16 x.0;
      vcpus = leb-true k 8 y.0;
      whole = eqb-true (length s) (start n k n) z.0;
      offset = λ d l. (line d l).0;
      count = λ d l. (line d l).1;
      least = λ d v l m.
          rw (weight-there s n k d v m (line d l).0 (line d l).1)
          (leb-true 1 (number s (start n k 0 + (d * k + v) * 20) 4) (each-passes (n * k) _ lines.1 (d * k + v) (digits_lt l m)));
    }
  where
    right : (d : ℕ) → (eqb (offset_in s d) (start n k d) ≡ true) × (eqb (vcpus_in s d) k ≡ true)
        → (offset_in s d ≡ start n k d) × (vcpus_in s d ≡ k)
    right d t = (eqb-true (offset_in s d) (start n k d) t.0, eqb-true (vcpus_in s d) k t.1)

-- what a reader of an accepted file relies on: it opens right and has its shape, and each line and each body lies within it
pub record Accepted (s : List ℕ) : Type 0 where
  pub opening : opens s ≡ true
  pub shape : Shaped s (domains_in s) (vcpus_each s)
  pub line : (d : ℕ) → d < domains_in s → 12 + d * 6 ≤ length s
  pub fits : (d : ℕ) → d < domains_in s → offset_in s d + vcpus_in s d * 20 ≤ length s

pub accepted-parts : (s : List ℕ) → accepted s ≡ true → Accepted s
unfolding accepted
accepted-parts s e =
    let x = both (opens s) (shaped s (domains_in s) (vcpus_each s)) e in
    let h = has-shape s (domains_in s) (vcpus_each s) x.1 in
    record {
      opening = x.0;
      shape = h;
      line = λ d l. omega (arith, h.whole);
      fits = λ d l. rw (h.offset d l, h.count d l) (omega (arith, h.whole, mul-le-mul_right (vcpus_each s * 20) l));
    }
