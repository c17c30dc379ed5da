-- Two accepted files that say the same are the same bytes, so that a file is the one that its figures make. Assumes nothing.
use Prim.Native.Nat.{ℕ, ◌+◌, ◌*◌, ◌^◌, ◌<◌, ◌≤◌}
use mathlib.Core.Bool.{true}
use mathlib.Core.Path.{◌≡◌, refl, sym, ap, subst, ◌∙◌}
use mathlib.Core.List.{List}
use native.Mathlib.Decide.{ℕ_discrete}
use native.Mathlib.Omega.{arith}
use borrow.Author.Tests.{eqb-true, lt-leb}
use lib.ListN.{length, get_or}
use lib.Seq.{ext_get_or}
use Rattle.big_endian.specs.Numbers.{number, AllBytes}
use Rattle.big_endian.specs.Laws.{number-below, number_determines}
use Rattle.usage_layout.specs.Layout.{usge, Within, start, file}
use Rattle.usage_layout.specs.Reading.{opens, domains_in, vcpus_in, weight_in, service_in, body_in, vcpus_each, figures_in}
use Rattle.usage_layout.specs.Files.{Says, Alike, NoTwoAlike, NothingElse}
use Rattle.usage_layout.proofs.Each.{by_parts, by_two}
use Rattle.usage_layout.proofs.Parts.{file-bytes}
use Rattle.usage_layout.proofs.Tests.{each-passes}
use Rattle.usage_layout.proofs.Accepted.{Shaped, Accepted, body-number, accepted-parts}
use Rattle.usage_layout.proofs.HasFile.{has-file}

-- byte i is the same in both
abbrev Agree : List ℕ → List ℕ → ℕ → Type 0
Agree s t i = get_or s i 0 ≡ get_or t i 0

module _ (s t : List ℕ) (a : AllBytes s) (b : AllBytes t) where
  -- an equal number makes its bytes agree
  agree : (at n : ℕ) → number s at n ≡ number t at n → (i j : ℕ) → at + i ≡ j → i < n → Agree s t j
  agree at n e i j q l = subst (Agree s t) q (number_determines s t a b at at n e i l)

  module _ (n k : ℕ) (p : Shaped s n k) (q : Shaped t n k) where
    lines-agree : (i : ℕ) → i < n * 6 → Agree s t (6 + i)
    lines-agree = by_parts n 6 (λ i. Agree s t (6 + i)) line
      where
        line : (d i : ℕ) → d < n → i < 6 → Agree s t (6 + (d * 6 + i))
        line d i l =
            by_two 4 2 (λ j. Agree s t (6 + (d * 6 + j)))
            (λ j. agree (6 + d * 6) 4 (p.offset d l ∙ sym (q.offset d l)) j _ (omega arith))
            (λ j. agree (10 + d * 6) 2 (p.count d l ∙ sym (q.count d l)) j _ (omega arith)) i

    -- an equal number of two bodies is equal where it stands
    number-there : (d : ℕ) → d < n → (at m : ℕ) → at + m ≤ k * 20 → number (body_in s d) at m ≡ number (body_in t d) at m
        → number s (start n k d + at) m ≡ number t (start n k d + at) m
    number-there d l at m h e =
        sym (body-number s d (start n k d) k at m (p.offset d l) (p.count d l) h) ∙ e
        ∙ body-number t d (start n k d) k at m (q.offset d l) (q.count d l) h

    module _ (weights : (d v : ℕ) → d < n → v < k → weight_in (body_in s d) v ≡ weight_in (body_in t d) v)
        (services : (d v : ℕ) → d < n → v < k → service_in (body_in s d) v ≡ service_in (body_in t d) v) where
      bodies-agree : (i : ℕ) → i < n * (k * 20) → Agree s t (6 + n * 6 + i)
      bodies-agree =
          by_parts n (k * 20) (λ i. Agree s t (6 + n * 6 + i))
          (λ d i l. by_parts k 20 (λ j. Agree s t (6 + n * 6 + (d * (k * 20) + j))) (λ v j. vcpu d v j l) i)
        where
          vcpu : (d v i : ℕ) → d < n → v < k → i < 20 → Agree s t (6 + n * 6 + (d * (k * 20) + (v * 20 + i)))
          vcpu d v i l m =
              by_two 4 16 (λ j. Agree s t (6 + n * 6 + (d * (k * 20) + (v * 20 + j))))
              (λ j. agree _ 4 (number-there d l (v * 20) 4 (omega arith) (weights d v l m)) j _ (omega arith))
              (λ j. agree _ 16 (number-there d l (v * 20 + 4) 16 (omega arith) (services d v l m)) j _ (omega arith)) i

opening-agrees : (s t : List ℕ) → opens s ≡ true → opens t ≡ true → (i : ℕ) → i < 4 → Agree s t i
unfolding opens
opening-agrees s t e f i l =
    eqb-true (get_or s i 0) (get_or usge i 0) (each-passes 4 _ e i l)
    ∙ sym (eqb-true (get_or t i 0) (get_or usge i 0) (each-passes 4 _ f i l))

-- with no domain there is no line to say how many vCPUs each has
none_each : (s : List ℕ) → Accepted s → domains_in s ≡ 0 → vcpus_each s ≡ 0
none_each s h e =
    let z : domains_in s * (vcpus_each s * 20) ≡ 0 * (vcpus_each s * 20) = ap (λ (n : ℕ). n * (vcpus_each s * 20)) e in
    rw (lt-leb 12 (length s) (omega (arith, h.shape.whole)))

same-each : (s t : List ℕ) → Accepted s → Accepted t → domains_in s ≡ domains_in t
    → ((d : ℕ) → d < domains_in s → vcpus_in s d ≡ vcpus_in t d) → vcpus_each s ≡ vcpus_each t
same-each s t x y e counts = go (ℕ_discrete (domains_in s) 0)
  where
    go : Dec (domains_in s ≡ 0) → vcpus_each s ≡ vcpus_each t
    go (yes z) = none_each s x z ∙ sym (none_each t y (sym e ∙ z))
    go (no z) = sym (x.shape.count 0 (omega arith)) ∙ counts 0 (omega arith) ∙ y.shape.count 0 (omega arith)

-- equal counts, weights and services make equal files
pub same-file : NoTwoAlike
same-file s t a b g h alike =
    ext_get_or 0 s t (p.whole ∙ sym q.whole)
    (λ i l. by_two (6 + n * 6) (n * (k * 20)) (Agree s t) front bodies i (rw (← p.whole) l))
  where
    n : ℕ
    n = domains_in s

    k : ℕ
    k = vcpus_each s

    x : Accepted s
    x = accepted-parts s g

    y : Accepted t
    y = accepted-parts t h

    p : Shaped s n k
    p = x.shape

    q : Shaped t n k
    q =
        subst (λ (m : ℕ). Shaped t m k) (sym alike.domains)
        (subst (λ (m : ℕ). Shaped t (domains_in t) m) (sym (same-each s t x y alike.domains alike.vcpus)) y.shape)

    header : (i : ℕ) → i < 6 → Agree s t i
    header =
        by_two 4 2 (Agree s t) (opening-agrees s t x.opening y.opening) (λ i. agree s t a b 4 2 alike.domains i (4 + i) refl)

    front : (i : ℕ) → i < 6 + n * 6 → Agree s t i
    front = by_two 6 (n * 6) (Agree s t) header (lines-agree s t a b n k p q)

    bodies : (i : ℕ) → i < n * (k * 20) → Agree s t (6 + n * 6 + i)
    bodies =
        bodies-agree s t a b n k p q (λ d v l m. alike.weight d v l (rw (p.count d l) m))
        (λ d v l m. alike.service d v l (rw (p.count d l) m))

-- exactly this layout is accepted
pub accepted-file : NothingElse
accepted-file s a g = (within, same)
  where
    h : Shaped s (domains_in s) (vcpus_each s)
    h = (accepted-parts s g).shape

    below : (d at m : ℕ) → d < domains_in s → at + m ≤ vcpus_each s * 20 → number (body_in s d) at m < 256 ^ m
    below d at m l t =
        rw (body-number s d _ (vcpus_each s) at m (h.offset d l) (h.count d l) t) (number-below s a _ m)

    within : Within (figures_in s)
    within =
        record {
          domains = h.domains;
          vcpus = h.vcpus;
          least = h.least;
          weight = λ d v l m. below d (v * 20) 4 l (omega arith);
          service = λ d v l m. below d (v * 20 + 4) 16 l (omega arith);
        }

    says : Says (file (figures_in s)) (figures_in s)
    says = has-file (figures_in s) within

    alike : Alike s (file (figures_in s))
    alike =
        record {
          domains = sym says.domains;
          vcpus = λ d l. h.count d l ∙ sym (says.vcpus d l);
          weight = λ d v l m. sym (says.weight d v l (rw (h.count d l) at m));
          service = λ d v l m. sym (says.service d v l (rw (h.count d l) at m));
        }

    same : s ≡ file (figures_in s)
    same = same-file s (file (figures_in s)) a (file-bytes (figures_in s)) g says.accepted alike
