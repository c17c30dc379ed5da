-- A file says the figures that it was made of, and is accepted. Assumes nothing.
use Prim.Native.Nat.{ℕ, ◌+◌, ◌*◌, ◌<◌, ◌≤◌}
use mathlib.Core.Bool.{true}
use mathlib.Core.Path.{◌≡◌, refl, sym, ap, ◌∙◌}
use mathlib.Core.List.{List}
use native.Mathlib.Decide.{ℕ_discrete}
use native.Mathlib.Nat.{add_assoc, mul-le-mul, mul-le-mul_right}
use native.Mathlib.Omega.{arith}
use borrow.Author.Tests.{le-leb, lt-leb}
use lib.ListN.{length, get_or, take, drop, length-take, length-drop, get_or-append}
use lib.Seq.{get_or-take, get_or-drop, ext_get_or}
use Rattle.big_endian.specs.Numbers.{bytes}
use Rattle.big_endian.specs.Laws.{length-bytes, number-exact}
use Rattle.usage_layout.specs.Layout.{Figures, Within, start, body_of, file}
use Rattle.usage_layout.specs.Files.{Says, EveryChoice}
use Rattle.usage_layout.specs.Reading.{
  all,
  opens,
  domains_in,
  offset_in,
  vcpus_in,
  weight_in,
  service_in,
  body_in,
  vcpus_each,
  shaped,
  accepted,
}
use Rattle.usage_layout.proofs.Each.{at-behind}
use Rattle.usage_layout.proofs.Parts.{file-length, count_at, line_at, body_at, vcpu-at, body-length}
use Rattle.scans.specs.Booleans.{all_two}
use Rattle.usage_layout.proofs.Accepted.{is-shaped}

module _ (f : Figures) (w : Within f) where
  -- no place in a file lies past 2,662
  start_small : (d : ℕ) → d ≤ f.domains → start f.domains f.vcpus d ≤ 2662
  start_small d l =
      let t : d ≤ 16 = omega (arith, w.domains) in
      let k : f.vcpus * 20 ≤ 160 = omega (arith, w.vcpus) in
      omega (arith, w.domains, mul-le-mul t k)

  pub file-short : length (file f) ≤ 2662
  file-short = omega (arith, file-length f, start_small f.domains (omega arith))

  domains-said : domains_in (file f) ≡ f.domains
  domains-said = number-exact (file f) 4 2 f.domains (omega (arith, w.domains)) (count_at f)

  module _ (d : ℕ) (l : d < f.domains) where
    offset-said : offset_in (file f) d ≡ start f.domains f.vcpus d
    offset-said = number-exact (file f) (6 + d * 6) 4 place (omega (arith, start_small d (omega arith))) there
      where
        place : ℕ
        place = start f.domains f.vcpus d

        there : (i : ℕ) → i < 4 → get_or (file f) (6 + d * 6 + i) 0 ≡ get_or (bytes 4 place) i 0
        there i h =
            line_at f d i l (omega arith)
            ∙ get_or-append (bytes 4 place) (bytes 2 f.vcpus) 0 i (omega (arith, length-bytes 4 place))

    vcpus-said : vcpus_in (file f) d ≡ f.vcpus
    vcpus-said = number-exact (file f) (10 + d * 6) 2 f.vcpus (omega (arith, w.vcpus)) there
      where
        there : (i : ℕ) → i < 2 → get_or (file f) (10 + d * 6 + i) 0 ≡ get_or (bytes 2 f.vcpus) i 0
        there i h =
            let e : 10 + d * 6 + i ≡ 6 + d * 6 + (4 + i) = omega arith in
            ap (λ (j : ℕ). get_or (file f) j 0) e ∙ line_at f d (4 + i) l (omega arith)
            ∙ at-behind (bytes 4 _) (bytes 2 f.vcpus) 4 i (length-bytes 4 _)

    body-said : body_in (file f) d ≡ body_of f d
    body-said = rw (offset-said, vcpus-said) (ext_get_or 0 stretch (body_of f d) (same_length ∙ sym (body-length f d)) same)
      where
        stretch : List ℕ
        stretch = take (f.vcpus * 20) (drop (start f.domains f.vcpus d) (file f))

        same_length : length stretch ≡ f.vcpus * 20
        same_length = simp (length-take, length-drop) (omega (arith, file-length f, mul-le-mul_right (f.vcpus * 20) l))

        same : (i : ℕ) → i < length stretch → get_or stretch i 0 ≡ get_or (body_of f d) i 0
        same i h =
            let k : i < f.vcpus * 20 = omega (arith, same_length) in
            get_or-take (f.vcpus * 20) _ i 0 k ∙ get_or-drop (start f.domains f.vcpus d) (file f) i 0 ∙ body_at f d i l k

    module _ (v : ℕ) (m : v < f.vcpus) where
      weight-said : weight_in (body_in (file f) d) v ≡ f.weight d v
      weight-said = rw body-said (number-exact (body_of f d) (v * 20) 4 (f.weight d v) (w.weight d v l m) there)
        where
          there : (i : ℕ) → i < 4 → get_or (body_of f d) (v * 20 + i) 0 ≡ get_or (bytes 4 (f.weight d v)) i 0
          there i h =
              vcpu-at f d v i m (omega arith)
              ∙ get_or-append (bytes 4 (f.weight d v)) _ 0 i (omega (arith, length-bytes 4 (f.weight d v)))

      service-said : service_in (body_in (file f) d) v ≡ f.service d v
      service-said = rw body-said (number-exact (body_of f d) (v * 20 + 4) 16 (f.service d v) (w.service d v l m) there)
        where
          there : (i : ℕ) → i < 16 → get_or (body_of f d) (v * 20 + 4 + i) 0 ≡ get_or (bytes 16 (f.service d v)) i 0
          there i h =
              rw add_assoc
              (vcpu-at f d v (4 + i) m (omega arith) ∙ at-behind (bytes 4 _) (bytes 16 (f.service d v)) 4 i (length-bytes 4 _))

  opens-said : opens (file f) ≡ true
  unfolding opens all file
  opens-said = refl

  shaped-said : shaped (file f) f.domains (vcpus_each (file f)) ≡ true
  shaped-said = go (ℕ_discrete f.domains 0)
    where
      go : Dec (f.domains ≡ 0) → shaped (file f) f.domains (vcpus_each (file f)) ≡ true
      go (yes e) =
          let z : f.domains * (f.vcpus * 20) ≡ 0 * (f.vcpus * 20) = ap (λ (n : ℕ). n * (f.vcpus * 20)) e in
          rw (lt-leb 12 (length (file f)) (omega (arith, file-length f)))
          (is-shaped (file f) f.domains 0 (record {
            domains = w.domains;
            vcpus = omega arith;
            whole = omega (arith, file-length f);
            offset = λ d l. absurd (omega arith);
            count = λ d l. absurd (omega arith);
            least = λ d v l m. absurd (omega arith);
          }))
      go (no e) =
          let t : 0 < f.domains = omega arith in
          rw (le-leb 12 (length (file f)) (omega (arith, file-length f)), vcpus-said 0 t)
          (is-shaped (file f) f.domains f.vcpus (record {
            domains = w.domains;
            vcpus = w.vcpus;
            whole = file-length f;
            offset = offset-said;
            count = vcpus-said;
            least = λ d v l m. rw (weight-said d l v m) (w.least d v l m);
          }))

  says : Says (file f) f
  unfolding accepted
  says =
      record {
        accepted = all_two opens-said (rw domains-said shaped-said);
        domains = domains-said;
        vcpus = vcpus-said;
        offset = offset-said;
        body = body-said;
        weight = λ d v l m. weight-said d l v m;
        service = λ d v l m. service-said d l v m;
      }

-- every choice within the limits has a file
pub has-file : EveryChoice
has-file = says
