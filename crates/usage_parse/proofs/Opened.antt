-- The count that a reader keeps beside a file stands for whether the file is accepted. Assumes nothing.
use mathlib.Core.Bool.{Bool, true, false, cond, ◌&&◌}
use mathlib.Core.List.{List, []}
use mathlib.Core.Path.{◌≡◌, refl, ap}
use Prim.Native.Nat.{ℕ, ◌+◌, ◌*◌}
use borrow.Author.Tests.{ltb-true, le-leb}
use lib.Dec.{leb, ltb}
use lib.ListN.{length}
use Rattle.usage_layout.specs.Reading.{accepted, domains_in, offset_in, vcpus_in, body_in, refused_count, count_of}
use Rattle.std.specs.Prelude.{Some, None, unwrap_or}
use Rattle.usage_layout.proofs.Laws.{accepted-parts}
use Rattle.usage_parse.specs.Domains.{answer_of, has_body, start_of, count_in, answer_at, names_body, start_at}
use Rattle.usage_parse.specs.DomainLaws.{ToldByTheCount, GivenByTheCount, PlacedByTheCount, CountedAsANumber}

-- whether the line and the body of domain d lie within the bytes
abbrev within : List ℕ → ℕ → Bool
within s d = leb (12 + d * 6) (length s) && leb (offset_in s d + vcpus_in s d * 20) (length s)

-- those of an accepted file do
accepted-within : (s : List ℕ) (d : ℕ) → accepted s ≡ true → (ltb d (domains_in s) && within s d) ≡ ltb d (domains_in s)
accepted-within s d e = go (ltb d (domains_in s)) refl
  where
    go : (t : Bool) → ltb d (domains_in s) ≡ t → (t && within s d) ≡ t
    go false l = refl
    go true l =
        let parts = accepted-parts s e in
        let below = ltb-true d (domains_in s) l in
        simp (le-leb _ _ (parts.line d below), le-leb _ _ (parts.fits d below))

few-domains : (s : List ℕ) → accepted s ≡ true → leb (domains_in s) 16 ≡ true
few-domains s e = le-leb _ _ (accepted-parts s e).shape.domains

pub answer-of : ToldByTheCount
unfolding count_in
answer-of s d = go (accepted s) refl
  where
    go : (t : Bool) → accepted s ≡ t → answer_at (cond t (Some (domains_in s)) None) d ≡ answer_of s d
    go true e = simp (e, few-domains s e)
    go false e = simp e

names-body : (s : List ℕ) (d : ℕ) → names_body s (count_in s) d ≡ has_body s d
unfolding count_in
names-body s d = go (accepted s) refl
  where
    go : (t : Bool) → accepted s ≡ t → names_body s (cond t (Some (domains_in s)) None) d ≡ (t && ltb d (domains_in s))
    go true e = simp (few-domains s e) (accepted-within s d e)
    go false e = refl

pub stretch-of : GivenByTheCount
stretch-of s d = ap (λ t. cond t (body_in s d) []) (names-body s d)

start-of : (s : List ℕ) (d : ℕ) → start_at s (count_in s) d ≡ start_of s d
start-of s d = ap (λ t. cond t (offset_in s d) 0) (names-body s d)

pub place-of : PlacedByTheCount
place-of s d = ap (λ from. (s.ref_ptr.0, from + s.ref_ptr.1)) (start-of s.now d)

pub count-of : CountedAsANumber
unfolding count_in count_of
count-of s = go (accepted s)
  where
    go : (t : Bool) → unwrap_or (cond t (Some (domains_in s)) None) refused_count ≡ cond t (domains_in s) refused_count
    go true = refl
    go false = refl
