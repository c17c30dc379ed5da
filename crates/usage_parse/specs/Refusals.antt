-- When a domain of a file is refused: 13 exactly where the bytes are no file, 14 exactly where they are one that has not the
-- domain, and then its stretch is empty. Assumes nothing.
use Rattle.std.specs.Prelude.{Bool, true, false, cond, ◌&&◌, List, [], ◌↔◌, ◌≡◌, refl, ℕ, ◌≤◌, ltb}
use Rattle.std.proofs.Common.{arith, ltb-false, le-ltb}
use Rattle.system.specs.declared.Answer.TheVariants.{Done, BadFile, NotInFile}
use Rattle.system.specs.Answers.{told}
use Rattle.usage_layout.specs.Reading.{accepted, domains_in, body_in}
use Rattle.usage_parse.specs.Domains.{answer_of, stretch_of}

pub bad_file_iff : (s : List ℕ) (d : ℕ) → (told (answer_of s d) ≡ told BadFile) ↔ (accepted s ≡ false)
bad_file_iff s d = (go (accepted s) (ltb d (domains_in s)), λ e. simp e)
  where
    go : (a t : Bool) → told (cond a (cond t Done NotInFile) BadFile) ≡ told BadFile → a ≡ false
    go true true e = absurd (omega arith)
    go true false e = absurd (omega arith)
    go false t e = refl

pub not_in_file_iff :
    (s : List ℕ) (d : ℕ) → (told (answer_of s d) ≡ told NotInFile) ↔ ((accepted s ≡ true) × (domains_in s ≤ d))
not_in_file_iff s d = (
  λ e. let t = go (accepted s) (ltb d (domains_in s)) e in (t.0, ltb-false d (domains_in s) t.1),
  λ h. simp (h.0, le-ltb _ _ h.1),
)
  where
    go : (a t : Bool) → told (cond a (cond t Done NotInFile) BadFile) ≡ told NotInFile → (a ≡ true) × (t ≡ false)
    go true true e = absurd (omega arith)
    go true false e = (refl, refl)
    go false t e = absurd (omega arith)

pub empty_unless_done : (s : List ℕ) (d : ℕ) → (answer_of s d ≡ Done → ⊥) → stretch_of s d ≡ []
empty_unless_done s d = go (accepted s) (ltb d (domains_in s))
  where
    go : (a t : Bool) → (cond a (cond t Done NotInFile) BadFile ≡ Done → ⊥) → cond (a && t) (body_in s d) [] ≡ []
    go true true h = absurd (h refl)
    go true false h = refl
    go false t h = refl
