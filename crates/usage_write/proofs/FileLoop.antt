-- What is stored of a file once the first i slots were passed, from the first to the last. Assumes nothing.
use Rattle.std.proofs.Common.{◌≡◌, sym, ap, ap₂, ◌∙◌, ℕ, ◌+◌, ◌*◌, ◌/◌, ◌%◌, ◌<◌, ◌≤◌, arith}
use Rattle.std.proofs.Common.{List, ◌++◌, append_assoc, append-nil, length, length-append}
use Rattle.std.proofs.lemmas.List.Edits.{sets}
use Rattle.big_endian.specs.Numbers.{bytes}
use Rattle.big_endian.specs.Laws.{length-bytes}
use Rattle.big_endian.specs.Stores.{stored-behind}
use Rattle.usage_layout.specs.Layout.{usge, each, entry, vcpu_bytes, file, padded, zeros, Figures, Within}
use Rattle.usage_layout.proofs.Laws.{vcpu-length, file-short}
use Rattle.usage_layout.proofs.Laws.{upto, upto-none, upto_all, upto-length, upto_next, upto_stays}
use Rattle.usage_write.proofs.Sizes.{lines-length, vcpus-before}
use Rattle.usage_write.proofs.Stores.{stored-file}

-- the table of contents, and all that stands before the bodies
abbrev lines : Figures → List ℕ
lines f = each f.domains (entry f.domains f.vcpus)

abbrev head : Figures → List ℕ
head f = usge ++ bytes 2 f.domains ++ lines f

head-length : (f : Figures) → length (head f) ≡ 6 + f.domains * 6
head-length f =
    simp length-append
    (omega (arith, length-bytes 2 f.domains, lines-length f.domains f.vcpus f.domains))

-- `out` holds the file as far as the first i slots write it, and that ends at `at`
pub record Stored (f : Figures) (i : ℕ) (out : List ℕ) (at : ℕ) : Type 0 where
  pub held : out ≡ sets (zeros 2662) 0 (head f ++ upto f i)
  pub end : length (head f ++ upto f i) ≡ at

pub none-stored : (f : Figures) (n k : ℕ) {a b c : List ℕ} → n ≡ f.domains → k ≡ f.vcpus → a ≡ sets (zeros 2662) 0 usge
    → b ≡ sets a 4 (bytes 2 n) → c ≡ sets b 6 (each n (entry n k)) → Stored f 0 c (6 + n * 6)
none-stored f n k p q e₁ e₂ e₃ =
    let none : head f ++ upto f 0 ≡ head f = ap (λ (t : List ℕ). head f ++ t) (upto-none f) ∙ append-nil (head f) in
    let count = stored-behind (zeros 2662) 0 usge (bytes 2 f.domains) e₁ (rw p at e₂) (omega arith) in
    let table =
    stored-behind (zeros 2662) 0 (usge ++ bytes 2 f.domains) (lines f) count (rw (p, q) at e₃)
    (omega (arith, length-bytes 2 f.domains)) in
    rw p (record { held = table ∙ ap (sets (zeros 2662) 0) (sym none); end = ap length none ∙ head-length f })

module _ (f : Figures) (i : ℕ) {out : List ℕ} {at : ℕ} (h : Stored f i out at) (few : f.vcpus ≤ 8) where
  -- a slot of a vCPU
  pub next-stored : {x : List ℕ} {e weight service : ℕ} → i % 8 < f.vcpus → weight ≡ f.weight (i / 8) (i % 8)
      → service ≡ f.service (i / 8) (i % 8) → x ≡ sets out at (vcpu_bytes weight service) → e ≡ at + 20 → Stored f (i + 1) x e
  next-stored {x} {e} {weight} {service} l e₁ e₂ e₃ e₄ =
      record {
        held = stored-behind (zeros 2662) 0 (head f ++ upto f i) (vcpu_bytes weight service) h.held e₃ (omega (arith, h.end))
            ∙ ap (sets (zeros 2662) 0) more;
        end = sym (ap length more) ∙ length-append (head f ++ upto f i) _ ∙ ap₂ ◌+◌ h.end (vcpu-length weight service) ∙ sym e₄;
      }
    where
      more : head f ++ upto f i ++ vcpu_bytes weight service ≡ head f ++ upto f (i + 1)
      more =
          append_assoc (head f) (upto f i) (vcpu_bytes weight service)
          ∙ ap (λ (t : List ℕ). head f ++ t)
          (ap (λ (t : List ℕ). upto f i ++ t) (ap₂ vcpu_bytes e₁ e₂) ∙ sym (upto_next f few i l))

  -- a slot without one
  pub absent-stored : {x : List ℕ} {e : ℕ} → f.vcpus ≤ i % 8 → x ≡ out → e ≡ at → Stored f (i + 1) x e
  absent-stored l e₁ e₂ =
      let same = ap (λ (t : List ℕ). head f ++ t) (upto_stays f few i l) in
      record { held = e₁ ∙ h.held ∙ ap (sets (zeros 2662) 0) (sym same); end = ap length same ∙ h.end ∙ sym e₂ }

  -- the bytes of one more vCPU fit
  pub room : f.domains ≤ 16 → i < f.domains * 8 → i % 8 < f.vcpus → at + 20 ≤ 2662
  room domains l m =
      omega (
        arith,
        h.end,
        length-append (head f) (upto f i),
        head-length f,
        upto-length f i,
        domains,
        vcpus-before (i / 8) f.vcpus (omega arith) few,
      )

  pub file-stored : Within f → i ≡ f.domains * 8 → (out ≡ padded (file f)) × (at ≡ length (file f))
  unfolding file
  file-stored w e =
      let whole : head f ++ upto f i ≡ file f =
      ap (λ (t : List ℕ). head f ++ t) (ap (upto f) e ∙ upto_all f f.domains) in
      (h.held ∙ ap (sets (zeros 2662) 0) whole ∙ stored-file (file f) (file-short f w), sym h.end ∙ ap length whole)
