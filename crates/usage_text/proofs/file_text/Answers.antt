-- `usage_text::file_text` meets its contract. Assumes nothing.
use Rattle.std.proofs.Common.{ℕ, ◌≡◌, ◌++◌, min, List, length, replicate, Option, sym, ◌∙◌, ap, ap₂, subst, zero-le, zero-add, add-one, arith}
use lib.ListN.{length-replicate}
use Rattle.text.specs.Places.{Placed, placed-none, placed-then, text-of}
use Rattle.usage_layout.specs.Layout.{each}
use Rattle.usage_text.specs.BodyText.{body_lines}
use Rattle.usage_text.specs.FileText.{domain_lines, file_lines, file_text_of}
use Rattle.usage_text.proofs.file_text.Goals as goal

-- text that was put at the start of zeros
text_of : {t bytes : List ℕ} {end : ℕ} (count : Option ℕ) → Placed (replicate 13184 0) 0 t bytes end
    → record { bytes = bytes; length = end; count = count } ≡ file_text_of count t
text_of {t} count p = ap₂ (λ (b : List ℕ) (n : ℕ). record { bytes = b; length = n; count = count }) p.bytes (p.past ∙ zero-add (length t))

pub loop-d-init : goal.loop-d-init
unfolding each
loop-d-init c = record { placed = placed-none (replicate 13184 0) 0; short = omega arith; long = length-replicate {A = ℕ} 13184 0 }

pub put_body-length-requires : goal.put_body-length-requires
put_body-length-requires c = omega (arith, c.loop-d.invariant.short, c.loop-d.invariant.long, c.min-d-end.ensures)

pub loop-d-preserved : goal.loop-d-preserved
unfolding each
loop-d-preserved c =
    let a = c.args in
    let d = c.loop-d.d in
    let h = c.loop-d.invariant in
    let put = c.put_body-length in
    let more = placed-then zero-le h.placed put.ensures.placed in
    let text = ap (λ (b : List ℕ). each d (domain_lines a.file.now a.count) ++ body_lines d b) c.body_at.ensures.body
    ∙ sym (ap (λ (n : ℕ). each n (domain_lines a.file.now a.count)) (add-one d)) in
    record {
      placed = subst (λ (t : List ℕ). Placed (replicate 13184 0) 0 t put.new.out put.result) text more;
      short = omega (arith, put.ensures.upper_bound, h.short);
      long = put.auto.out ∙ h.long;
    }

-- after the loop all the lines are placed
placed-all : (c : goal.After-loop-d) → let a = c.args in
    Placed (replicate 13184 0) 0 (file_lines a.file.now a.count a.n) c.loop-d.bytes c.loop-d.length
unfolding file_lines
placed-all c =
    let a = c.args in
    let all : c.loop-d.d ≡ min a.n 16 = omega (arith, c.min-d-end.ensures) in
    subst (λ (n : ℕ). Placed (replicate 13184 0) 0 (each n (domain_lines a.file.now a.count)) c.loop-d.bytes c.loop-d.length) all
    c.loop-d.invariant.placed

pub returns-clause-value : goal.returns-clause-value
returns-clause-value c = text_of c.args.count (placed-all c)

pub returns-clause-lines : goal.returns-clause-lines
returns-clause-lines c = text-of (placed-all c)
