-- `usage_read::text_of` meets its contract: the lines by the reader's count are those by what the file says. Assumes nothing.
use Rattle.std.proofs.Common.{ℕ, zero, suc, min, Option, ◌≡◌, refl, ◌∙◌, ap, ap₂, List, ◌++◌, Bor}
use Rattle.usage_layout.specs.Layout.{each}
use Rattle.usage_parse.specs.Domains.{count_in}
use Rattle.usage_parse.proofs.Laws.{stretch-of}
use Rattle.usage_text.specs.BodyText.{body_lines}
use Rattle.usage_text.specs.FileText.{domain_lines, file_lines, lines_of, file_text_of}
use Rattle.usage_read.proofs.text_of.Goals as goal

-- parts that are the same make the same
each_same : (n : ℕ) (p q : ℕ → List ℕ) → ((d : ℕ) → p d ≡ q d) → each n p ≡ each n q
unfolding each
each_same zero p q h = refl
each_same (suc n) p q h = ap₂ ◌++◌ (each_same n p q h) (h n)

lines-of : (s : List ℕ) (n : ℕ) → file_lines s (count_in s) n ≡ lines_of s n
unfolding file_lines lines_of
lines-of s n = each_same (min n 16) (domain_lines s (count_in s)) _ (λ d. ap (body_lines d) (stretch-of s d))

pub returns-clause-value : goal.returns-clause-value
returns-clause-value c =
    let a = c.args in
    let text = ap₂ (λ (f : Bor (List ℕ)) (m : Option ℕ). file_text_of m (file_lines f.now m a.n)) c.open.ensures.0 c.open.ensures.1 in
    c.text.ensures.value ∙ text ∙ ap (file_text_of (count_in a.file.now)) (lines-of a.file.now a.n)

pub returns-clause-lines : goal.returns-clause-lines
returns-clause-lines c =
    let a = c.args in
    let text = ap₂ (λ (f : Bor (List ℕ)) (m : Option ℕ). file_lines f.now m a.n) c.open.ensures.0 c.open.ensures.1 in
    c.text.ensures.lines ∙ text ∙ lines-of a.file.now a.n
