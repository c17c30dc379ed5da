-- `usage_read::body_of` meets its contract: the reader's file and count give what the file gives. Assumes nothing.
use Rattle.std.proofs.Common.{ℕ, Option, List, ap₂, ◌∙◌, Bor}
use Rattle.usage_parse.specs.Domains.{stretch_at, place_at}
use Rattle.usage_parse.proofs.Laws.{stretch-of, place-of}
use Rattle.usage_read.proofs.body_of.Goals as goal

pub returns : goal.returns
returns c =
    let a = c.args in
    let e = c.open.ensures in
    let stretch = ap₂ (λ (f : Bor (List ℕ)) (n : Option ℕ). stretch_at f.now n a.domain) e.0 e.1 in
    let place = ap₂ (λ (f : Bor (List ℕ)) (n : Option ℕ). place_at f n a.domain) e.0 e.1 in
    (c.body.ensures.body ∙ stretch ∙ stretch-of a.file.now a.domain, c.body.ensures.place ∙ place ∙ place-of a.file a.domain)
