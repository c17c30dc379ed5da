-- `usage_read::answer_of` meets its contract: the reader's count says what the file says. Assumes nothing.
use Rattle.std.proofs.Common.{ℕ, Option, ap, ◌∙◌}
use Rattle.usage_parse.specs.Domains.{answer_at}
use Rattle.usage_parse.proofs.Laws.{answer-of}
use Rattle.usage_read.proofs.answer_of.Goals as goal

pub returns : goal.returns
returns c =
    let a = c.args in
    c.answer.ensures ∙ ap (λ (n : Option ℕ). answer_at n a.domain) c.open.ensures.1 ∙ answer-of a.file.now a.domain
