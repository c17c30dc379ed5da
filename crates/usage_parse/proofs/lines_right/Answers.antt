-- `usage_parse::lines_right` meets its contract. Assumes nothing.
use Rattle.std.proofs.Common.{◌∙◌, refl, arith, rules, tests}
use Rattle.std.proofs.lemmas.Iterator.{YieldsList-from_range}
use Rattle.std.proofs.lemmas.Iterator.Search.{all_from_yields_List}
use Rattle.usage_layout.specs.Reading.{line_right}
use Rattle.usage_parse.proofs.All.{all-below}
use Rattle.usage_parse.proofs.lines_right.Goals as goal

pub returns : goal.returns
returns c =
    let a = c.args in
    let right = line_right a.s.now a.n a.k in
    all_from_yields_List right _ _ _ c.all.ensures.ran (YieldsList-from_range 0 a.n a.n refl (omega arith)) (λ x b q k. search (rules, tests)) ∙ all-below a.n right
