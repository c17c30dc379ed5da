-- `usage_parse::weighed` meets its contract. Assumes nothing.
use Rattle.std.proofs.Common.{◌∙◌, refl, arith, rules, tests, ℕ, ◌+◌, ◌*◌, leb}
use Rattle.std.proofs.lemmas.Iterator.{YieldsList-from_range}
use Rattle.std.proofs.lemmas.Iterator.Search.{all_from_yields_List}
use Rattle.big_endian.specs.Numbers.{number}
use Rattle.usage_parse.proofs.All.{all-below}
use Rattle.usage_parse.proofs.weighed.Goals as goal

pub returns : goal.returns
returns c =
    let a = c.args in
    let heavy = λ (i : ℕ). leb 1 (number a.s.now (a.from + i * 20) 4) in
    all_from_yields_List heavy _ _ _ c.all.ensures.ran (YieldsList-from_range 0 a.m a.m refl (omega arith)) (λ x b q k. search (rules, tests)) ∙ all-below a.m heavy
