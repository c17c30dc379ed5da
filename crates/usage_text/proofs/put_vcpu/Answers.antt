-- `usage_text::put_vcpu` meets its contract. Assumes nothing.
use Rattle.std.proofs.Common.{◌∙◌, ap₂}
use Rattle.text.specs.Lines.{usage_line}
use Rattle.text.specs.Lengths.{usage-line-short}
use Rattle.text.specs.Places.{line-placed}
use Rattle.usage_text.specs.BodyText.{vcpu_line}
use Rattle.usage_text.proofs.put_vcpu.Goals as goal

pub returns : goal.returns
unfolding vcpu_line
returns c =
    let a = c.args in
    let text = c.usage_line-line.ensures.text
    ∙ ap₂ (λ w s. usage_line a.domain a.v w s) c.weight_at-weight.ensures c.service_at.ensures.exact in
    let put = line-placed a.out.now (vcpu_line a.domain a.body.now a.v) a.at 103 _ text (usage-line-short _ _ _ _) c.requires
    c.append.ensures.written c.append.ensures.past in
    record { placed = put.0; upper_bound = put.1 }
