-- `usage_write::vcpu_bytes` meets its contract: five runs of four stores are one of twenty. Assumes nothing.
use Rattle.std.proofs.Common.{ℕ, List, ◌++◌, ◌≡◌, ◌∙◌, ap, sym, length, get_or, replicate, Fits, w32, arith, rules}
use Rattle.std.proofs.lemmas.List.Edits.{sets}
use Rattle.big_endian.specs.Numbers.{bytes}
use Rattle.big_endian.specs.Stores.{stored-behind}
use Rattle.service.specs.Service.{value}
use Rattle.usage_layout.specs.Layout.{vcpu_bytes}
use Rattle.usage_layout.proofs.Laws.{vcpu-length}
use Rattle.usage_write.proofs.Limbs.{limb-bytes}
use Rattle.usage_write.proofs.Stores.{stored-whole}
use Rattle.usage_write.proofs.vcpu_bytes.Goals as goal

pub returns : goal.returns
unfolding bytes
returns c =
    let a = c.args in
    let z : List ℕ = replicate 20 0 in
    let four : length a.service ≡ 4 = search rules in
    let limb : (i : ℕ) → Fits w32 (get_or a.service i 0) = λ i. search rules in
    let w = bytes 4 a.weight in
    let b : ℕ → List ℕ = λ i. bytes 4 (get_or a.service i 0) in
    let eight = stored-behind z 0 w (b 3) c.put_at.ensures c.put_at-2.ensures (omega arith) in
    let twelve = stored-behind z 0 (w ++ b 3) (b 2) eight c.put_at-3.ensures (omega arith) in
    let sixteen = stored-behind z 0 (w ++ b 3 ++ b 2) (b 1) twelve c.put_at-4.ensures (omega arith) in
    let all = stored-behind z 0 (w ++ b 3 ++ b 2 ++ b 1) (b 0) sixteen c.put_at-5.ensures (omega arith) in
    let limbs : w ++ b 3 ++ b 2 ++ b 1 ++ b 0 ≡ vcpu_bytes a.weight (value a.service) =
    sym (ap (λ (l : List ℕ). w ++ l) (limb-bytes a.service four (λ i. (limb i).fits))) in
    all ∙ ap (sets z 0) limbs ∙ stored-whole z _ (vcpu-length a.weight (value a.service))
