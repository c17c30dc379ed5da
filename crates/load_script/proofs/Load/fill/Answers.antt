-- `Load::fill` meets its contract: each turn of the loop stores one record more. Assumes nothing.
use Rattle.std.proofs.Common.{List, ℕ, ◌/◌, ◌≡◌, ap, ◌∙◌, min, length, arith}
use Rattle.load_script.specs.declared.Load.{Load}
use Rattle.load_script.specs.Loads.{size, fitting}
use Rattle.load_script.proofs.FillLoop.{none-stored, some_left, one-stored}
use Rattle.load_script.proofs.Load.fill.Goals as goal

-- the turns of the loop
turns : (load : Load) (out : List ℕ) {n left : ℕ} → left ≡ size load → n ≡ min left (length out / 20) → n ≡ fitting load out
turns load out left count = count ∙ ap (λ (k : ℕ). min k (length out / 20)) left

pub loop-i-init : goal.loop-i-init
loop-i-init c = none-stored _ _

pub hand_out-next-requires : goal.hand_out-next-requires
hand_out-next-requires c =
    let count = turns c.args.self.now c.args.out.now c.records_left.ensures c.min-n.ensures in
    some_left c.loop-i.invariant (omega arith)

pub loop-i-preserved : goal.loop-i-preserved
loop-i-preserved c =
    let count = turns c.args.self.now c.args.out.now c.records_left.ensures c.min-n.ensures in
    one-stored c.loop-i.invariant (omega arith) c.hand_out-next.ensures.next c.hand_out-next.ensures.load c.put_record.ensures
