-- `script::first_no_call` meets its contract. Assumes nothing.
use Rattle.std.proofs.Common.{refl, sym, ◌∙◌, add-one, arith, below_more}
use Rattle.script.specs.NoCall.{built_at}
use Rattle.script.proofs.first_no_call.Goals as goal

pub loop-i-init : goal.loop-i-init
unfolding built_at
loop-i-init c = record { there = refl; calls = λ k l. absurd (omega arith) }

pub loop-i-preserved : goal.loop-i-preserved
unfolding built_at
loop-i-preserved c =
    let l = c.loop-i in
    let planned = rw (l.invariant.there, c.after.ensures) at c.plan_of-plan.ensures in
    let call = rw planned at c.is_no_call.ensures in
    record {
      there = rw (add-one l.i, c.built_after-there.ensures, l.invariant.there, planned) refl;
      calls = below_more _ _ l.invariant.calls (sym call ∙ c.if-is_no_call.false);
    }
