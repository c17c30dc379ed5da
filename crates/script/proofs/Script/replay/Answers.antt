-- `script::Script::replay` meets its contract. Assumes nothing.
use Rattle.std.proofs.Common.{◌<◌, ◌≤◌, ◌/◌, ◌*◌, length, drop, refl, ap, ◌∙◌, zero-le, add-one, arith}
use Rattle.text.specs.Places.{placed-none, placed-then}
use Rattle.script.specs.declared.Script.{Script}
use Rattle.script.specs.Script.{script_after, script_next, text, room}
use Rattle.script.proofs.Turn.{text-short, room-left}
use Rattle.script.proofs.Script.replay.Goals as goal

pub loop-i-init : goal.loop-i-init
unfolding script_after text
loop-i-init c = record { script = refl; placed = placed-none c.args.out.now 0; frame = c.frame_of-frame.ensures }

pub obey-written-requires-clause-fits : goal.obey-written-requires-clause-fits
obey-written-requires-clause-fits c =
    let a = c.args in
    let l = c.loop-i in
    let there : l.i < length a.out.now / room a.states =
    rw (← c.room_of.ensures) (omega (arith, c.loop-i-test.true, c.min-records.ensures)) in
    let short : l.written ≤ l.i * room a.states =
    omega (arith, l.invariant.placed.past, text-short a.states a.self.now a.bytes.now l.i) in
    omega (arith, l.auto.out, room-left a.states (length a.out.now) l.i l.written there short)

pub loop-i-preserved : goal.loop-i-preserved
unfolding script_after text
loop-i-preserved c =
    let a = c.args in
    let l = c.loop-i in
    let next = c.obey-written.ensures in
    let rest = drop (l.i * 20) a.bytes.now in
    record {
      script = rw (add-one l.i) (rw c.after.ensures at next.next ∙ ap (λ (s : Script). script_next s rest) l.invariant.script);
      placed = rw (add-one l.i) (placed-then zero-le l.invariant.placed (rw (l.invariant.script, c.after.ensures) at next.placed));
      frame = next.framed;
    }
