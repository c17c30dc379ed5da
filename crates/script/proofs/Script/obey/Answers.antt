-- `script::Script::obey` meets its contract. Assumes nothing.
use Rattle.std.proofs.Common.{◌≡◌, ◌≤◌, ◌&&◌, false, length, refl, arith}
use Rattle.text.specs.Places.{placed-none, placed-then, placed-within, placed_as}
use Rattle.host_text.specs.Rooms.{host_room}
use Rattle.script.specs.Script.{entry}
use Rattle.script.proofs.Turn.{next-is, line-put, shown-is, hidden-is, room-least}
use Rattle.script.proofs.Script.obey.Goals as goal
use Rattle.script.proofs.Script.obey.Goals.{else-states-via-then-states+else-self, else-states-via-else-states}

pub returns-then-self : goal.returns-then-self
unfolding entry
returns-then-self c =
    let a = c.args in
    let told = c.carry-told.ensures in
    let put = c.put_answer_line-past in
    let room = rw c.if-states.true at c.requires.fits in
    let next = next-is a.self.now a.bytes.now c.plan_of-plan.ensures _ told.carried c.built_after-self.ensures in
    let line =
    line-put a.self.now a.bytes.now c.plan_of-plan.ensures _ told.carried c.number_of-number.ensures (omega (arith, room))
    put.ensures.written put.ensures.past in
    let within : a.at ≤ length a.out.now = omega (arith, room) in
    let state = placed-within host_room (omega (arith, room, line.1, put.auto.out)) c.put_host.ensures.put c.put_host.ensures.end in
    record {
      next = next;
      placed = placed-then within line.0 (placed_as state (shown-is a.states next c.if-states.true c.if-self.true) refl refl);
      framed = told.framed;
    }

pub returns-else-states : goal.returns-else-states
unfolding entry
returns-else-states c =
    let a = c.args in
    let told = c.carry-told.ensures in
    let put = c.put_answer_line-past.ensures in
    let least = room-least a.states in
    let next = next-is a.self.now a.bytes.now c.plan_of-plan.ensures _ told.carried c.built_after-self.ensures in
    let line =
    line-put a.self.now a.bytes.now c.plan_of-plan.ensures _ told.carried c.number_of-number.ensures
    (omega (arith, c.requires.fits, least)) put.written put.past in
    let hidden : (a.states && c.built_after-self.result) ≡ false =
    elim c.else-states.branch [
      | else-states-via-then-states+else-self w ↦ rw (w.if-states.true, w.if-self.false) refl
      | else-states-via-else-states w ↦ rw w.if-states.false refl
    ] in
    record {
      next = next;
      placed =
          placed-then (omega (arith, c.requires.fits, least)) line.0
          (placed_as (placed-none _ _) (hidden-is a.states next hidden) refl refl);
      framed = told.framed;
    }
