-- One turn of a replay: the script after it, and the text that it writes. Assumes nothing.
use Rattle.std.proofs.Common.{◌≡◌, ℕ, zero, suc, ◌+◌, ◌*◌, ◌/◌, ◌%◌, ◌^◌, ◌<◌, ◌≤◌, Bool, true, false, cond, ◌&&◌, List, [], length, drop, refl, ap, ◌∙◌, zero-le, arith, length-append}
use Rattle.system.specs.Answers.{told}
use Rattle.calls.specs.declared.Call.{Call}
use Rattle.advance.specs.declared.Outcome.{Outcome}
use Rattle.host.specs.declared.Host.{Host}
use Rattle.host.specs.Step.{step}
use Rattle.host.specs.Outcomes.{HostOutcome, host_outcome, step_counted}
use Rattle.sched.specs.declared.Frame.{Frame}
use Rattle.host.proofs.Laws.{step_kept}
use Rattle.records.specs.declared.Plan.{Plan}
use Rattle.records.specs.Records.{plan_of}
use Rattle.text.specs.Lines.{answer_line, answer_room}
use Rattle.text.specs.Lengths.{answer-line-short}
use Rattle.text.specs.Places.{Placed, placed_as}
use Rattle.text.specs.AnswerPlaces.{answer_put, answer_end, answer-placed}
use Rattle.host_text.specs.HostText.{host_text}
use Rattle.host_text.specs.Rooms.{host_room}
use Rattle.host_text.specs.Lengths.{host-text-short}
use Rattle.script.specs.Frames.{IsFrameOf}
use Rattle.script.specs.declared.Script.{Script}
use Rattle.script.specs.Script.{carried, built_after, answered, script_next, line_told, host_shown, entry, script_after, text, room, script_of}

-- whatever the call, the frame stands
pub frame-stands : (h : Host) {f : Frame} → IsFrameOf h f → (c : Call) (r : Outcome) {h' : Host}
    → host_outcome r h' ≡ step_counted (step h c) → IsFrameOf h' f
frame-stands h w c r e =
    let k = step_kept h w.tabled c in
    let same = ap (λ (x : HostOutcome). x.host) e in
    record {
      known = w.known ∙ rw (same, k.verdict, k.shape.domains, k.shape.vcpus, k.shape.pcpus) refl;
      tabled = rw same k.tabled;
    }

module _ (c : Script) (bs : List ℕ) {p : Plan} (planned : p ≡ plan_of c.built bs) where
  -- the script after a record, and its line
  pub next-is : (r : Outcome) {h : Host} {b : Bool} → host_outcome r h ≡ carried c.host p → b ≡ built_after c.built p
      → script_of ((c.number + 1) % 2 ^ 64) b h ≡ script_next c bs
  unfolding script_next
  next-is r did e = rw (e, ap (λ (x : HostOutcome). x.host) did, planned) refl

  pub line-put : (r : Outcome) {h : Host} {n at m : ℕ} {out mid : List ℕ} → host_outcome r h ≡ carried c.host p → n ≡ told r.answer
      → at + answer_room ≤ length out
      → mid ≡ answer_put out at ((c.number + 1) % 2 ^ 64) n r.count → m ≡ answer_end out at ((c.number + 1) % 2 ^ 64) n r.count
      → Placed out at (line_told c bs) mid m × (m ≤ at + answer_room)
  line-put r {n = n} {at} {out = out} did e room o v =
      let there = answer-placed out at ((c.number + 1) % 2 ^ 64) n r.count room o v in
      let line : answer_line ((c.number + 1) % 2 ^ 64) n r.count ≡ line_told c bs =
      rw e (ap (λ (x : HostOutcome). answer_line ((c.number + 1) % 2 ^ 64) x.number x.count) (did ∙ ap (carried c.host) planned)) in
      (placed_as there.0 line refl refl, there.1)

-- the host is shown where it is asked for and there is one
pub shown-is : (states : Bool) {c d : Script} → c ≡ d → states ≡ true → c.built ≡ true
    → host_text c.host.system c.host.scheduler ≡ host_shown states d
shown-is states e f g = rw (← e, f, g) refl

pub hidden-is : (states : Bool) {c d : Script} → c ≡ d → (states && c.built) ≡ false → [] ≡ host_shown states d
hidden-is states e f = rw (← e, f) refl

pub room-least : (states : Bool) → answer_room ≤ room states
room-least true = omega arith
room-least false = omega arith

-- the most that a record's text takes, and that of n records
line-short : (c : Script) (bs : List ℕ) → length (line_told c bs) ≤ answer_room
line-short c bs = answer-line-short ((c.number + 1) % 2 ^ 64) (answered c bs).number (answered c bs).count

host-short : (c : Script) (b : Bool) → length (cond b (host_text c.host.system c.host.scheduler) []) ≤ host_room
host-short c true = host-text-short c.host.system c.host.scheduler
host-short c false = zero-le

entry-short : (states : Bool) (c : Script) (bs : List ℕ) → length (entry states c bs) ≤ room states
unfolding entry
entry-short true c bs =
    let d = script_next c bs in
    omega (arith, length-append (line_told c bs) (host_shown true d), line-short c bs, host-short d d.built)
entry-short false c bs = omega (arith, length-append (line_told c bs) [], line-short c bs)

pub text-short : (states : Bool) (c : Script) (bs : List ℕ) (n : ℕ) → length (text states c bs n) ≤ n * room states
unfolding text
text-short states c bs zero = zero-le
text-short states c bs (suc n) =
    let e = entry states (script_after c bs n) (drop (n * 20) bs) in
    let short = entry-short states (script_after c bs n) (drop (n * 20) bs) in
    omega (arith, length-append (text states c bs n) e, short, text-short states c bs n)

-- there is room for one of the records that are taken, after i of them
pub room-left : (states : Bool) (l i w : ℕ) → i < l / room states → w ≤ i * room states → w + room states ≤ l
room-left true l i w h b = omega arith
room-left false l i w h b = omega arith
