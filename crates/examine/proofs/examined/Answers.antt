-- `examine::examined` meets its contract. Assumes nothing.
use Rattle.std.proofs.Common.{◌≡◌, ℕ, ◌+◌, ◌%◌, ◌^◌, ◌≤◌, true, false, ◌||◌, ◌==◌, List, []}
use Rattle.std.proofs.Common.{length, drop, refl, ap, zero-le, arith, length-append}
use Rattle.host.specs.Outcomes.{HostOutcome}
use Rattle.records.specs.declared.Record.{Record}
use Rattle.records.specs.Records.{record_at}
use Rattle.script.specs.declared.Script.{Script}
use Rattle.script.specs.Script.{script_of}
use Rattle.test_reads.specs.Reads.{reads_text, reads_room}
use Rattle.text.specs.Lines.{answer_room}
use Rattle.text.specs.Places.{Placed, placed-none, placed-then, placed-within, placed_as}
use Rattle.text.specs.AnswerPlaces.{answer_put, answer_end, answer-placed}
use Rattle.examine.specs.Examine.{answered, after, query_of, host_shown, text, line_told, entry_room, Examined}
use Rattle.examine.proofs.examined.Goals as goal

-- of the record at the start of bs, which is r, the host gives x; n is what is told
module _ (c : Script) (bs : List ℕ) {r : Record} (x : HostOutcome) {n : ℕ} (d : r ≡ record_at bs)
    (e : x ≡ answered c.host c.built bs r) (f : n ≡ x.number) where
  script : script_of ((c.number + 1) % 2 ^ 64) (c.built || n == 0) x.host ≡ after c bs
  unfolding after
  script = rw (f, e, d) refl

  line : (out : List ℕ) {mid : List ℕ} {past : ℕ} → entry_room ≤ length out
      → mid ≡ answer_put out 0 ((c.number + 1) % 2 ^ 64) n x.count
      → past ≡ answer_end out 0 ((c.number + 1) % 2 ^ 64) n x.count → Placed out 0 (line_told c bs) mid past × (past ≤ answer_room)
  line out room o p =
      let there = answer-placed out 0 ((c.number + 1) % 2 ^ 64) n x.count (omega (arith, room)) o p in
      (rw (f, e, d) at there.0, there.1)

  shown : (c.built || n == 0) ≡ true
      → reads_text x.host.system x.host.scheduler (query_of r) ≡ host_shown (after c bs) (record_at bs)
  unfolding host_shown
  shown b = rw (← script, b, ← d) refl

  hidden : (c.built || n == 0) ≡ false → [] ≡ host_shown (after c bs) (record_at bs)
  unfolding host_shown
  hidden b = rw (← script, b) refl

  whole : {out mid written : List ℕ} {past end : ℕ} → Placed out 0 (line_told c bs) mid past
      → Placed mid past (host_shown (after c bs) (record_at bs)) written end
      → Examined c bs out (script_of ((c.number + 1) % 2 ^ 64) (c.built || n == 0) x.host) end written
  unfolding text
  whole {out} told host =
      let there = placed-then zero-le told host in
      let t = text c bs in
      let long = length-append t (drop (0 + length t) out) in
      record { script = script; placed = there; whole = omega (arith, ap length there.bytes, there.past, long) }

pub returns-then-not-s : goal.returns-then-not-s
returns-then-not-s c =
    let a = c.args in
    let bs = a.bytes.now in
    let d = c.record_at-r.ensures in
    let e = c.answered-told.ensures in
    let f = c.number_of-number.ensures in
    let put = c.put_answer_line-past.ensures in
    let told = line a.s.now bs _ d e f a.out.now c.requires put.written put.past in
    whole a.s.now bs _ d e f told.0 (placed_as (placed-none _ _) (hidden a.s.now bs _ d e f c.if-not-s.true) refl refl)

pub returns : goal.returns
returns c =
    let a = c.args in
    let bs = a.bytes.now in
    let d = c.record_at-r.ensures in
    let e = c.answered-told.ensures in
    let f = c.number_of-number.ensures in
    let put = c.put_answer_line-past in
    let told = line a.s.now bs _ d e f a.out.now c.requires put.ensures.written put.ensures.past in
    let shows = c.reads.ensures in
    let reads = placed-within reads_room (omega (arith, c.requires, told.1, put.auto.out)) shows.put shows.end in
    whole a.s.now bs _ d e f told.0 (placed_as reads (shown a.s.now bs _ d e f c.if-not-s.false) refl refl)
