-- A script that a program takes in stretches, as `replay` and `trace` do, is the whole script. It is proved as
-- `held_as_played`. Assumes nothing.
use Rattle.std.specs.Prelude.{ℕ, ◌+◌, ◌*◌, Bool, true, false, ◌≡◌, List, [], ◌++◌, length, take}
use Rattle.std.proofs.Common.{arith}
use Rattle.script.specs.declared.Script.{Script}
use Rattle.script.specs.declared.Taken.{Taken}
use Rattle.script.specs.Script.{begun, script_after, room, taken, Replayed}
use Rattle.big_endian.specs.Numbers.{AllBytes}
use Rattle.played.specs.Played.{written, AsPlayed}

-- the bytes read so far, how many records they are, the text written so far, and the script held, where each stretch is handed to
-- `Script::replay`, which keeps its contract
pub data Held (states : Bool) : List ℕ → ℕ → List ℕ → Script → Type 0 where
  -- nothing was read
  first : Held states [] 0 [] begun
  -- a stretch after whole records; its own last record may be cut off
  more : {bs t : List ℕ} {n : ℕ} {c : Script} → Held states bs n t c → length bs ≡ n * 20
      → (stretch before out : List ℕ) (after : Script) (r : Taken)
      → Replayed states c stretch (taken states stretch before) before after r out
      → Held states (bs ++ stretch) (n + r.records) (t ++ take r.written out) after
  -- an empty one, after the end of the input
  ended : {bs t : List ℕ} {n : ℕ} {c : Script} → Held states bs n t c → (before out : List ℕ) (after : Script) (r : Taken)
      → Replayed states c [] (taken states [] before) before after r out
      → Held states bs (n + r.records) (t ++ take r.written out) after

-- where there is room for k records, a stretch of k whole ones is taken whole: `replay` hands over 1,000, `trace` 40
pub whole-taken : (states : Bool) (bs out : List ℕ) (k : ℕ) → length bs ≡ k * 20 → length out ≡ k * room states
    → taken states bs out ≡ k
whole-taken true bs out k e f = omega arith
whole-taken false bs out k e f = omega arith

-- the script held is that of all the bytes, the text written is theirs, and what holds of it holds
pub record HeldAsPlayed (states : Bool) (bs : List ℕ) (n : ℕ) (t : List ℕ) (c : Script) : Type 0 where
  pub script : c ≡ script_after begun bs n
  pub text : t ≡ written states bs n
  pub played : AsPlayed bs n

abbrev pub EveryStretch : Type 0
EveryStretch = (states : Bool) (bs t : List ℕ) (n : ℕ) (c : Script) → AllBytes bs → Held states bs n t c → HeldAsPlayed states bs n t c
