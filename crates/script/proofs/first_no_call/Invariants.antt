-- `script::first_no_call`: whether there is a host goes on with the records, and none so far is no call. Assumes nothing.
use Rattle.std.proofs.Common.{◌≡◌, ℕ, ◌<◌, false}
use Rattle.script.specs.NoCall.{built_at, no_call_at}
use Rattle.script.proofs.first_no_call.Given as goal

abbrev pub invariant-loop-i : goal.invariant-loop-i
invariant-loop-i l =
    record {
      there : l.there ≡ built_at l.built l.bytes l.i;
      calls : (k : ℕ) → k < l.i → no_call_at l.built l.bytes k ≡ false;
    }
