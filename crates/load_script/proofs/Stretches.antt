-- Stretches of any sizes, one after another, make the script, and record n stands at n * 20. Assumes nothing.
use mathlib.Core.Path.{◌≡◌, ap, ◌∙◌}
use mathlib.Core.List.{◌++◌, append_assoc, append-nil}
use Prim.Native.Nat.{ℕ, zero, suc, ◌+◌, ◌*◌, ◌≤◌, ◌<◌}
use native.Mathlib.Nat.{add-zero, add-suc}
use native.Mathlib.Omega.{arith}
use lib.ListN.{take, drop}
use lib.Seq.{take_at, drop_at}
use Rattle.records.specs.Bytes.{record_bytes}
use Rattle.records.proofs.Laws.{record_length}
use Rattle.load_script.specs.declared.Load.{Load}
use Rattle.load_script.specs.Loads.{size, rest, load_after, nth_record, stretch, script}
use Rattle.load_script.proofs.Sizes.{size-after, stretch-length}

-- n records after m are m + n records
pub after-after : (m n : ℕ) (l : Load) → load_after (m + n) l ≡ load_after n (load_after m l)
unfolding load_after
after-after m zero l = rw add-zero
after-after m (suc n) l = rw add-suc (ap rest (after-after m n l))

pub stretches : (m n : ℕ) (l : Load) → stretch (m + n) l ≡ stretch m l ++ stretch n (load_after m l)
unfolding stretch
stretches m zero l = rw (add-zero, append-nil)
stretches m (suc n) l = rw (add-suc, stretches m n l, after-after m n l, append_assoc)

-- wherever a load is left off, what was handed out and what is still to come are its script
pub script_splits : (n : ℕ) (l : Load) → n ≤ size l → script l ≡ stretch n l ++ script (load_after n l)
script_splits n l h =
    let whole : size l ≡ n + size (load_after n l) = omega (arith, size-after n l) in
    ap (λ (k : ℕ). stretch k l) whole ∙ stretches n (size (load_after n l)) l

-- the script from record n on
pub from_record : (n : ℕ) (l : Load) → n < size l
    → drop (n * 20) (script l) ≡ record_bytes (nth_record l n) ++ script (load_after (suc n) l)
unfolding stretch
from_record n l h =
    let this = record_bytes (nth_record l n) in
    let after = script (load_after (suc n) l) in
    ap (drop (n * 20)) (script_splits (suc n) l h ∙ append_assoc (stretch n l) this after)
    ∙ drop_at (stretch n l) (this ++ after) (n * 20) (stretch-length n l)

pub nth : (n : ℕ) (l : Load) → n < size l → take 20 (drop (n * 20) (script l)) ≡ record_bytes (nth_record l n)
nth n l h = ap (take 20) (from_record n l h) ∙ take_at (record_bytes (nth_record l n)) _ 20 (record_length (nth_record l n))
