-- The bytes of a record: there are 20, read back they are the record, and a script does of them what it does of the record. Assumes nothing.
use mathlib.Core.Bool.{Bool}
use mathlib.Core.Path.{◌≡◌, refl, ap, ◌∙◌}
use mathlib.Core.List.{List, [], ◌++◌, append_assoc}
use Prim.Native.Nat.{ℕ, ◌^◌, ◌<◌}
use native.Mathlib.Omega.{arith}
use lib.ListN.{length, length-append, get_or-append}
use lib.Seq.{get_or-append-add}
use borrow.Author.Tests.{le-ltb}
use Rattle.big_endian.specs.Numbers.{bytes, number}
use Rattle.big_endian.specs.Laws.{length-bytes, number-exact}
use Rattle.records.specs.declared.Record.{Record}
use Rattle.records.specs.Records.{record_of, planned, plan_of}
use Rattle.records.specs.Bytes.{FitsRecord, record_bytes}

pub record_length : (r : Record) → length (record_bytes r) ≡ 20
record_length r = simp (length-append, length-bytes)

-- the n bytes of x, behind other bytes, say x
behind : (s : List ℕ) (n x : ℕ) (t : List ℕ) (at : ℕ) → length s ≡ at → x < 256 ^ n → number (s ++ (bytes n x ++ t)) at n ≡ x
behind s n x t at e l =
    number-exact (s ++ (bytes n x ++ t)) at n x l
    (λ i h. rw (← e) (get_or-append-add s (bytes n x ++ t) i 0 ∙ get_or-append (bytes n x) t 0 i (omega (arith, length-bytes n x))))

-- whatever follows it
pub read_back : (r : Record) → FitsRecord r → (cs : List ℕ) → record_of (record_bytes r ++ cs) ≡ r
read_back r fits cs =
    let k = bytes 2 r.kind in
    let d = bytes 2 r.dom in
    let v = bytes 4 r.vcpu in
    let t = bytes 4 r.third in
    let b = bytes 8 r.value ++ cs in
    let kind = behind [] 2 r.kind (d ++ (v ++ (t ++ b))) 0 refl fits.kind in
    let dom = behind k 2 r.dom (v ++ (t ++ b)) 2 (length-bytes 2 r.kind) fits.dom in
    let vcpu = behind (k ++ d) 4 r.vcpu (t ++ b) 4 (simp (length-append, length-bytes)) fits.vcpu in
    let third = behind (k ++ d ++ v) 4 r.third b 8 (simp (length-append, length-bytes)) fits.third in
    let value = behind (k ++ d ++ v ++ t) 8 r.value cs 12 (simp (length-append, length-bytes)) fits.value in
    simp append_assoc
    (rw (kind, dom, simp append_assoc at vcpu, simp append_assoc at third, simp append_assoc at value))

pub plan-back : (b : Bool) (r : Record) → FitsRecord r → (cs : List ℕ) → plan_of b (record_bytes r ++ cs) ≡ planned b r
unfolding plan_of
plan-back b r fits cs =
    rw (le-ltb (length (record_bytes r ++ cs)) 20 (omega (arith, length-append (record_bytes r) cs, record_length r)))
    (ap (planned b) (read_back r fits cs))
