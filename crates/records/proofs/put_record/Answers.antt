-- `records::put_record` meets its contract: five stores right behind each other, where there is room for them. Assumes nothing.
use Rattle.std.proofs.Common.{◌≡◌, ℕ, ◌+◌, List, ◌++◌, length, arith, le-leb}
use Rattle.std.proofs.lemmas.List.Edits.{sets}
use Rattle.big_endian.specs.Numbers.{bytes}
use Rattle.big_endian.specs.Laws.{length-bytes}
use Rattle.big_endian.specs.Stores.{stored-behind}
use Rattle.records.specs.declared.Record.{Record}
use Rattle.records.specs.Bytes.{record_bytes}
use Rattle.records.proofs.put_record.Goals as goal

record_stored : (l : List ℕ) (at : ℕ) (r : Record) {a b c d e : List ℕ} → a ≡ sets l at (bytes 2 r.kind)
    → b ≡ sets a (at + 2) (bytes 2 r.dom) → c ≡ sets b (at + 4) (bytes 4 r.vcpu) → d ≡ sets c (at + 8) (bytes 4 r.third)
    → e ≡ sets d (at + 12) (bytes 8 r.value) → e ≡ sets l at (record_bytes r)
record_stored l at r {a} {b} {c} {d} {e} kind dom vcpu third value =
    let behind₂ = bytes 4 r.third ++ bytes 8 r.value in
    let behind₁ = bytes 4 r.vcpu ++ behind₂ in
    let e₃ = stored-behind c (at + 8) (bytes 4 r.third) (bytes 8 r.value) third value (omega (arith, length-bytes 4 r.third)) in
    let e₂ = stored-behind b (at + 4) (bytes 4 r.vcpu) behind₂ vcpu e₃ (omega (arith, length-bytes 4 r.vcpu)) in
    let e₁ = stored-behind a (at + 2) (bytes 2 r.dom) behind₁ dom e₂ (omega (arith, length-bytes 2 r.dom)) in
    stored-behind l at (bytes 2 r.kind) (bytes 2 r.dom ++ behind₁) kind e₁ (omega (arith, length-bytes 2 r.kind))

pub returns : goal.returns
returns c =
    let a = c.args in
    rw (le-leb (a.at + 20) (length a.out.now) (omega arith))
    (record_stored a.out.now a.at a.r c.put_at.ensures c.put_at-2.ensures c.put_at-3.ensures c.put_at-4.ensures c.put_at-5.ensures)
