-- `usage_write::put_entries` meets its contract: a line is stored right behind those before it. Assumes nothing.
use Rattle.std.proofs.Common.{ℕ, ◌≡◌, ◌+◌, ◌*◌, ◌∙◌, ap, length, refl, add-one, arith}
use Rattle.std.proofs.lemmas.List.Edits.{sets}
use Rattle.big_endian.specs.Stores.{stored-behind}
use Rattle.usage_layout.specs.Layout.{each, entry}
use Rattle.usage_layout.proofs.Laws.{entry_length}
use Rattle.usage_write.proofs.Sizes.{lines-length}
use Rattle.usage_write.proofs.put_entries.Goals as goal

pub loop-d-init : goal.loop-d-init
unfolding each
loop-d-init c = refl

pub put-requires : goal.put-requires
put-requires c =
    let a = c.args in
    omega (arith, c.requires, ap length c.entry.ensures, entry_length a.n a.k c.loop-d.d)

pub loop-d-preserved : goal.loop-d-preserved
unfolding each
loop-d-preserved c =
    let a = c.args in
    let d = c.loop-d.d in
    let line = c.put.ensures ∙ ap (sets c.loop-d.out (6 + d * 6)) c.entry.ensures in
    rw add-one
    (stored-behind a.out.now 6 (each d (entry a.n a.k)) (entry a.n a.k d) c.loop-d.invariant line
    (omega (arith, lines-length a.n a.k d)))

pub returns : goal.returns
returns c =
    let a = c.args in
    let all : c.loop-d.d ≡ a.n = omega arith in
    c.loop-d.invariant ∙ ap (λ (n : ℕ). sets a.out.now 6 (each n (entry a.n a.k))) all
