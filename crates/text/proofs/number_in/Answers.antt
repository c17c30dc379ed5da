-- `text::number_in` meets its contract. Assumes nothing.
use Rattle.std.proofs.Common.{ℕ, suc, ◌+◌, ◌-◌, get_or, drop, sym, ◌∙◌, ap, add-one, drop_of_length-le, arith}
use Rattle.text.proofs.WordsSaid.{from, empty, start, other, large, more, last, next}
use Rattle.text.proofs.number_in.Goals as goal

pub returns-then-is_empty : goal.returns-then-is_empty
returns-then-is_empty c = empty c.args.word.now c.if-is_empty.ensures

pub loop-b-init : goal.loop-b-init
loop-b-init c = record { small = omega arith; left = start c.args.word.now c.if-is_empty.ensures }

pub returns-then-not-is_ascii_digit : goal.returns-then-not-is_ascii_digit
returns-then-not-is_ascii_digit c =
    let l = c.loop-b in
    let said = next c.args.word.now l.n l.b-index (omega arith) l.invariant.left in
    sym (said ∙ other l.n _ _ c.if-not-is_ascii_digit.ensures.value)

pub returns-in_err-checked_mul : goal.returns-in_err-checked_mul
returns-in_err-checked_mul c =
    let l = c.loop-b in
    let most = c.in_err-checked_mul.ensures in
    let said = next c.args.word.now l.n l.b-index (omega arith) l.invariant.left in
    c.from_residual.ensures ∙ sym (said ∙ large l.n _ _ (omega (arith, most)))

pub returns-in_err-n : goal.returns-in_err-n
returns-in_err-n c =
    let l = c.loop-b in
    let tens = c.in_ok-checked_mul.ensures in
    let most = c.in_err-n.ensures in
    let said = next c.args.word.now l.n l.b-index (omega arith) l.invariant.left in
    c.from_residual-in_err-n.ensures ∙ sym (said ∙ large l.n _ _ (omega (arith, tens, most)))

pub loop-b-preserved : goal.loop-b-preserved
loop-b-preserved c =
    let l = c.loop-b in
    let w = c.args.word.now in
    let digit = c.if-not-is_ascii_digit.ensures.cases in
    let tens = c.in_ok-checked_mul.ensures in
    let sum = c.in_ok-n.ensures in
    let b = get_or w l.b-index 0 in
    let said = next w l.n l.b-index (omega arith) l.invariant.left ∙ more l.n b _ (omega (arith, digit)) (omega (arith, digit)) in
    let now = sum.1 ∙ ap (λ (m : ℕ). m + (b - 48)) tens.1 in
    record {
      small = omega (arith, sum);
      left = said ∙ ap (λ (m : ℕ). from m (drop (suc l.b-index) w)) (sym now) ∙ ap (λ (k : ℕ). from c.in_ok-n.n (drop k w)) (sym (add-one l.b-index));
    }

pub returns : goal.returns
returns c =
    let l = c.loop-b in
    let none = drop_of_length-le c.args.word.now {i = l.b-index} (omega arith) in
    sym (l.invariant.left ∙ ap (from l.n) none ∙ last l.n l.invariant.small)
