-- `text::put_fields` meets its contract. Assumes nothing.
use Rattle.std.proofs.Common.{◌≤◌, ℕ, List, length, take, sym, ◌∙◌, ap, subst, take_all, add-one, arith}
use Rattle.std.proofs.Math.Nat.{min_comm}
use Rattle.std.proofs.lemmas.List.{length-take, take_min}
use Rattle.text.specs.Lines.{fields, fields-more}
use Rattle.text.specs.Places.{Placed, placed-then, placed-none}
use Rattle.text.proofs.put_fields.Goals as goal

few : (ns : List ℕ) (m : ℕ) → m ≤ 9 → length (take m ns) ≤ 9
few ns m l = omega (arith, length-take m ns)

pub loop-n-init : goal.loop-n-init
unfolding fields
loop-n-init c = record { placed = placed-none c.args.out.now c.args.at; short = omega arith }

pub put_field-past-requires : goal.put_field-past-requires
put_field-past-requires c =
    omega (arith, c.loop-n.invariant.short, c.min.ensures, few c.args.numbers.now c.min.result (omega (arith, c.min.ensures)))

pub loop-n-preserved : goal.loop-n-preserved
loop-n-preserved c =
    let l = c.loop-n in
    let a = c.args in
    let ns = take c.min.result a.numbers.now in
    let put = c.put_field-past in
    let more = placed-then (omega (arith, c.requires)) l.invariant.placed put.ensures.placed in
    let text = sym (ap (λ n. fields (take n ns)) (add-one l.n-index) ∙ fields-more ns l.n-index (omega arith)) in record {
      placed = subst (λ (t : List ℕ). Placed a.out.now a.at t put.new.out put.result) text more;
      short = omega (arith, put.ensures.upper_bound, l.invariant.short);
    }

pub returns-clause-placed : goal.returns-clause-placed
returns-clause-placed c =
    let l = c.loop-n in
    let a = c.args in
    let ns = a.numbers.now in
    let shown = ap (λ n. take n ns) (c.min.ensures ∙ min_comm (length ns) 9) ∙ take_min 9 ns in
    let all = take_all l.n-index (take c.min.result ns) (omega arith) ∙ shown in
    subst (λ (t : List ℕ). Placed a.out.now a.at (fields t) l.out l.past) all l.invariant.placed

pub returns-clause-upper_bound : goal.returns-clause-upper_bound
returns-clause-upper_bound c =
    omega (arith, c.loop-n.invariant.short, c.min.ensures, few c.args.numbers.now c.min.result (omega (arith, c.min.ensures)))
