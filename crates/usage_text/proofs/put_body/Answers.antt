-- `usage_text::put_body` meets its contract. Assumes nothing.
use Rattle.std.proofs.Common.{ℕ, ◌≡◌, min, List, sym, ap, subst, add-one, arith}
use Rattle.text.specs.Places.{Placed, placed-none, placed-then}
use Rattle.usage_layout.specs.Layout.{each}
use Rattle.usage_parse.specs.Domains.{vcpus_of}
use Rattle.usage_text.specs.BodyText.{vcpu_line, body_lines}
use Rattle.usage_text.proofs.put_body.Goals as goal

pub loop-v-init : goal.loop-v-init
unfolding each
loop-v-init c = record { placed = placed-none c.args.out.now c.args.at; short = omega arith }

pub put_vcpu-past-requires : goal.put_vcpu-past-requires
put_vcpu-past-requires c = omega (arith, c.requires, c.loop-v.invariant.short, c.loop-v.auto.out, c.min-v-end.ensures)

pub loop-v-preserved : goal.loop-v-preserved
unfolding each
loop-v-preserved c =
    let a = c.args in
    let h = c.loop-v.invariant in
    let put = c.put_vcpu-past in
    let more = placed-then (omega (arith, c.requires)) h.placed put.ensures.placed in
    let text = sym (ap (λ (n : ℕ). each n (vcpu_line a.domain a.body.now)) (add-one c.loop-v.v)) in
    record {
      placed = subst (λ (t : List ℕ). Placed a.out.now a.at t put.new.out put.result) text more;
      short = omega (arith, put.ensures.upper_bound, h.short);
    }

pub returns-clause-placed : goal.returns-clause-placed
unfolding body_lines
returns-clause-placed c =
    let a = c.args in
    let all : c.loop-v.v ≡ min (vcpus_of a.body.now) 8 = omega (arith, c.min-v-end.ensures, c.vcpu_count.ensures) in
    subst (λ (n : ℕ). Placed a.out.now a.at (each n (vcpu_line a.domain a.body.now)) c.loop-v.out c.loop-v.past) all
    c.loop-v.invariant.placed

pub returns-clause-upper_bound : goal.returns-clause-upper_bound
returns-clause-upper_bound c = omega (arith, c.loop-v.invariant.short, c.min-v-end.ensures)
