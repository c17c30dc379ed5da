-- `usage_write::write` meets its contract: each vCPU's bytes are put right behind what is stored so far. Assumes nothing.
use Rattle.std.proofs.Common.{ℕ, ◌+◌, ◌≤◌, ◌≡◌, ◌*◌, ◌/◌, ◌%◌, sym, ◌∙◌, ap, ap₂, length, take, arith}
use Rattle.std.proofs.Math.Seq.{take-append_seam}
use Rattle.std.proofs.lemmas.List.Edits.{sets}
use Rattle.service.specs.Service.{value}
use Rattle.system.specs.Records.{runtime_until}
use Rattle.system.specs.Reads.{vcpu_at}
use Rattle.system.specs.Slots.{slot_of}
use Rattle.policy.specs.Accounts.{used_weight}
use Rattle.usage_layout.specs.Layout.{Figures, Within, file, padded}
use Rattle.usage_layout.proofs.Laws.{vcpu-length, file-short, has-file}
use Rattle.usage_write.specs.Written.{figures_of}
use Rattle.usage_write.proofs.Fits.{none-fit, next-fit, absent-fit, figures-within}
use Rattle.usage_write.proofs.FileLoop.{none-stored, next-stored, absent-stored, room, file-stored}
use Rattle.usage_write.proofs.write.Goals as goal
use Rattle.usage_write.proofs.write.Goals.{then-i-k, else-i-k}

pub loop-i-init : goal.loop-i-init
unfolding figures_of
loop-i-init c =
    let a = c.args in
    let f = figures_of a.s.now a.p.now a.now in
    record {
      stored = none-stored f _ _ c.domain_count-n.ensures c.vcpus_per_domain-k.ensures c.put.ensures c.put_at.ensures
          c.put_entries.ensures;
      fit = none-fit f;
    }

pub put-requires-then-i-k : goal.put-requires-then-i-k
unfolding figures_of
put-requires-then-i-k c =
    let a = c.args in
    let space =
    room (figures_of a.s.now a.p.now a.now) c.loop-i.i c.loop-i.invariant.stored (omega arith) (omega arith)
    (omega (arith, c.domain_count-n.ensures, c.loop-i-test.true)) (omega (arith, c.vcpus_per_domain-k.ensures, c.if-i-k.true)) in
    let made = vcpu-length c.used_weight-weight.result (value c.runtime_until-service.result) in
    omega (arith, space, made, ap length c.vcpu_bytes.ensures)

pub overflow_add-length-then-i-k : goal.overflow_add-length-then-i-k
unfolding figures_of
overflow_add-length-then-i-k c =
    let a = c.args in
    let space : c.loop-i.length + 20 ≤ 2662 =
    room (figures_of a.s.now a.p.now a.now) c.loop-i.i c.loop-i.invariant.stored (omega arith) (omega arith)
    (omega (arith, c.domain_count-n.ensures, c.loop-i-test.true)) (omega (arith, c.vcpus_per_domain-k.ensures, c.if-i-k.true)) in
    omega arith

pub loop-i-preserved : goal.loop-i-preserved
unfolding figures_of vcpu_at
loop-i-preserved c =
    let a = c.args in
    let s = a.s.now in
    let f = figures_of s a.p.now a.now in
    let h = c.loop-i.invariant in
    let i = c.loop-i.i in
    elim c.if-i-k.branch [
      | then-i-k w ↦
          let weight : w.used_weight-weight.result ≡ f.weight (i / 8) (i % 8) =
          w.used_weight-weight.ensures ∙ ap used_weight w.account_at.ensures in
          let run = w.runtime_until-service.ensures in
          let same = ap (λ (j : ℕ). runtime_until (vcpu_at s j) a.now) (sym (slot_of i)) in
          let service : value w.runtime_until-service.result ≡ f.service (i / 8) (i % 8) = run.exact ∙ same in
          let bytes = w.bytes-is ∙ w.put-then-i-k.ensures ∙ ap (sets c.loop-i.bytes c.loop-i.length) w.vcpu_bytes.ensures in
          record {
            stored = next-stored f i h.stored (omega arith) (omega (arith, c.vcpus_per_domain-k.ensures, w.if-i-k.true)) weight service
                bytes w.length-is;
            fit = next-fit f (omega arith) i h.fit (omega (arith, weight, w.used_weight-weight.type_inv)) (omega (arith, same, run.bound));
          }
      | else-i-k w ↦
          let none : f.vcpus ≤ i % 8 = omega (arith, c.vcpus_per_domain-k.ensures, w.if-i-k.false) in
          record {
            stored = absent-stored f i h.stored (omega arith) none w.bytes-is w.length-is;
            fit = absent-fit f (omega arith) i h.fit none;
          }
    ]

-- all slots were passed
module _ (c : goal.After-loop-i) where
  abbrev f : Figures
  f = figures_of c.args.s.now c.args.p.now c.args.now

  passed : f.domains * 8 ≡ c.loop-i.i
  unfolding figures_of
  passed = omega (arith, c.domain_count-n.ensures)

  within : Within f
  unfolding figures_of
  within = figures-within c.args.s.now c.args.p.now c.args.now c.loop-i.i c.loop-i.invariant.fit (omega (arith, passed))

  stored : (c.loop-i.bytes ≡ padded (file f)) × (c.loop-i.length ≡ length (file f))
  stored = file-stored f c.loop-i.i c.loop-i.invariant.stored (omega (arith, within.vcpus)) within (sym passed)

pub returns-clause-bytes : goal.returns-clause-bytes
returns-clause-bytes c = (stored c).0

pub returns-clause-fits : goal.returns-clause-fits
returns-clause-fits c = ((stored c).1, omega (arith, (stored c).1, file-short (f c) (within c)))

pub returns-clause-first : goal.returns-clause-first
unfolding padded
returns-clause-first c = ap₂ take (stored c).1 (stored c).0 ∙ take-append_seam (file (f c)) _

pub returns-clause-says : goal.returns-clause-says
returns-clause-says c = has-file (f c) (within c)
