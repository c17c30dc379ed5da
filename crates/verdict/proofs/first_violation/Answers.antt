-- The sizes first, then the two scans. Assumes nothing.
use Rattle.std.proofs.Common.{sym, ◌∙◌}
use Rattle.verdict.specs.Violations.{first_violation}
use Rattle.verdict.proofs.VerdictScan.{is-found, is-clean, or_keeps}
use Rattle.verdict.proofs.first_violation.Goals as goal

pub returns-then-not-within_sizes : goal.returns-then-not-within_sizes
unfolding first_violation
returns-then-not-within_sizes c = rw (sym c.within_sizes.ensures ∙ c.if-not-within_sizes.true)

pub returns-then-is_some : goal.returns-then-is_some
unfolding first_violation
returns-then-is_some c =
    let found = c.first_vcpu_violation-of_vcpus.ensures in
    let some = is-found _ (sym c.is_some.ensures ∙ c.if-is_some.true) in
    rw (sym c.within_sizes.ensures ∙ c.if-not-within_sizes.false, sym found) (sym (or_keeps _ _ some))

pub returns : goal.returns
unfolding first_violation
returns c =
    let none = is-clean _ (sym c.is_some.ensures ∙ c.if-is_some.false) in
    rw (sym c.within_sizes.ensures ∙ c.if-not-within_sizes.false, sym c.first_vcpu_violation-of_vcpus.ensures, none)
    c.first_pcpu_violation.ensures
