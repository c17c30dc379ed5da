-- What `moves::with_pcpu` leaves to show. Assumes nothing.
use Rattle.std.proofs.Common.{ℕ, ◌+◌, ◌^◌, ◌<◌, sym, ◌∙◌, subst, rules}
use Rattle.moves.proofs.IdleSets.{joins}
use Rattle.moves.proofs.with_pcpu.Goals as goal

pub overflow_add-result : goal.overflow_add-result
overflow_add-result c =
    let h = joins c.args.idle c.args.p (search rules) (sym c.mask_permits.ensures ∙ c.if-mask_permits.false) in
    record { fits = subst (λ (b : ℕ). c.args.idle + b < 2 ^ 64) (sym c.pcpu_bit.ensures) h }
