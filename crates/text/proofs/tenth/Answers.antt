-- `text::tenth` meets its contract: a tenth of four limbs is held whole. Assumes nothing.
use Rattle.std.proofs.Common.{ℕ, ◌/◌, ◌∙◌, ap, div-le_self, lt_of_le_of_lt, get_or, w32, Fits, rules}
use Rattle.service.specs.Service.{value}
use Rattle.service.specs.Laws.{held-exact, value-below}
use Rattle.text.proofs.tenth.Goals as goal

pub returns : goal.returns
returns c =
    let limb = λ (i : ℕ). let fits : Fits w32 (get_or c.args.n i 0) = search rules in fits.fits in
    let below = value-below c.args.n (search rules) limb in
    ap value c.quotient.ensures ∙ held-exact (value c.args.n / 10) (lt_of_le_of_lt (div-le_self (value c.args.n) 10) below)
