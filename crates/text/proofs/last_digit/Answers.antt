-- `text::last_digit` meets its contract. Assumes nothing.
use Rattle.std.proofs.Common.{◌≡◌, ℕ, ◌+◌, ◌*◌, ◌%◌, List, [], ◌∷◌, length, get_or, arith, rules}
use Rattle.service.specs.Service.{value}
use Rattle.text.proofs.last_digit.Goals as goal

ends-alike : (l : List ℕ) → length l ≡ 4 → ((get_or l 1 0 + get_or l 2 0 + get_or l 3 0) * 6 + get_or l 0 0) % 10 ≡ value l % 10
unfolding value
ends-alike [] h = absurd (omega arith)
ends-alike (a ∷ []) h = absurd (omega arith)
ends-alike (a ∷ b ∷ []) h = absurd (omega arith)
ends-alike (a ∷ b ∷ c ∷ []) h = absurd (omega arith)
ends-alike (a ∷ b ∷ c ∷ d ∷ []) h = omega arith
ends-alike (a ∷ b ∷ c ∷ d ∷ e ∷ l) h = absurd (omega arith)

pub returns : goal.returns
returns c = omega (arith, ends-alike c.args.n (search rules))
