-- `usage_parse::service_at` meets its contract: 16 bytes are four words, the most significant first. Assumes nothing.
use Rattle.std.proofs.Common.{ℕ, zero, suc, ◌+◌, ◌*◌, ◌/◌, ◌≤◌, ◌^◌, ◌<◌, List, [], ◌∷◌, ◌≡◌, refl, sym, ◌∙◌, ap, ap₂, arith}
use Rattle.std.proofs.Common.{lt-ltb, le-ltb, lit<, length, get_or}
use Rattle.big_endian.specs.Numbers.{number}
use Rattle.big_endian.specs.Laws.{number-add}
use Rattle.service.specs.Service.{value, limbs, held}
use Rattle.service.specs.Laws.{below-limit, value-below}
use Rattle.usage_parse.specs.Domains.{service_at}
use Rattle.usage_parse.proofs.service_at.Goals as goal

four-words : (bs : List ℕ) (at : ℕ)
    → number bs at 16
    ≡ ((number bs at 4 * 2 ^ 32 + number bs (at + 4) 4) * 2 ^ 32 + number bs (at + 8) 4) * 2 ^ 32 + number bs (at + 12) 4
four-words bs at =
    omega (arith, number-add bs at 4 4, number-add bs at 8 4, number-add bs at 12 4)

-- four words are the limbs of what they are worth
next-limb : (k x a : ℕ) → a < 2 ^ 32 → limbs (suc k) (x * 2 ^ 32 + a) ≡ a ∷ limbs k x
unfolding limbs
next-limb k x a h = ap₂ (λ (y z : ℕ). y ∷ limbs k z) (omega arith) (omega arith)

limbs-value : (l : List ℕ) → ((i : ℕ) → get_or l i 0 < 2 ^ 32) → limbs (length l) (value l) ≡ l
unfolding value limbs
limbs-value [] h = refl
limbs-value (a ∷ l) h = next-limb (length l) (value l) a (h 0) ∙ ap (λ (m : List ℕ). a ∷ m) (limbs-value l (λ i. h (suc i)))

words-held : (a b c d : ℕ) → a < 2 ^ 32 → b < 2 ^ 32 → c < 2 ^ 32 → d < 2 ^ 32
    → let l = a ∷ b ∷ c ∷ d ∷ [] in l ≡ held (value l)
unfolding held
words-held a b c d u v w x =
    sym (ap (limbs 4) (below-limit _ (2 ^ 128) (value-below (a ∷ b ∷ c ∷ d ∷ []) refl small)) ∙ limbs-value (a ∷ b ∷ c ∷ d ∷ []) small)
  where
    small : (i : ℕ) → get_or (a ∷ b ∷ c ∷ d ∷ []) i 0 < 2 ^ 32
    small zero = u
    small (suc zero) = v
    small (suc (suc zero)) = w
    small (suc (suc (suc zero))) = x
    small (suc (suc (suc (suc i)))) = lit< tt

-- no vCPU, no service
none : (body : List ℕ) (v : ℕ) → length body / 20 ≤ v → 0 ≡ service_at body v
none body v h = simp (le-ltb _ _ h)

pub returns-then-vcpu_count-vcpu-clause-held : goal.returns-then-vcpu_count-vcpu-clause-held
unfolding limbs held
returns-then-vcpu_count-vcpu-clause-held c = ap held (none c.args.body.now c.args.vcpu (omega arith))

pub returns-then-vcpu_count-vcpu-clause-exact : goal.returns-then-vcpu_count-vcpu-clause-exact
unfolding value
returns-then-vcpu_count-vcpu-clause-exact c = none c.args.body.now c.args.vcpu (omega arith)

pub returns-clause-exact : goal.returns-clause-exact
unfolding value
returns-clause-exact c =
    let there : c.args.vcpu < length c.args.body.now / 20 = omega arith in
    simp (lt-ltb _ _ there)
    (omega (arith, four-words c.args.body.now (c.args.vcpu * 20 + 4), c.word_at.ensures, c.word_at-2.ensures, c.word_at-3.ensures, c.word_at-4.ensures))

pub returns-clause-held : goal.returns-clause-held
returns-clause-held c =
    let worth : value (c.word_at.result ∷ c.word_at-2.result ∷ c.word_at-3.result ∷ c.word_at-4.result ∷ []) ≡ service_at c.args.body.now c.args.vcpu =
    returns-clause-exact c in
    words-held _ _ _ _ c.word_at.type_inv c.word_at-2.type_inv c.word_at-3.type_inv c.word_at-4.type_inv ∙ ap held worth
