-- `usage_parse::domain_count` meets its contract: bytes that are too few for a header fail the test of the length.
-- Assumes nothing.
use Rattle.std.proofs.Common.{ℕ, cond, Some, None, ap₂, ◌≤◌, ◌≡◌, true, false, sym, ◌∙◌, arith, length, eqb, ne_eqb, Bool, ◌&&◌, List, [], ◌∷◌, refl, nat_eq}
use mathlib.Core.Bool.{and-false, and-true}
use Rattle.std.proofs.Math.Decide.{ℕ_discrete}
use Rattle.std.specs.Bool.{then_some}
use Rattle.std.specs.List.{starts_with}
use Rattle.usage_layout.specs.Layout.{start, usge}
use Rattle.usage_layout.specs.Reading.{all, opens, domains_in, vcpus_each, shaped, accepted}
use Rattle.usage_parse.specs.Domains.{count_in}
use Rattle.usage_parse.proofs.domain_count.Goals as goal

pub returns-then-file-lt6 : goal.returns-then-file-lt6
unfolding count_in accepted shaped
returns-then-file-lt6 c =
    let s = c.args.file.now in
    let n = domains_in s in
    let short : eqb (length s) (start n (vcpus_each s) n) ≡ false = ne_eqb (length s) (start n (vcpus_each s) n) (λ e. omega arith) in
    simp (short, and-false)

eqb-turned : (a b : ℕ) → eqb a b ≡ eqb b a
eqb-turned a b = go (ℕ_discrete a b)
  where
    go : Dec (a ≡ b) → eqb a b ≡ eqb b a
    go (yes e) = rw e
    go (no ne) = ne_eqb a b ne ∙ sym (ne_eqb b a (λ e. ne (sym e)))

-- the library's test of the first four bytes
opens-with : (s : List ℕ) → 4 ≤ length s → starts_with nat_eq s usge ≡ opens s
unfolding all opens
opens-with [] h = absurd (omega arith)
opens-with (a ∷ []) h = absurd (omega arith)
opens-with (a ∷ b ∷ []) h = absurd (omega arith)
opens-with (a ∷ b ∷ c ∷ []) h = absurd (omega arith)
opens-with (a ∷ b ∷ c ∷ d ∷ s) h =
    rw (eqb-turned 85 a, eqb-turned 83 b, eqb-turned 71 c, eqb-turned 69 d) (joined (eqb a 85) (eqb b 83) (eqb c 71) (eqb d 69))
  where
    joined : (p q r t : Bool) → (p && (q && (r && (t && true)))) ≡ (p && q && r && t)
    joined true true true t = and-true t
    joined true true false t = refl
    joined true false r t = refl
    joined false q r t = refl

pub returns-then-not-starts_with : goal.returns-then-not-starts_with
unfolding count_in accepted
returns-then-not-starts_with c =
    let s = c.args.file.now in
    let closed : opens s ≡ false = sym (opens-with s (omega arith)) ∙ sym c.starts_with.ensures.value ∙ c.if-not-starts_with.true in
    simp closed

counted : (t : Bool) (n : ℕ) → then_some t n ≡ cond t (Some n) None
counted true n = refl
counted false n = refl

pub returns : goal.returns
unfolding count_in accepted
returns c =
    let s = c.args.file.now in
    let usage : opens s ≡ true = sym (opens-with s (omega arith)) ∙ sym c.starts_with.ensures.value ∙ c.if-not-starts_with.false in
    let shape : c.shaped.result ≡ shaped s (domains_in s) (vcpus_each s) = c.shaped.ensures ∙ ap₂ (shaped s) c.read_at-n.ensures c.vcpus_each.ensures in
    simp usage (c.then_some.ensures ∙ ap₂ (then_some {T = ℕ}) shape c.read_at-n.ensures ∙ counted (shaped s (domains_in s) (vcpus_each s)) (domains_in s))
