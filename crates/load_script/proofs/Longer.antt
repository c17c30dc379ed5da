-- The same numbers make the same script, and a longer load begins with the shorter one. Assumes nothing.
use mathlib.Core.Path.{◌≡◌, refl, sym, ap, ap₂, ◌∙◌}
use mathlib.Core.Bool.{Bool, true, false, cond}
use mathlib.Core.List.{List, ◌++◌}
use Prim.Native.Nat.{ℕ, zero, suc, ◌+◌, ◌*◌, ◌≤◌}
use native.Mathlib.Omega.{arith}
use lib.Dec.{eqb}
use lib.ListN.{take}
use lib.Seq.{take-nil, take_at}
use Rattle.system.specs.declared.Answer.TheVariants.{Done, TooLarge, BadSeed}
use Rattle.system.specs.Answers.{told}
use Rattle.system.specs.Shape.{within_sizes}
use Rattle.records.specs.declared.Record.{Record}
use Rattle.records.specs.declared.Shape.{Shape}
use Rattle.records.specs.Bytes.{record_bytes}
use Rattle.load_script.specs.declared.Load.{Load}
use Rattle.load_script.specs.Loads.{LoadOutcome, begin, no_load, refused_with, opened, load_after, nth_record, stretch, script}
use Rattle.load_script.proofs.Sizes.{stretch-length}
use Rattle.load_script.proofs.Stretches.{script_splits}
use Rattle.load_script.proofs.Opening.{refused-empty}
use Rattle.load_script.proofs.Chain.{record_is}

pub same-script : {seed seed' : ℕ} {s s' : Shape} {count count' : ℕ} → seed ≡ seed' → s ≡ s' → count ≡ count'
    → script (opened seed s count).load ≡ script (opened seed' s' count').load
same-script e₁ e₂ e₃ = rw (e₁, e₂, e₃)

-- loads whose records are equal have equal stretches
stretch-same : (l m : Load) → ((i : ℕ) → nth_record l i ≡ nth_record m i) → (n : ℕ) → stretch n l ≡ stretch n m
unfolding stretch
stretch-same l m h zero = refl
stretch-same l m h (suc n) = ap₂ (λ (a : List ℕ) (r : Record). a ++ record_bytes r) (stretch-same l m h n) (h n)

module _ (seed : ℕ) (s : Shape) (c d : ℕ) (h : c ≤ d) where
  more-opened : script (begin seed s c) ≡ take ((c + 1) * 20) (script (begin seed s d))
  more-opened =
      let l = begin seed s d in
      let here = stretch-same (begin seed s c) l (λ i. record_is seed s c i ∙ sym (record_is seed s d i)) (suc c) in
      here
      ∙ sym
      (ap (take ((c + 1) * 20)) (script_splits (suc c) l (omega arith))
      ∙ take_at (stretch (suc c) l) (script (load_after (suc c) l)) ((c + 1) * 20) (stretch-length (suc c) l ∙ omega arith))

  -- of whatever seed and shape
  pub more-calls : script (opened seed s c).load ≡ take ((c + 1) * 20) (script (opened seed s d).load)
  unfolding opened
  more-calls = go (eqb seed 0) (within_sizes s.num_domains s.vcpus_per_domain s.num_pcpus)
    where
      is : Bool → Bool → ℕ → LoadOutcome
      is none within n =
          cond none (refused_with BadSeed) (cond within (record { number = told Done; load = begin seed s n }) (refused_with TooLarge))

      nothing : script no_load ≡ take ((c + 1) * 20) (script no_load)
      nothing = refused-empty ∙ sym (ap (take ((c + 1) * 20)) refused-empty ∙ take-nil ((c + 1) * 20))

      go : (none within : Bool) → script (is none within c).load ≡ take ((c + 1) * 20) (script (is none within d).load)
      go true within = nothing
      go false true = more-opened
      go false false = nothing
