-- What holds as an advance returns, under any rule whose slice is 1 or more and that bars nobody. Assumes nothing.
use Prim.Native.Nat.{ℕ, ◌≤◌, ◌<◌}
use mathlib.Core.Bool.{true, false}
use mathlib.Core.Path.{◌≡◌, sym, ◌∙◌, ap}
use mathlib.Core.List.{List}
use native.Mathlib.Omega.{arith}
use Rattle.masks.specs.Masks.{permits}
use Rattle.system.specs.declared.RunState.TheVariants.{Runnable}
use Rattle.system.specs.declared.System.{System}
use Rattle.scans.specs.Scan.{nobody}
use Rattle.moves.specs.declared.Choice.{Choice}
use Rattle.moves.specs.declared.Choice.TheVariants.{Rest}
use Rattle.rules.specs.Rules.{Rule}
use Rattle.rules.specs.Choices.{choice}
use Rattle.rules.proofs.Laws.{Trace, trace-few, trace-two, rest-quiet}
use Rattle.demand3.specs.Book.{Book, Shape, holder, occupant_by}
use Rattle.demand3.specs.Agreement.{PresentIn, InStep}
use Rattle.demand3.specs.AfterAdvance.{AfterAdvance}
use Rattle.demand3.proofs.Holders.{shaped-present, shaped-pcpus, holder-agrees}

-- nobody of the book waits beside a pCPU that nobody of the book holds
quiet : {k : Shape} {b : Book} {t : System} (ρ : Rule) (now : ℕ) → ((i : ℕ) → ρ.barred t now i ≡ false)
    → choice t ρ now ≡ Rest → InStep k b t
    → (i p : ℕ) → PresentIn k i → p < k.pcpus → (b i).state ≡ Runnable → holder k b p ≡ nobody
    → permits (b i).mask p ≡ true → ⊥
quiet {k} {b} {t} ρ now free r T i p x l e f g =
    let h = shaped-present T.shaped T.sound x in
    let z = T.lines.says i h in
    rest-quiet t ρ now i p r
    (record {
      present = h;
      ready = sym z.state ∙ e;
      exists = omega (arith, shaped-pcpus T.shaped T.sound);
      free = holder-agrees k b t p T.shaped T.sound T.lines l ∙ ap occupant_by f;
      affine = sym (ap (λ (m : ℕ). permits m p) z.mask) ∙ g;
    })
    (free i)

-- the moves ms lead from s, in step with b, to t, in step with b', and no move is left there
pub after-advance : {k : Shape} {b b' : Book} {s t : System} {ρ : Rule} {now : ℕ} {ms : List Choice}
    → Trace ρ now s ms t → 1 ≤ ρ.slice
    → ((i : ℕ) → ρ.barred t now i ≡ false) → choice t ρ now ≡ Rest → InStep k b s → InStep k b' t
    → AfterAdvance k ms b'
after-advance {s = s} {ρ = ρ} {now = now} r q free z S T =
    let n = shaped-pcpus S.shaped S.sound in
    record {
      moves = omega (arith, trace-few r q S.tables S.sound, n);
      moves-on = λ p l. trace-two p (omega (arith, n)) r q S.tables S.sound;
      placed = quiet ρ now free z T;
    }
