-- What holds at every point of every list of calls of a lawful machine. Assumes nothing.
use Prim.Native.Nat.{ℕ, ◌+◌, ◌*◌, ◌^◌, ◌<◌, min}
use mathlib.Core.Path.{◌≡◌, sym, ◌∙◌, subst}
use native.Mathlib.Nat.{min-eq_left}
use native.Mathlib.Omega.{arith}
use Rattle.demand3.specs.Machine.{Machine}
use Rattle.demand3.specs.Lawful.{Lawful}
use Rattle.demand3.specs.Book.{Book}
use Rattle.demand3.specs.Agreement.{Agrees}
use Rattle.demand3.specs.Reads.{ReadsAgree}
use Rattle.demand3.specs.Lists.{after_all, book_after}
use Rattle.demand3.specs.AtPoint.{EveryPoint}
use Rattle.demand3.specs.AtCall.{EveryCallTold}
use Rattle.demand3.proofs.Holders.{agrees}
use Rattle.demand3.proofs.EveryCall.{Kept, step-goes, after_kept}
use Rattle.demand3.proofs.BookReads.{clipped_bits, reads-agree}
use Rattle.demand3.proofs.ClippedMasks.{after-clips}

module _ {M : Machine} (L : Lawful M) where
  pub machine_at-point : EveryPoint M
  machine_at-point k b₀ h T clipped cs =
      record {
        agrees = here;
        reads = reads;
        masks = λ i x. mask i;
        admits = λ d v p l m. (reads.line d v l m).permits p ∙ clipped_bits _ k.pcpus p (mask (d * 8 + v));
      }
    where
      b : Book
      b = book_after M k h b₀ cs

      K : Kept M k b (after_all M h cs)
      K = after_kept L cs h b₀ (record { in_step = T })

      here : Agrees k b (M.system (after_all M h cs))
      here = agrees K.in_step.shaped K.in_step.sound K.in_step.lines

      reads : ReadsAgree k b (M.system (after_all M h cs))
      reads = reads-agree here K.in_step.sound

      few : min k.pcpus 64 ≡ k.pcpus
      few = min-eq_left (omega (arith, T.shaped.pcpus, T.sound.pcpus))

      mask : (i : ℕ) → (b i).mask < 2 ^ k.pcpus
      mask i =
          subst (λ (n : ℕ). (b i).mask < 2 ^ n) few
          ((after-clips k M cs h b₀ (record { mask = λ j. subst (λ (n : ℕ). (b₀ j).mask < 2 ^ n) (sym few) (clipped j) })).mask i)

  pub machine_at-call : EveryCallTold M
  machine_at-call k b h T cs c = record { told = (step-goes L c (after_kept L cs h b (record { in_step = T }))).number }
