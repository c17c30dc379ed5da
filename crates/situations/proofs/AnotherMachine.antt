-- A machine without a policy, whose advances move nobody, is lawful too: what holds of every lawful machine holds of
-- more than the host of the service policy. Assumes nothing.
use Prim.Native.Nat.{ℕ, ◌^◌, ◌<◌}
use mathlib.Core.Path.{◌≡◌, refl}
use mathlib.Core.List.{List, []}
use Rattle.system.specs.declared.System.{System}
use Rattle.system.specs.Answers.{SystemOutcome}
use Rattle.sched.specs.Steps.{done, requested, offline_all}
use Rattle.sched.specs.Answered.{requested-answered, offline-all-answered}
use Rattle.calls.specs.declared.Call.{Call}
use Rattle.demand3.specs.Machine.{Machine}
use Rattle.demand3.specs.Lawful.{rests, Lawful}
use Rattle.demand3.specs.Book.{Book, Shape}
use Rattle.demand3.specs.Agreement.{InStep}
use Rattle.demand3.specs.Lists.{after_all, book_after, moves_after}
use Rattle.demand3.specs.AtPoint.{AtPoint}
use Rattle.demand3.specs.Holding.{holding, MovesTell}
use Rattle.demand3.proofs.Laws.{machine_at-point, machine_tells}

-- what a call comes to
abbrev outcome : System → Call → SystemOutcome
outcome s (Call.Ask d v q) = requested s d v q
outcome s (Call.OfflineAll d now) = offline_all s d now
outcome s (Call.SetWeight d v w) = done s
outcome s (Call.SetWakeBoost on) = done s
outcome s (Call.Advance now) = done s

abbrev pub still : Machine
still =
    record {
      Host = System;
      system = λ s. s;
      number = λ s c. (outcome s c).number;
      after = λ s c. (outcome s c).system;
      moves = λ s c. [];
    }

unmoved : (s : System) (c : Call) → ((outcome s c).number ≡ 0 → ⊥) → (outcome s c).system ≡ s
unmoved s (Call.Ask d v q) n = (requested-answered s d v q).refused n
unmoved s (Call.OfflineAll d now) n = (offline-all-answered s d now).refused n
unmoved s (Call.SetWeight d v w) n = refl
unmoved s (Call.SetWakeBoost on) n = refl
unmoved s (Call.Advance now) n = refl

pub still_lawful : Lawful still
still_lawful =
    record {
      ask = λ s d v q. record { number = refl; system = refl };
      offline-all = λ s d now. record { number = refl; system = refl };
      weight = λ s d v w. record { number = refl; system = refl };
      boost = λ s on. record { number = refl; system = refl };
      advance = λ s now T S. record { number = refl; enacts = rests };
      refused = λ s c T S n. unmoved s c n;
    }

-- from any system in step with a book whose masks are clipped
module _ (k : Shape) (b : Book) (s : System) (T : InStep k b s) (clipped : (i : ℕ) → (b i).mask < 2 ^ k.pcpus) (cs : List Call) where
  pub still-there : AtPoint k (book_after still k s b cs) (after_all still s cs)
  still-there = machine_at-point still_lawful k b s T clipped cs

  pub still-tells : MovesTell still k (holding k b) (after_all still s cs) (book_after still k s b cs) (moves_after still k s b cs)
  still-tells = machine_tells still_lawful k b s T cs
