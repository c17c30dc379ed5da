-- Settling over the filled table, as an advance does it: as many moves as settling of the system makes, and what they leave. Assumes nothing.
use Rattle.std.proofs.Common.{ℕ, ◌^◌, ◌<◌, min, List, length, ◌≡◌, refl, ◌∙◌, ap, ap₂}
use Rattle.system.specs.declared.System.{System}
use Rattle.system.specs.Reads.{runtime_at}
use Rattle.system.specs.Slots.{slots}
use Rattle.system.specs.Writes.{Tables}
use Rattle.verdict.specs.Sound.{Sound}
use Rattle.moves.specs.declared.Row.{Row}
use Rattle.moves.specs.declared.Choice.{Choice}
use Rattle.moves.specs.Settling.{settled}
use Rattle.policy.specs.declared.Scheduler.{Scheduler}
use Rattle.rules.specs.Settle.{settle, limit}
use Rattle.settling.specs.AfterMoves.{after_moves}
use Rattle.settling.specs.IdleSet.{idle_set}
use Rattle.settling.specs.TableLaws.{Settleable}
use Rattle.settling.specs.TableOf.{TableOf}
use Rattle.settling.proofs.Laws.{settled-moves, settled-system}
use Rattle.advance.specs.ServiceRule.{rule_of}
use Rattle.advance.proofs.ServiceSteady.{service_steady}

pub settleable : (s : System) (π : Scheduler) (now : ℕ) {t : List Row} → Tables s → Sound s → ((i : ℕ) → runtime_at s i < 2 ^ 64)
    → TableOf s (rule_of π) now t (slots s) → Settleable s (rule_of π) now t
settleable s π now T S times F = record { tables = T; sound = S; times = times; unbarred = λ i p h on. refl; table = F }

-- over as many slots, n, and to as many moves, m, as the system's
module _ (s : System) (π : Scheduler) (now : ℕ) {t : List Row} (G : Settleable s (rule_of π) now t) (n m idle : ℕ)
    (as-many : min n 128 ≡ slots s) (most : min m 320 ≡ limit s) (idle-is : idle ≡ idle_set s) where
  over : settled π.quantum (min n 128) (min m 320) t idle ≡ settled π.quantum (slots s) (limit s) t (idle_set s)
  over =
      ap₂ (λ (x y : ℕ). settled π.quantum x y t idle) as-many most ∙ ap (settled π.quantum (slots s) (limit s) t) idle-is

  -- the log is what settling of the system moves
  pub count-is : {count : ℕ} → count ≡ length (settled π.quantum (min n 128) (min m 320) t idle)
      → count ≡ length (settle (rule_of π) now (limit s) s).moves
  count-is e = e ∙ ap length (over ∙ settled-moves (rule_of π) (service_steady π) now (limit s) s t G)

  -- enacted, it leaves what settling leaves
  pub settles : {log : List Choice} → log ≡ settled π.quantum (min n 128) (min m 320) t idle
      → after_moves s now log ≡ (settle (rule_of π) now (limit s) s).system
  settles e = ap (after_moves s now) (e ∙ over) ∙ settled-system (rule_of π) (service_steady π) now (limit s) s t G
