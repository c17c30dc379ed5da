-- What an advance does at the last slot and on the last pCPU, and of every move that it makes: written out, so that a law of fewer slots,
-- pCPUs or moves would not give it. Assumes nothing.
use Prim.Native.Nat.{ℕ, ◌^◌, ◌≤◌, ◌<◌}
use mathlib.Core.Bool.{true}
use mathlib.Core.Path.{◌≡◌}
use mathlib.Core.Logic.{◌⊎◌}
use mathlib.Core.List.{List, ◌∷◌, ◌++◌}
use lib.ListN.{length}
use Rattle.system.specs.declared.RunState.TheVariants.{Runnable}
use Rattle.system.specs.declared.Occupant.TheVariants as occupants
use Rattle.system.specs.declared.System.{System}
use Rattle.system.specs.Reads.{occupant_at, state_at, runtime_at, admits, pooled}
use Rattle.system.specs.Slots.{pcpus, Present}
use Rattle.system.specs.Writes.{Tables}
use Rattle.verdict.specs.Sound.{Sound}
use Rattle.moves.specs.declared.Choice.{Choice}
use Rattle.moves.specs.declared.Choice.TheVariants.{Rest}
use Rattle.policy.specs.declared.Scheduler.{Scheduler}
use Rattle.policy.specs.Accounting.{accounted}
use Rattle.rules.specs.Settle.{limit}
use Rattle.advance.specs.declared.Decision.{Decision}
use Rattle.advance.specs.declared.Decision.TheVariants.{Idle}
use Rattle.advance.specs.Advance.{named, NextOutcome, next, AdvanceResult, advance}
use Rattle.advance.specs.Enacting.{called, after_calls, Does}
use Rattle.advance.proofs.Enacting.{advance-does}

-- what `next` is told, 0, with a decision
abbrev answers : Decision → NextOutcome
answers d = record { number = 0; decision = d }

-- for every sound system, whose tables are as long as the code's, every policy and every clock
module _ (s : System) (π : Scheduler) (now : ℕ) (t : Tables s) (S : Sound s) where
  abbrev r : AdvanceResult
  r = advance s π now

  does : Does s π now r
  does = advance-does s π now t S

  pub advance-told : (r.number ≡ 0) × (r.policy ≡ accounted s π now) × (r.system ≡ after_calls s now r.moves)
  advance-told = (does.number, does.policy, does.system)

  -- a move, whatever was moved before it and whatever after
  pub advance-made : (before rest : List Choice) (c : Choice) → r.moves ≡ before ++ (c ∷ rest)
      → (c ≡ Rest → ⊥) × (next (after_calls s now before) (accounted s π now) now ≡ answers (named c))
      × ((called (after_calls s now before) now c).number ≡ 0)
  advance-made before rest c x = let m = does.made before rest c x in (m.moves, rw does.policy at m.answered, m.accepted)

  pub advance-kept : (r.system.domain_count ≡ s.domain_count) × (r.system.vcpus_per_domain ≡ s.vcpus_per_domain)
      × (r.system.pcpu_count ≡ s.pcpu_count) × Tables r.system × Sound r.system × (pooled r.system 127 ≡ pooled s 127)
  advance-kept =
      let y = does.keeps in
      let z = y.shape in (z.domains, z.vcpus, z.pcpus, z.tables t, y.sound, does.pool 127)

  pub advance-grows : ((j : ℕ) → runtime_at s j < 2 ^ 64) → (runtime_at s 127 ≤ runtime_at r.system 127) × (runtime_at r.system 127 < 2 ^ 64)
  advance-grows w = let y = does.keeps.times w in (y.time 127, y.word 127)

  pub advance-ends : ((next r.system r.policy now ≡ answers Idle) ⊎ (length r.moves ≡ limit s)) × (length r.moves ≤ limit s)
  advance-ends = (does.ends, does.most)

  module _ (q : 1 ≤ π.quantum) where
    pub advance-rests : next r.system r.policy now ≡ answers Idle
    advance-rests = does.rests q

    pub advance-placed : Present r.system 127 → state_at r.system 127 ≡ Runnable → 63 < pcpus r.system
        → occupant_at r.system 63 ≡ occupants.Idle → admits r.system 127 63 ≡ true → ⊥
    advance-placed p e l o a = does.placed q 127 63 (record { present = p; ready = e; exists = l; free = o; affine = a })
