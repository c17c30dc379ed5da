-- `next` and `advance`, with their test.
use Rattle.std.specs.Prelude.{ℕ, zero, suc, cond, List, [], ◌∷◌}
use Rattle.system.specs.declared.System.{System}
use Rattle.policy.specs.declared.Scheduler.{Scheduler}
use Rattle.advance.specs.declared.Decision.{Decision}
use Rattle.advance.specs.declared.Decision.TheVariants as decision
use Rattle.page.specs.Host.{vcpu}
use Rattle.page.specs.Next.{next, limit}
use Rattle.page.specs.Accounting.{accounted}
use Rattle.page.specs.Verdict.{sound}
use Rattle.page.specs.Calls.{dispatching, preempting}

-- ---- next and advance, with their tests
pub record Recommended : Type 0 where
  pub number : ℕ
  pub decision : Decision

unfoldable pub next_told : System → Scheduler → ℕ → Recommended
next_told s π now =
    cond (sound s) (record { number = 0; decision = next s π now }) (record { number = 8; decision = decision.Idle })

pub record Settled : Type 0 where
  pub system : System
  pub moves : List Decision

-- a move, and what follows on what it leaves
abbrev pub enact : (System → Settled) → System → ℕ → Decision → Settled
enact rest s now (decision.Run d v p) =
    let r = rest (dispatching s d v p now (vcpu s d v).state).system in
    record { system = r.system; moves = decision.Run d v p ∷ r.moves }
enact rest s now (decision.Preempt d v p) =
    let r = rest (preempting s d v now (vcpu s d v).state).system in
    record { system = r.system; moves = decision.Preempt d v p ∷ r.moves }
enact rest s now decision.Idle = record { system = s; moves = [] }

-- `next` enacted until Idle, at most k times
unfoldable pub settle : Scheduler → ℕ → ℕ → System → Settled
settle π now zero s = record { system = s; moves = [] }
settle π now (suc k) s = enact (λ t. settle π now k t) s now (next s π now)

-- the count that is answered is the number of moves
pub record Advanced : Type 0 where
  pub number : ℕ
  pub system : System
  pub policy : Scheduler
  pub moves : List Decision

unfoldable pub advance : System → Scheduler → ℕ → Advanced
advance s π now =
    let ρ = accounted s π now in
    let r = settle ρ now (limit s) s in
    cond (sound s) (record { number = 0; system = r.system; policy = ρ; moves = r.moves })
    (record { number = 8; system = s; policy = π; moves = [] })
