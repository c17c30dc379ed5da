-- Who is in the pool at one advance has no wake edge at the next, whatever is called between the two.
use Rattle.std.specs.Prelude.{ℕ, ◌/◌, ◌%◌, true, ◌≡◌, List, [], ◌∷◌, length}
use Rattle.system.specs.declared.Answer.TheVariants.{Done}
use Rattle.system.specs.Answers.{told}
use Rattle.system.specs.Reads.{pooled}
use Rattle.system.specs.Slots.{Present}
use Rattle.system.specs.Writes.{Tables}
use Rattle.policy.specs.Accounts.{offset_of}
use Rattle.host.specs.declared.Host.{Host}
use Rattle.calls.specs.declared.Call.{Call}
use Rattle.calls.specs.declared.Request.{Request}
use Rattle.host.specs.Step.{step, host_after}

-- the host's tables are as long as the code's
pub record TabledHost (h : Host) : Type 0 where
  pub system : Tables h.system
  pub accounts : length h.scheduler.accounts ≡ 128

-- none of the calls is an advance
abbrev pub NoAdvance : List Call → Type 0
NoAdvance [] = Unit {0}
NoAdvance (c ∷ cs) = ((now : ℕ) → c ≡ Call.Advance now → ⊥) × NoAdvance cs

-- Whoever is in the pool at an advance that is made: after any calls but advances, the next advance leaves its offset as it finds it. It is
-- proved as `stayed_no_edge`.
abbrev pub StayedNoEdge : Type 0
StayedNoEdge = (h : Host) → TabledHost h → (t₁ t₂ : ℕ) (between : List Call) → NoAdvance between
    → (step h (Call.Advance t₁)).number ≡ told Done
    → (i : ℕ) → Present h.system i → pooled h.system i ≡ true
    → let a = (step h (Call.Advance t₁)).host in
    let b = host_after a between in
    let c = (step b (Call.Advance t₂)).host in
    offset_of c.scheduler (i / 8) (i % 8) ≡ offset_of b.scheduler (i / 8) (i % 8)

-- A block, if it is accepted, and a wake between two advances: the offset is what it was before the block. It is proved as
-- `block-and-wake_no_edge`.
abbrev pub BlockAndWakeNoEdge : Type 0
BlockAndWakeNoEdge = (h : Host) → TabledHost h → (t₁ now t₂ d v : ℕ)
    → let a = (step h (Call.Advance t₁)).host in
    let b = step a (Call.Ask d v (Request.Block now)) in
    let c = (step b.host (Call.Ask d v Request.Wake)).host in
    let e = (step c (Call.Advance t₂)).host in
    b.number ≡ told Done → offset_of e.scheduler d v ≡ offset_of a.scheduler d v
