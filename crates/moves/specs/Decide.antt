-- The decision: whom to dispatch onto which idle pCPU; else whom to preempt; else neither. It is made over what is known of
-- each slot below n (who waits, who is expired: runs and has had its slice, where it runs, its mask, where it was last, who beats
-- whom) and of each pCPU (whether it is idle), however that is got.
use Rattle.std.specs.Prelude.{ℕ, Bool, true, cond, ◌&&◌, ◌≡◌, ◌⊎◌, ltb}
use Rattle.masks.specs.Masks.{permits, first}
use Rattle.moves.specs.declared.Choice.{Choice}
use Rattle.moves.specs.declared.Choice.TheVariants.{Run, Preempt, Rest}
use Rattle.scans.specs.Scan.{Pick, nobody, at, scan, some, never}

-- what is known of the slots and the pCPUs
pub record Standings : Type 0 where
  pub waits : ℕ → Bool
  pub expired : ℕ → Bool
  pub on : ℕ → ℕ
  pub mask : ℕ → ℕ
  pub last : ℕ → ℕ
  pub beats : ℕ → ℕ → Bool
  pub idle : ℕ → Bool

-- slot i waits or is expired: it takes part in a decision
abbrev pub Involved : Standings → ℕ → Type 0
Involved t i = (t.waits i ≡ true) ⊎ (t.expired i ≡ true)

-- pCPU p is idle, and the mask of i admits it
abbrev pub usable : Standings → ℕ → ℕ → Bool
usable t i p = t.idle p && permits (t.mask i) p

-- the lowest-numbered idle pCPU that the mask of i admits, or 64
unfoldable pub first_idle_pcpu_for : Standings → ℕ → ℕ
first_idle_pcpu_for t i = first (usable t i) 64

-- where i goes: back onto the pCPU that it was last on, where that is idle and admitted; else onto the lowest-numbered that is
unfoldable pub placement : Standings → ℕ → ℕ
placement t i = cond (usable t i (t.last i)) (t.last i) (first_idle_pcpu_for t i)

-- i waits and has a placement
unfoldable pub placeable : Standings → ℕ → Bool
placeable t i = t.waits i && ltb (placement t i) 64

-- some waiter whose mask admits the pCPU of i beats it
unfoldable pub beaten : Standings → ℕ → ℕ → Bool
beaten t n i = some (scan (λ j. t.waits j && (permits (t.mask j) (t.on i) && t.beats j i)) never n)

-- i is expired and beaten
unfoldable pub loses : Standings → ℕ → ℕ → Bool
loses t n i = t.expired i && beaten t n i

-- the most deserving that can be placed
unfoldable pub chosen : Standings → ℕ → Pick
chosen t n = scan (placeable t) t.beats n

-- the least deserving that loses
unfoldable pub victim : Standings → ℕ → Pick
victim t n = scan (loses t n) (λ k j. t.beats j k) n

abbrev pub or_preempt : Standings → Pick → Choice
or_preempt t nobody = Rest
or_preempt t (at i) = Preempt i (t.on i)

abbrev pub or_run : Standings → Pick → Choice → Choice
or_run t nobody r = r
or_run t (at i) r = Run i (placement t i)

unfoldable pub decide : Standings → ℕ → Choice
decide t n = or_run t (chosen t n) (or_preempt t (victim t n))

-- the same, but nobody was last on any pCPU: a decision over these is by the rule that upstream decides by
abbrev pub by_lowest : Standings → Standings
by_lowest t =
    record {
      waits = t.waits;
      expired = t.expired;
      on = t.on;
      mask = t.mask;
      last = λ i. 64;
      beats = t.beats;
      idle = t.idle;
    }
