-- Settling over the table of a system is settling of the system, by induction on the most moves: both decide alike, and what a move leaves
-- of the table is the table of what it leaves of the system. Assumes nothing.
use Prim.Native.Nat.{ℕ, zero, suc, ◌%◌}
use mathlib.Core.Bool.{true, false≢true}
use mathlib.Core.Path.{◌≡◌, refl, sym, ◌∙◌, ap, ap₂}
use mathlib.Core.List.{List, [], ◌∷◌}
use native.Mathlib.Omega.{arith}
use Rattle.system.specs.declared.System.{System}
use Rattle.system.specs.Writes.{Tables}
use Rattle.system.specs.Slots.{slots}
use Rattle.verdict.specs.Sound.{Sound}
use Rattle.moves.specs.declared.Choice.{Choice}
use Rattle.moves.specs.declared.Choice.TheVariants.{Run, Preempt, Rest}
use Rattle.moves.specs.declared.Standing.{Standing}
use Rattle.moves.specs.declared.Standing.TheVariants.{Rests, Waits, Expired}
use Rattle.moves.specs.declared.Row.{Row}
use Rattle.moves.specs.Decide.{decide}
use Rattle.moves.specs.DecideLaws.{preempt-beaten}
use Rattle.moves.specs.Table.{is_expired, expired_on, row_at, tabled}
use Rattle.moves.specs.TableWrites.{dispatched_in, left_in}
use Rattle.moves.specs.Settling.{and_after, settled}
use Rattle.rules.specs.Rules.{Rule}
use Rattle.rules.specs.Choices.{choice}
use Rattle.rules.proofs.ChoiceLaws.{choice-run, choice-unbarred, choice-preempt}
use Rattle.rules.specs.Steady.{run, preempt}
use Rattle.rules.specs.Settle.{go_on, settle}
use Rattle.settling.specs.IdleSet.{idle_set}
use Rattle.settling.specs.AfterMoves.{after_moves}
use Rattle.settling.specs.TableLaws.{Settleable, SettledMoves, SettledSystem}
use Rattle.settling.proofs.DecidedChoice.{decided-choice}
use Rattle.settling.proofs.OneMove.{can-moves, run-idle, preempt-idle}
use Rattle.settling.proofs.TableFollows.{same-slots, follows-run, follows-preempt}

expired-is : (st : Standing) → is_expired st ≡ true → st ≡ Expired (expired_on st)
expired-is Rests e = absurd (false≢true e)
expired-is Waits e = absurd (false≢true e)
expired-is (Expired p) e = refl

-- whom a decision preempts, the table has on that pCPU
preempts-there : (t : List Row) (idle n i p : ℕ) → decide (tabled t idle) n ≡ Preempt i p → (row_at t i).standing ≡ Expired p
unfolding tabled
preempts-there t idle n i p e =
    let b = preempt-beaten (tabled t idle) n i p e in
    expired-is (row_at t i).standing b.expired ∙ ap Expired b.on

pub settled-moves : SettledMoves
unfolding settled settle
settled-moves ρ St now zero s t G = refl
settled-moves ρ St now (suc k) s t G =
    ap (and_after (λ u rest. settled ρ.slice (slots s) k u rest) ρ.slice t (idle_set s)) decides
    ∙ go (choice s ρ now) refl (λ u v H. settled-moves ρ St now k u v H)
  where
    decides : decide (tabled t (idle_set s)) (slots s) ≡ choice s ρ now
    decides = decided-choice s ρ now t G.sound G.table

    go : (c : Choice) → choice s ρ now ≡ c
        → ((u : System) (v : List Row) → Settleable u ρ now v → settled ρ.slice (slots u) k v (idle_set u) ≡ (settle ρ now k u).moves)
        → and_after (λ u rest. settled ρ.slice (slots s) k u rest) ρ.slice t (idle_set s) c
        ≡ (go_on (λ u. settle ρ now k u) s now c).moves
    go (Run i p) e ih =
        let c = choice-run s ρ now i p e in
        let f = choice-unbarred s ρ now i p e in
        let M = can-moves now G.tables G.sound (run c) in
        ap (λ (ms : List Choice). Run i p ∷ ms)
        (ap₂ (λ (n d : ℕ). settled ρ.slice n k (dispatched_in ρ.slice t i p) d) (sym (same-slots St G M f)) (run-idle G.tables M)
        ∙ ih _ _ (follows-run St G c f)
        ∙ ap (λ (u : System). (settle ρ now k u).moves) (sym M.enacts))
    go (Preempt i p) e ih =
        let c = choice-preempt s ρ now i p e in
        let M = can-moves now G.tables G.sound (preempt c.present c.on) in
        let d = preempts-there t (idle_set s) (slots s) i p (decides ∙ e) in
        let l : p % 64 ≡ p = omega (arith, M.pcpu) in
        ap₂ (λ (q : ℕ) (ms : List Choice). Preempt i q ∷ ms) l
        (ap₂ (λ (n x : ℕ). settled ρ.slice n k (left_in t i) x) (sym (same-slots St G M (G.unbarred i p c.present c.on)))
        (preempt-idle G.tables M)
        ∙ ih _ _ (follows-preempt St G c.present c.on d)
        ∙ ap (λ (u : System). (settle ρ now k u).moves) (sym M.enacts))
    go Rest e ih = refl

-- the system that settling leaves is that after its moves
after-settle : (ρ : Rule) (now k : ℕ) (s : System) → Tables s → Sound s
    → after_moves s now (settle ρ now k s).moves ≡ (settle ρ now k s).system
unfolding settle after_moves
after-settle ρ now zero s T S = refl
after-settle ρ now (suc k) s T S = go (choice s ρ now) refl (λ u tb so. after-settle ρ now k u tb so)
  where
    go : (c : Choice) → choice s ρ now ≡ c
        → ((u : System) → Tables u → Sound u → after_moves u now (settle ρ now k u).moves ≡ (settle ρ now k u).system)
        → after_moves s now (go_on (λ u. settle ρ now k u) s now c).moves ≡ (go_on (λ u. settle ρ now k u) s now c).system
    go (Run i p) e ih =
        let M = can-moves now T S (run (choice-run s ρ now i p e)) in
        rw M.enacts (ih _ (M.keeps.shape.tables T) M.keeps.sound)
    go (Preempt i p) e ih =
        let c = choice-preempt s ρ now i p e in
        let M = can-moves now T S (preempt c.present c.on) in
        rw M.enacts (ih _ (M.keeps.shape.tables T) M.keeps.sound)
    go Rest e ih = refl

pub settled-system : SettledSystem
settled-system ρ St now k s t G = ap (after_moves s now) (settled-moves ρ St now k s t G) ∙ after-settle ρ now k s G.tables G.sound

-- where there is nothing to do, nothing is done
pub settle-none : (ρ : Rule) (now k : ℕ) (s : System) → choice s ρ now ≡ Rest → settle ρ now k s ≡ record { system = s; moves = [] }
unfolding settle
settle-none ρ now zero s e = refl
settle-none ρ now (suc k) s e = ap (go_on (λ u. settle ρ now k u) s now) e
