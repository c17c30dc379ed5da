-- A decision over the table of a system is the choice. Assumes nothing.
use Prim.Native.Nat.{ℕ, ◌%◌, ◌<◌}
use mathlib.Core.Bool.{Bool, true, false, cond, not, ◌&&◌, false≢true}
use mathlib.Core.Path.{◌≡◌, refl, sym, ◌∙◌, ap}
use mathlib.Core.List.{List}
use mathlib.Core.Logic.{inl, inr}
use native.Mathlib.Omega.{arith}
use lib.Dec.{leb}
use borrow.Author.Tests.{lt-ltb}
use Rattle.scans.specs.Booleans.{both}
use Rattle.masks.specs.Sets.{set_of-permits}
use Rattle.system.specs.declared.RunState.{RunState}
use Rattle.system.specs.declared.RunState.TheVariants.{Offline, Runnable, Running, Blocked}
use Rattle.system.specs.declared.System.{System}
use Rattle.system.specs.Records.{elapsed}
use Rattle.system.specs.Reads.{vcpu_at, idle_at}
use Rattle.system.specs.Slots.{Present, slots, present, is-present}
use Rattle.system.specs.States.{onto, is_runnable}
use Rattle.verdict.specs.Sound.{Sound}
use Rattle.moves.specs.declared.Standing.TheVariants.{Rests, Expired}
use Rattle.moves.specs.declared.Row.{Row}
use Rattle.moves.specs.Decide.{Standings, Involved}
use Rattle.moves.specs.Table.{is_waiting, is_expired, expired_on, row_at, tabled}
use Rattle.moves.proofs.Laws.{Alike, decide_cong}
use Rattle.rules.specs.Rules.{Rule}
use Rattle.rules.specs.Choices as choices
use Rattle.rules.specs.Choices.{standings, choice}
use Rattle.settling.specs.Standings.{standing_in}
use Rattle.settling.specs.IdleSet.{idle_set}
use Rattle.settling.specs.TableOf.{TakesPart, TableOf}
use Rattle.settling.specs.TableLaws.{DecidedChoice}

-- ---- a standing tells who waits and who is expired

waits-by : (b x : Bool) (q e : ℕ) (st : RunState) → is_waiting (cond b (standing_in x q e st) Rests) ≡ (b && (is_runnable st && not x))
waits-by false x q e st = refl
waits-by true x q e Offline = refl
waits-by true false q e Runnable = refl
waits-by true true q e Runnable = refl
waits-by true x q e (Running p) = go (leb q e)
  where
    go : (t : Bool) → is_waiting (cond t (Expired (p % 64)) Rests) ≡ false
    go true = refl
    go false = refl
waits-by true x q e Blocked = refl

expired-by : (b x : Bool) (q e : ℕ) (st : RunState) → is_expired (cond b (standing_in x q e st) Rests) ≡ (b && choices.is_expired q e st)
expired-by false x q e st = refl
expired-by true x q e Offline = refl
expired-by true false q e Runnable = refl
expired-by true true q e Runnable = refl
expired-by true x q e (Running p) = go (leb q e)
  where
    go : (t : Bool) → is_expired (cond t (Expired (p % 64)) Rests) ≡ t
    go true = refl
    go false = refl
expired-by true x q e Blocked = refl

on-by : (b x : Bool) (q e : ℕ) (st : RunState) → ((p : ℕ) → st ≡ Running p → p < 64) → (b && choices.is_expired q e st) ≡ true
    → expired_on (cond b (standing_in x q e st) Rests) ≡ onto st
on-by false x q e st h y = absurd (false≢true y)
on-by true x q e Offline h y = absurd (false≢true y)
on-by true x q e Runnable h y = absurd (false≢true y)
on-by true x q e (Running p) h y = let l = h p refl in rw y (omega arith)
on-by true x q e Blocked h y = absurd (false≢true y)

-- ---- a decision over the rows is the choice

module _ {s : System} {ρ : Rule} {now : ℕ} {t : List Row} (S : Sound s) (T : TableOf s ρ now t (slots s)) where
  abbrev told : Standings
  told = tabled t (idle_set s)

  -- who waits or is expired takes part
  waits-part : (i : ℕ) → told.waits i ≡ true → TakesPart (row_at t i)
  unfolding tabled
  waits-part i w z = false≢true (sym (ap is_waiting z) ∙ w)

  involved_part : (i : ℕ) → Involved told i → TakesPart (row_at t i)
  unfolding tabled
  involved_part i (inl w) = waits-part i w
  involved_part i (inr h) = λ z. false≢true (sym (ap is_expired z) ∙ h)

  waits-same : (i : ℕ) → i < slots s → told.waits i ≡ (standings s ρ now).waits i
  unfolding tabled standings
  waits-same i l =
      ap is_waiting (T.rows i l).standing
      ∙ waits-by (present s i) (ρ.barred s now i) ρ.slice (elapsed (vcpu_at s i) now) (vcpu_at s i).state

  expired-same : (i : ℕ) → i < slots s → told.expired i ≡ (standings s ρ now).expired i
  unfolding tabled standings
  expired-same i l =
      ap is_expired (T.rows i l).standing
      ∙ expired-by (present s i) (ρ.barred s now i) ρ.slice (elapsed (vcpu_at s i) now) (vcpu_at s i).state

  -- an expired slot runs on a pCPU of the system
  on_same : (i : ℕ) → i < slots s → told.expired i ≡ true → told.on i ≡ (standings s ρ now).on i
  unfolding tabled standings
  on_same i l h =
      let x = sym (expired-same i l) ∙ h in
      let here : Present s i = is-present s i l (both _ _ x).0 in
      ap expired_on (T.rows i l).standing
      ∙ on-by (present s i) (ρ.barred s now i) ρ.slice (elapsed (vcpu_at s i) now) (vcpu_at s i).state
      (λ p e. let o = S.runs i p here e in omega (arith, o.exists)) x

  idle-same : (p : ℕ) → p < 64 → told.idle p ≡ (standings s ρ now).idle p
  unfolding tabled standings idle_set
  idle-same p l = set_of-permits (λ q. idle_at s q) 64 p (omega arith) ∙ rw (lt-ltb p 64 l)

  alike : Alike told (standings s ρ now) (slots s)
  unfolding tabled standings
  alike =
      record {
        waits = waits-same;
        expired = expired-same;
        on = on_same;
        mask = λ i l w. (T.rows i l).mask (waits-part i w);
        last = λ i l w. (T.rows i l).last (waits-part i w);
        beats =
            λ i j l m x y.
            let a = involved_part i x in
            let b = involved_part j y in
            rw ((T.rows i l).service a, (T.rows j m).service b, (T.rows i l).weight a, (T.rows j m).weight b);
        idle = idle-same;
      }

pub decided-choice : DecidedChoice
unfolding choice
decided-choice s ρ now t S T = decide_cong (alike S T)
