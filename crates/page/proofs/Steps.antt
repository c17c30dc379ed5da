-- Every call of a host, every list of calls, and every build, is the page's. Assumes nothing.
use Prim.Native.Nat.{ℕ}
use mathlib.Core.Bool.{Bool, true, false, cond, ◌&&◌}
use mathlib.Core.List.{List, [], ◌∷◌, map}
use mathlib.Core.Path.{◌≡◌, refl, ◌∙◌, ap}
use lib.Dec.{leb}
use lib.ListN.{length}
use Prim.Native.Nat.{suc}
use Rattle.system.specs.declared.Answer.{Answer}
use Rattle.system.specs.Answers.{told}
use Rattle.moves.specs.declared.Choice.{Choice}
use Rattle.host.specs.declared.Host.{Host}
use Rattle.calls.specs.declared.Call.{Call}
use Rattle.host.specs.Step as host
use Rattle.host.specs.Outcomes as outcomes
use Rattle.system.specs.Shape as shape
use Rattle.policy.specs.Accounts as accounts
use Rattle.advance.specs.Advance.{named}
use Rattle.page.specs.Page as calls
use Rattle.page.specs.Steps as page
use Rattle.page.specs.Steps.{number_of, by_system, by_policy, by_advance}
use Rattle.page.proofs.Calls.{request_is, offline-all-is}
use Rattle.page.proofs.Policy.{set-weight-is, set-wake-boost-is}
use Rattle.page.proofs.Advance.{advance-is}

-- the moves by ids
abbrev pub by-ids : host.Step → page.Step
by-ids r = record { number = r.number; host = r.host; moves = map named r.moves }

pub step_is : (h : Host) (c : Call) → by-ids (host.step h c) ≡ page.step h c
unfolding host.step page.step
step_is h (Call.Ask d v q) = ap (by_system h) (request_is h.system d v q)
step_is h (Call.OfflineAll d now) = ap (by_system h) (offline-all-is h.system d now)
step_is h (Call.SetWeight d v w) = ap (by_policy h) (set-weight-is h.scheduler d v w)
step_is h (Call.SetWakeBoost on) = ap (by_policy h) (set-wake-boost-is h.scheduler on)
step_is h (Call.Advance now) = ap by_advance (advance-is h.system h.scheduler now)

pub after_is : (h : Host) (cs : List Call) → host.host_after h cs ≡ page.after h cs
unfolding host.host_after page.after
after_is h [] = refl
after_is h (c ∷ cs) = after_is (host.step h c).host cs ∙ ap (λ (r : page.Step). page.after r.host cs) (step_is h c)

abbrev counted : page.Step → outcomes.HostOutcome
counted r = record { number = r.number; host = r.host; count = 0 }

pub build-is : (d v p q : ℕ) → outcomes.built_host d v p q ≡ counted (page.build d v p q)
unfolding page.build shape.fresh accounts.fresh_policy calls.new_system calls.new_policy
build-is d v p q = go (leb d 16 && (leb v 8 && leb p 64))
  where
    go : (b : Bool) → cond b (record { number = 0; host = host.fresh_host d v p d v q; count = 0 }) (record { number = 7; host = host.fresh_host 0 0 0 0 0 0; count = 0 })
        ≡ counted (cond b (record { number = 0; host = record { system = calls.new_system d v p; scheduler = calls.new_policy d v q }; moves = [] })
        (record { number = 7; host = record { system = calls.new_system 0 0 0; scheduler = calls.new_policy 0 0 0 }; moves = [] }))
    go true = refl
    go false = refl

-- a build moves nobody
pub none-moved : (d v p q : ℕ) → length (page.build d v p q).moves ≡ 0
unfolding page.build
none-moved d v p q = go (leb d 16 && (leb v 8 && leb p 64))
  where
    go : (b : Bool) → length (cond {A = page.Step} b
        (record { number = 0; host = record { system = calls.new_system d v p; scheduler = calls.new_policy d v q }; moves = [] })
        (record { number = 7; host = record { system = calls.new_system 0 0 0; scheduler = calls.new_policy 0 0 0 }; moves = [] })).moves ≡ 0
    go true = refl
    go false = refl

pub answer-is : (a : Answer) → told a ≡ number_of a
answer-is a = refl

pub as_many : (ms : List Choice) → length ms ≡ length (map named ms)
as_many [] = refl
as_many (m ∷ ms) = ap suc (as_many ms)
