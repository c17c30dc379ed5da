-- A host, and what one call of it does, then a list of calls.
use Rattle.std.specs.Prelude.{ℕ, cond, ◌&&◌, List, [], ◌∷◌, ◌≡◌, leb, length}
use Rattle.system.specs.declared.Answer.{Answer}
use Rattle.system.specs.declared.Answer.TheVariants.{Done, BadDomain, BadVcpu, BadPcpu, PcpuBusy, NotAffine}
use Rattle.system.specs.declared.Answer.TheVariants.{TooLarge, Unsound, BadScript, BadFile, NotInFile, BadSeed}
use Rattle.system.specs.declared.Answer.TheVariants.{FoundOffline, FoundRunnable, FoundRunning, FoundBlocked}
use Rattle.policy.specs.declared.Scheduler.{Scheduler}
use Rattle.advance.specs.declared.Decision.{Decision}
use Rattle.host.specs.declared.Host.{Host}
use Rattle.calls.specs.declared.Call.{Call}
use Rattle.advance.specs.declared.Outcome.{Outcome}
use Rattle.page.specs.Calls as calls
use Rattle.page.specs.Policy.{set_weight, set_wake_boost}
use Rattle.page.specs.Advance.{advance}
use Rattle.page.specs.Policy.{new_policy}
use Rattle.page.specs.Calls.{Told, new_system}
use Rattle.page.specs.Advance.{Advanced}

-- the number told, the host that is left, the moves that were enacted
pub record Step : Type 0 where
  pub number : ℕ
  pub host : Host
  pub moves : List Decision

abbrev pub by_system : Host → Told → Step
by_system h r = record { number = r.number; host = record { system = r.system; scheduler = h.scheduler }; moves = [] }

abbrev pub by_policy : Host → Scheduler → Step
by_policy h π = record { number = 0; host = record { system = h.system; scheduler = π }; moves = [] }

abbrev pub by_advance : Advanced → Step
by_advance r = record { number = r.number; host = record { system = r.system; scheduler = r.policy }; moves = r.moves }

unfoldable pub step : Host → Call → Step
step h (Call.Ask d v q) = by_system h (calls.called h.system d v q)
step h (Call.OfflineAll d now) = by_system h (calls.offline_all h.system d now)
step h (Call.SetWeight d v w) = by_policy h (set_weight h.scheduler d v w)
step h (Call.SetWakeBoost on) = by_policy h (set_wake_boost h.scheduler on)
step h (Call.Advance now) = by_advance (advance h.system h.scheduler now)

unfoldable pub after : Host → List Call → Host
after h [] = h
after h (c ∷ cs) = after (step h c).host cs

-- a build: 7 above the sizes, beside the host of nothing
unfoldable pub build : ℕ → ℕ → ℕ → ℕ → Step
build d v p q =
    cond (leb d 16 && (leb v 8 && leb p 64))
    (record { number = 0; host = record { system = new_system d v p; scheduler = new_policy d v q }; moves = [] })
    (record { number = 7; host = record { system = new_system 0 0 0; scheduler = new_policy 0 0 0 }; moves = [] })

-- ---- What the code hands back: the answer by its number, the host, and the moves counted
abbrev pub number_of : Answer → ℕ
number_of Done = 0
number_of BadDomain = 1
number_of BadVcpu = 2
number_of BadPcpu = 3
number_of FoundRunnable = 4
number_of PcpuBusy = 5
number_of NotAffine = 6
number_of TooLarge = 7
number_of Unsound = 8
number_of BadScript = 9
number_of FoundOffline = 10
number_of FoundRunning = 11
number_of FoundBlocked = 12
number_of BadFile = 13
number_of NotInFile = 14
number_of BadSeed = 15

-- r is what that step hands back, h the host that it leaves
pub record Hands (r : Outcome) (h : Host) (e : Step) : Type 0 where
  pub number : number_of r.answer ≡ e.number
  pub host : h ≡ e.host
  pub count : r.count ≡ length e.moves
