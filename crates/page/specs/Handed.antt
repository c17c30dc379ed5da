-- What the code hands back: an answer or a result by its number, what is left as it is, the moves counted.
use Rattle.std.specs.Prelude.{ℕ, ◌≡◌, length, Result, Ok, Err, IfErr}
use Rattle.system.specs.declared.Answer.{Answer}
use Rattle.system.specs.declared.Answer.TheVariants.{TooLarge, Unsound}
use Rattle.system.specs.declared.System.{System}
use Rattle.policy.specs.declared.Scheduler.{Scheduler}
use Rattle.advance.specs.declared.Decision.{Decision}
use Rattle.advance.specs.declared.Decision.TheVariants as decision
use Rattle.advance.specs.declared.Outcome.{Outcome}
use Rattle.host.specs.declared.Host.{Host}
use Rattle.load_script.specs.declared.Opened.{Opened}
use Rattle.page.specs.Calls.{Told, new_system}
use Rattle.page.specs.Policy.{PolicyTold, new_policy}
use Rattle.page.specs.Advance.{Recommended, Advanced}
use Rattle.page.specs.Steps.{Step, number_of}
use Rattle.page.specs.Load.{Opening}

-- ---- A result: 0 with what it is of; a refusal by its number, and beside it stands what is given for nothing
abbrev pub number_told : {A : Type 0} → Result A Answer → ℕ
number_told (Ok x) = 0
number_told (Err a) = number_of a

abbrev pub else_nothing : {A : Type 0} → A → Result A Answer → A
else_nothing nothing (Ok x) = x
else_nothing nothing (Err a) = nothing

-- what a call of the mechanism answers, and the system that it leaves
pub record HandsSystem (a : Answer) (s : System) (e : Told) : Type 0 where
  pub number : number_of a ≡ e.number
  pub system : s ≡ e.system

-- ---- What building hands back: nothing is of no domains, vCPUs and pCPUs
pub record HandsNewSystem (r : Result System Answer) (e : Told) : Type 0 where
  pub number : number_told r ≡ e.number
  pub system : else_nothing (new_system 0 0 0) r ≡ e.system
  pub refused : IfErr r (λ a. a ≡ TooLarge)

pub record HandsNewPolicy (r : Result Scheduler Answer) (e : PolicyTold) : Type 0 where
  pub number : number_told r ≡ e.number
  pub policy : else_nothing (new_policy 0 0 0) r ≡ e.policy
  pub refused : IfErr r (λ a. a ≡ TooLarge)

pub record HandsNewHost (r : Result Host Answer) (e : Step) : Type 0 where
  pub number : number_told r ≡ e.number
  pub host : else_nothing (record { system = new_system 0 0 0; scheduler = new_policy 0 0 0 }) r ≡ e.host
  pub refused : IfErr r (λ a. a ≡ TooLarge)

-- ---- What `next` hands back: beside a refusal stands Idle
pub record HandsDecision (r : Result Decision Answer) (e : Recommended) : Type 0 where
  pub number : number_told r ≡ e.number
  pub decision : else_nothing decision.Idle r ≡ e.decision
  pub refused : IfErr r (λ a. a ≡ Unsound)

-- what `advance` hands back, and what it leaves
pub record HandsAdvance (r : Outcome) (s : System) (π : Scheduler) (e : Advanced) : Type 0 where
  pub number : number_of r.answer ≡ e.number
  pub system : s ≡ e.system
  pub policy : π ≡ e.policy
  pub count : r.count ≡ length e.moves

-- what an opened load is handed back as
pub record HandsLoad (r : Opened) (e : Opening) : Type 0 where
  pub number : number_of r.answer ≡ e.number
  pub load : r.load ≡ e.load
