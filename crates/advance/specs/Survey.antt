-- What an advance has to do, by one look at each vCPU.
use Rattle.std.specs.Prelude.{ℕ, ◌<◌, Bool, true, false, cond, not, ◌&&◌, ◌||◌, ◌≡◌, List, [], eqb, get_or}
use Rattle.system.specs.declared.VirtualCpu.{VirtualCpu}
use Rattle.system.specs.declared.System.{System}
use Rattle.system.specs.Records.{elapsed}
use Rattle.system.specs.Reads.{vcpu_at, state_at, pooled}
use Rattle.system.specs.Slots.{present}
use Rattle.system.specs.States.{is_runnable, schedulable}
use Rattle.policy.specs.declared.Account.{Account}
use Rattle.rules.specs.Choices.{is_expired}
use Rattle.advance.specs.declared.Survey.{Survey}

-- what was seen once v, of account a, was looked at too
abbrev pub survey_with : Survey → VirtualCpu → Account → ℕ → ℕ → Survey
survey_with survey v a q now =
    record {
      changed = cond (schedulable v.state) (not a.was_schedulable) a.was_schedulable || survey.changed;
      waits = is_runnable v.state || survey.waits;
      expired = is_expired q (elapsed v now) v.state || survey.expired;
    }

-- f holds of none of the first n slots that have a vCPU
abbrev pub None : System → (ℕ → Bool) → ℕ → Type 0
None s f n = (j : ℕ) → j < n → present s j ≡ true → f j ≡ false

-- slot j was in the pool at the last accounting
abbrev pub was_in : List Account → ℕ → Bool
was_in accounts j = (get_or accounts j (record { weight = 0; offset = []; was_schedulable = false })).was_schedulable

-- it joined the pool since then, or left it
abbrev pub changed_at : System → List Account → ℕ → Bool
changed_at s accounts j = cond (pooled s j) (not (was_in accounts j)) (was_in accounts j)

abbrev pub expired_at : System → ℕ → ℕ → ℕ → Bool
expired_at s q now j = is_expired q (elapsed (vcpu_at s j) now) (state_at s j)

-- of a flag that is still down, none of the first n slots has what it stands for
pub record Seen (s : System) (accounts : List Account) (q now : ℕ) (survey : Survey) (n : ℕ) : Type 0 where
  pub changed : survey.changed ≡ false → None s (changed_at s accounts) n
  pub waits : survey.waits ≡ false → None s (λ j. is_runnable (state_at s j)) n
  pub expired : survey.expired ≡ false → None s (expired_at s q now) n

-- a move may be possible: somebody waits, and a pCPU is idle or may be freed
abbrev pub may_move : Survey → ℕ → Bool
may_move survey idle = survey.waits && (not (eqb idle 0) || survey.expired)
