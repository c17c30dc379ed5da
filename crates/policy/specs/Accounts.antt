-- What the policy keeps of each vCPU, and what is looked up, in its shape or outside it.
use Rattle.std.specs.Prelude.{ℕ, min, max, Bool, true, false, cond, ◌&&◌, ◌≡◌, List, [], ◌∷◌, map, ltb, leb, length, get_or, set, replicate, Result, Ok, Err}
use Rattle.service.specs.Service.{value}
use Rattle.system.specs.declared.Answer.{Answer}
use Rattle.system.specs.declared.Answer.TheVariants.{Done, TooLarge}
use Rattle.system.specs.Answers.{told}
use Rattle.system.specs.Slots.{slot}
use Rattle.policy.specs.declared.Account.{Account}
use Rattle.policy.specs.declared.Scheduler.{Scheduler}

-- the weight of a vCPU that none was set for, and of one outside the shape
abbrev pub default_weight : ℕ
default_weight = 256

-- the least weight that is used
abbrev pub least_weight : ℕ
least_weight = 1

-- a weight below the least is raised to it
abbrev pub raised : ℕ → ℕ
raised w = max w least_weight

abbrev pub no_offset : List ℕ
no_offset = 0 ∷ 0 ∷ 0 ∷ 0 ∷ []

-- the account of a vCPU for which nothing was done, and of one outside the shape
abbrev pub plain : Account
plain = record { weight = default_weight; offset = no_offset; was_schedulable = false }

-- the record of zeros: what a read past the end gives
abbrev pub blank_account : Account
blank_account = record { weight = 0; offset = no_offset; was_schedulable = false }

unfoldable pub account_at : Scheduler → ℕ → Account
account_at π i = get_or π.accounts i blank_account

-- d/v is within the counts, and within the sizes
abbrev pub in_shape : ℕ → ℕ → ℕ → ℕ → Bool
in_shape domains vcpus d v = ltb d (min domains 16) && ltb v (min vcpus 8)

abbrev pub covers : Scheduler → ℕ → ℕ → Bool
covers π d v = in_shape π.domain_count π.vcpus_per_domain d v

unfoldable pub account_of : Scheduler → ℕ → ℕ → Account
account_of π d v = cond (covers π d v) (account_at π (slot d v)) plain

-- a weight of 0 in a damaged policy reads as the least
abbrev pub used_weight : Account → ℕ
used_weight a = raised a.weight

abbrev pub weight_of : Scheduler → ℕ → ℕ → ℕ
weight_of π d v = used_weight (account_of π d v)

abbrev pub offset_of : Scheduler → ℕ → ℕ → ℕ
offset_of π d v = value (account_of π d v).offset

abbrev pub was_schedulable : Scheduler → ℕ → ℕ → Bool
was_schedulable π d v = (account_of π d v).was_schedulable

-- the policy with other accounts
abbrev pub with_accounts : Scheduler → List Account → Scheduler
with_accounts π l =
    record {
      domain_count = π.domain_count;
      vcpus_per_domain = π.vcpus_per_domain;
      accounts = l;
      quantum = π.quantum;
      wake_boost = π.wake_boost;
    }

-- another account for d/v, if it is in the shape
unfoldable pub put_account : Scheduler → ℕ → ℕ → Account → Scheduler
put_account π d v a = cond (covers π d v) (with_accounts π (set π.accounts (slot d v) a)) π

-- the accounts are as many as the code's
pub record Tabled (π : Scheduler) : Type 0 where
  pub accounts : length π.accounts ≡ 128

-- a policy as built
unfoldable pub fresh_policy : ℕ → ℕ → ℕ → Scheduler
fresh_policy d v q =
    record { domain_count = d; vcpus_per_domain = v; accounts = replicate 128 plain; quantum = q; wake_boost = true }

abbrev pub with_weight : Account → ℕ → Account
with_weight a w = record { weight = w; offset = a.offset; was_schedulable = a.was_schedulable }

-- what is set is at least the least
unfoldable pub set_weight : Scheduler → ℕ → ℕ → ℕ → Scheduler
set_weight π d v w = put_account π d v (with_weight (account_of π d v) (raised w))

abbrev pub unboosted : Account → Account
unboosted a = record { weight = a.weight; offset = no_offset; was_schedulable = a.was_schedulable }

-- all offsets are cleared
unfoldable pub set_wake_boost : Scheduler → Bool → Scheduler
set_wake_boost π on =
    record {
      domain_count = π.domain_count;
      vcpus_per_domain = π.vcpus_per_domain;
      accounts = map unboosted π.accounts;
      quantum = π.quantum;
      wake_boost = on;
    }

-- what a call is told, and the policy that it leaves
pub record PolicyOutcome : Type 0 where
  pub number : ℕ
  pub policy : Scheduler

-- what building hands back: beside a refusal stands the policy of no domains and vCPUs
abbrev pub built_outcome : Result Scheduler Answer → PolicyOutcome
built_outcome (Ok π) = record { number = told Done; policy = π }
built_outcome (Err a) = record { number = told a; policy = fresh_policy 0 0 0 }

-- a shape above the sizes is told 7, beside the policy of no domains and vCPUs
abbrev pub built_policy : ℕ → ℕ → ℕ → PolicyOutcome
built_policy d v q =
    cond (leb d 16 && leb v 8) (record { number = told Done; policy = fresh_policy d v q })
    (record { number = told TooLarge; policy = fresh_policy 0 0 0 })
