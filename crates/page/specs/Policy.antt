-- The policy: its look-ups, its calls, and a new one.
use Rattle.std.specs.Prelude.{ℕ, ◌+◌, ◌-◌, ◌*◌, ◌/◌, ◌%◌, ◌^◌, min, max, Bool, true, false, cond, ◌&&◌, List, [], ◌∷◌, map, ltb, leb, get_or, set, replicate}
use Rattle.policy.specs.declared.Account.{Account}
use Rattle.policy.specs.declared.Scheduler.{Scheduler}

-- ---- The policy's look-ups. Outside the shape: weight 256, offset 0, snapshot false.
abbrev pub covers : Scheduler → ℕ → ℕ → Bool
covers π d v = ltb d (min π.domain_count 16) && ltb v (min π.vcpus_per_domain 8)

abbrev pub account : Scheduler → ℕ → ℕ → Account
account π d v =
    cond (covers π d v)
    (get_or π.accounts (d * 8 + v) (record { weight = 0; offset = 0 ∷ 0 ∷ 0 ∷ 0 ∷ []; was_schedulable = false }))
    (record { weight = 256; offset = 0 ∷ 0 ∷ 0 ∷ 0 ∷ []; was_schedulable = false })

-- weight 0 becomes 1
abbrev pub weight : Scheduler → ℕ → ℕ → ℕ
weight π d v = max (account π d v).weight 1

-- limbs of 32 bits, least first
abbrev pub number : List ℕ → ℕ
number [] = 0
number (x ∷ xs) = x + 2 ^ 32 * number xs

abbrev pub four : ℕ → List ℕ
four n = n % 2 ^ 32 ∷ n / 2 ^ 32 % 2 ^ 32 ∷ n / 2 ^ 32 / 2 ^ 32 % 2 ^ 32 ∷ n / 2 ^ 32 / 2 ^ 32 / 2 ^ 32 % 2 ^ 32 ∷ []

abbrev pub hold : ℕ → ℕ
hold n = min n (2 ^ 128 - 1)

-- what is written outside the shape is let be
abbrev pub put : Scheduler → ℕ → ℕ → Account → Scheduler
put π d v a =
    cond (covers π d v)
    (record {
      domain_count = π.domain_count;
      vcpus_per_domain = π.vcpus_per_domain;
      accounts = set π.accounts (d * 8 + v) a;
      quantum = π.quantum;
      wake_boost = π.wake_boost;
    })
    π

-- ---- The policy's calls
unfoldable pub set_weight : Scheduler → ℕ → ℕ → ℕ → Scheduler
set_weight π d v w =
    put π d v
    (record { weight = max w 1; offset = (account π d v).offset; was_schedulable = (account π d v).was_schedulable })

unfoldable pub set_wake_boost : Scheduler → Bool → Scheduler
set_wake_boost π on =
    record {
      domain_count = π.domain_count;
      vcpus_per_domain = π.vcpus_per_domain;
      accounts =
          map (λ (a : Account). record { weight = a.weight; offset = 0 ∷ 0 ∷ 0 ∷ 0 ∷ []; was_schedulable = a.was_schedulable })
          π.accounts;
      quantum = π.quantum;
      wake_boost = on;
    }

-- ---- As built: weight 256, no offset, nobody in the snapshot, boost on
unfoldable pub new_policy : ℕ → ℕ → ℕ → Scheduler
new_policy d v q =
    record {
      domain_count = d;
      vcpus_per_domain = v;
      accounts = replicate 128 (record { weight = 256; offset = 0 ∷ 0 ∷ 0 ∷ 0 ∷ []; was_schedulable = false });
      quantum = q;
      wake_boost = true;
    }

-- 7 above the sizes, beside the one of nothing
pub record PolicyTold : Type 0 where
  pub number : ℕ
  pub policy : Scheduler

abbrev pub new_policy_told : ℕ → ℕ → ℕ → PolicyTold
new_policy_told d v q =
    cond (leb d 16 && leb v 8) (record { number = 0; policy = new_policy d v q }) (record { number = 7; policy = new_policy 0 0 0 })
