-- What a run state says.
use Rattle.std.specs.Prelude.{ℕ, Bool, true, false, ◌≡◌, refl, eqb}
use Rattle.std.proofs.lemmas.Bool.{false≢true}
use Rattle.std.proofs.Common.{ap, eqb-true}
use Rattle.system.specs.declared.RunState.{RunState}
use Rattle.system.specs.declared.RunState.TheVariants.{Offline, Runnable, Running, Blocked}

-- what f gives of its pCPU while Running, else x
abbrev pub while_running {ℓ} : {A : Type ℓ} → RunState → (ℕ → A) → A → A
while_running Offline f x = x
while_running Runnable f x = x
while_running (Running p) f x = f p
while_running Blocked f x = x

-- the pCPU that it names, 0 unless it is Running
abbrev pub onto : RunState → ℕ
onto st = while_running st (λ p. p) 0

-- Running on p
abbrev pub runs_on : ℕ → RunState → Bool
runs_on p st = while_running st (λ q. eqb q p) false

pub runs_on_lem : (p : ℕ) (st : RunState) → runs_on p st ≡ true → st ≡ Running p
runs_on_lem p Offline e = absurd (false≢true e)
runs_on_lem p Runnable e = absurd (false≢true e)
runs_on_lem p (Running q) e = ap Running (eqb-true q p e)
runs_on_lem p Blocked e = absurd (false≢true e)

-- waiting for a pCPU
abbrev pub is_runnable : RunState → Bool
is_runnable Offline = false
is_runnable Runnable = true
is_runnable (Running p) = false
is_runnable Blocked = false

pub is-runnable : (st : RunState) → is_runnable st ≡ true → st ≡ Runnable
is-runnable Offline e = absurd (false≢true e)
is-runnable Runnable e = refl
is-runnable (Running p) e = absurd (false≢true e)
is-runnable Blocked e = absurd (false≢true e)

-- in the pool: waiting or Running
abbrev pub schedulable : RunState → Bool
schedulable Offline = false
schedulable Runnable = true
schedulable (Running p) = true
schedulable Blocked = false
