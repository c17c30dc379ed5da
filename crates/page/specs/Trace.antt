-- A host as `trace` writes it: a line for each vCPU, by domain, then vCPU, and one for each pCPU that is held.
use Rattle.std.specs.Prelude.{ℕ, List, [], ◌∷◌, ◌++◌}
use Rattle.system.specs.declared.RunState.{RunState}
use Rattle.system.specs.declared.RunState.TheVariants.{Offline, Runnable, Running, Blocked}
use Rattle.system.specs.declared.Occupant.{Occupant}
use Rattle.system.specs.declared.Occupant.TheVariants.{Idle, Vcpu}
use Rattle.system.specs.declared.System.{System}
use Rattle.policy.specs.declared.Scheduler.{Scheduler}
use Rattle.page.specs.Host.{pcpus, vcpu, holder, each}
use Rattle.page.specs.Policy.{weight}
use Rattle.page.specs.Numbers.{parts}
use Rattle.page.specs.Lines.{numbers_line, pcpu_line}

-- its state, its pCPU (64 for none) and since when it runs (0 if it does not)
abbrev pub state_numbers : RunState → ℕ → List ℕ → List ℕ
state_numbers Offline clock rest = 0 ∷ 64 ∷ 0 ∷ rest
state_numbers Runnable clock rest = 1 ∷ 64 ∷ 0 ∷ rest
state_numbers (Running p) clock rest = 2 ∷ p ∷ clock ∷ rest
state_numbers Blocked clock rest = 3 ∷ 64 ∷ 0 ∷ rest

-- domain, vCPU, state, pCPU, clock, run time, mask, weight, the pCPU that it was last on
abbrev pub vcpu_line : System → Scheduler → ℕ → ℕ → List ℕ
vcpu_line s π d v =
    let x = vcpu s d v in
    numbers_line
    (d ∷ v ∷ state_numbers x.state x.dispatched_at (x.runtime ∷ x.affinity ∷ weight π d v ∷ x.last ∷ []))

abbrev pub held_line : ℕ → Occupant → List ℕ
held_line p Idle = []
held_line p (Vcpu d v) = pcpu_line p d v

unfoldable pub host_text : System → Scheduler → List ℕ
host_text s π = each s (λ d v l. l ++ vcpu_line s π d v) [] ++ parts (pcpus s) (λ p. held_line p (holder s p))
