-- After u turns of the loop the first u vCPUs are added, less than 2^65 each. Assumes nothing.
use Rattle.std.proofs.Common.{ℕ, ◌*◌, ◌^◌, ◌≤◌, ◌≡◌}
use Rattle.service.specs.Service.{held}
use Rattle.system.specs.declared.System.{System}
use Rattle.system.specs.Records.{runtime_until}
use Rattle.system.specs.Reads.{vcpu_at}
use Rattle.system.specs.Slots.{slot}
use Rattle.usage.specs.Usage.{sum}
use Rattle.usage.proofs.usage.Given as goal

-- of the first k vCPUs of domain d
abbrev pub so_far : System → ℕ → ℕ → ℕ → ℕ
so_far s d now k = sum (λ v. runtime_until (vcpu_at s (slot d v)) now) k

-- less than 2^65 each; closed, since `omega` does not go by numbers of that length
unfoldable pub Bounded : System → ℕ → ℕ → ℕ → Type 0
Bounded s d now k = so_far s d now k ≤ k * 2 ^ 65

abbrev pub invariant-loop-u : goal.invariant-loop-u
invariant-loop-u l = (l.total ≡ held (so_far l.fn.s l.dom l.now l.u)) × Bounded l.fn.s l.dom l.now l.u
