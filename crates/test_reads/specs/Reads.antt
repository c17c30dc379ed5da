-- What can be read of a host, as five lines of numbers: each number is what the definition of a read answers.
use Rattle.std.specs.Prelude.{ℕ, List, ◌∷◌, ◌++◌}
use Rattle.service.specs.Service.{held}
use Rattle.system.specs.declared.System.{System}
use Rattle.system.specs.Reads.{vcpu_count, state_of, is_running, runtime_of, on_cpu_since, occupant_of}
use Rattle.system.specs.Reads.{affinity_of, affinity_permits, full_affinity, busy_pcpus}
use Rattle.system.specs.Slots.{domains, pcpus}
use Rattle.verdict.specs.Violations.{first_violation, invariants_hold}
use Rattle.policy.specs.declared.Scheduler.{Scheduler}
use Rattle.policy.specs.Accounts.{weight_of}
use Rattle.advance.specs.Advance.{next}
use Rattle.usage.specs.Usage.{usage}
use Rattle.test_fields.specs.Fields.{bit, kept}
use Rattle.text.specs.Lines.{numbers_line}
use Rattle.test_reads.specs.declared.Query.{Query}
use Rattle.test_reads.specs.Numbers.{maybe_state_number, maybe_numbers, holder_numbers, violation_numbers, decision_numbers}

-- the vCPU: its state, whether it runs, its run time, since when it is on its pCPU, its mask
unfoldable pub vcpu_numbers : System → Query → List ℕ
vcpu_numbers s q =
    maybe_state_number (state_of s q.dom q.vcpu)
    ∷ bit (is_running s q.dom q.vcpu)
    ∷ maybe_numbers (runtime_of s q.dom q.vcpu)
    ++ (maybe_numbers (on_cpu_since s q.dom q.vcpu) ++ maybe_numbers (affinity_of s q.dom q.vcpu))

-- whether its mask admits the pCPU, its weight, how many vCPUs its domain has, the mask of all pCPUs, what it used, by limbs
unfoldable pub domain_numbers : System → Scheduler → Query → List ℕ
domain_numbers s π q =
    bit (affinity_permits s q.dom q.vcpu q.pcpu)
    ∷ weight_of π q.dom q.vcpu
    ∷ vcpu_count s q.dom
    ∷ full_affinity s
    ∷ held (usage s q.dom q.clock)

-- domains, pCPUs, busy pCPUs, the slice, whether the system is sound, who holds the pCPU
unfoldable pub host_numbers : System → Scheduler → ℕ → List ℕ
host_numbers s π p =
    domains s
    ∷ pcpus s
    ∷ busy_pcpus s
    ∷ π.quantum
    ∷ bit (invariants_hold s)
    ∷ holder_numbers (occupant_of s p)

-- what is wrong first; what `next` is told at that clock, and what it recommends
unfoldable pub move_numbers : System → Scheduler → ℕ → List ℕ
move_numbers s π t =
    violation_numbers (first_violation s)
    ++ ((next s π t).number ∷ decision_numbers (next s π t).decision)

unfoldable pub reads_text : System → Scheduler → Query → List ℕ
reads_text s π q =
    numbers_line (vcpu_numbers s q)
    ++ numbers_line (domain_numbers s π q)
    ++ numbers_line (host_numbers s π q.pcpu)
    ++ numbers_line (move_numbers s π q.clock)
    ++ numbers_line (kept s π q.dom q.vcpu)

-- the most bytes that the five lines take: four of eight numbers, and one of nine
abbrev pub reads_room : ℕ
reads_room = 866
