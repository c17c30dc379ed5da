-- The services in a host's usage file add up to what each domain has used at that reading. Assumes nothing.
use Rattle.std.specs.Prelude.{ℕ, ◌<◌, ◌≡◌, cond, List}
use Rattle.std.proofs.Common.{sym, ap, ◌∙◌, lt-ltb}
use Rattle.system.specs.declared.System.{System}
use Rattle.system.specs.Slots.{domains, vcpus}
use Rattle.system.specs.Reads.{vcpu_count}
use Rattle.policy.specs.declared.Scheduler.{Scheduler}
use Rattle.usage.specs.Usage.{sum, usage}
use Rattle.usage.specs.Sums.{sum_same}
use Rattle.usage_layout.specs.Reading.{body_in, service_in}
use Rattle.usage_layout.specs.Files.{Says}
use Rattle.usage_write.specs.Written.{figures_of, usage_in}

-- `Says` is what `write` promises of every host and reading
pub file-usage : (s : System) (π : Scheduler) (now : ℕ) (l : List ℕ) → Says l (figures_of s π now) → (d : ℕ) → d < domains s
    → usage_in l d ≡ usage s d now
unfolding figures_of
file-usage s π now l says d h =
    let all : vcpu_count s d ≡ vcpus s = ap (λ b. cond b (vcpus s) 0) (lt-ltb d (domains s) h) in
    ap (sum (service_in (body_in l d))) (says.vcpus d h ∙ sym all)
    ∙ sum_same _ _ (vcpu_count s d) (λ v m. says.service d v h (rw all at m))
