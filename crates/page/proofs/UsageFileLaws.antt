-- The usage file of any figures, and that of any host at a reading, are the page's. Assumes nothing.
use Prim.Native.Nat.{ℕ, ◌+◌, ◌-◌, ◌<◌}
use mathlib.Core.List.{List, ◌++◌}
use mathlib.Core.Path.{◌≡◌, refl, ◌∙◌, ap, ap₂}
use native.Mathlib.Omega.{arith}
use lib.ListN.{length, replicate}
use Rattle.system.specs.declared.System.{System}
use Rattle.system.specs.Reads.{vcpu_at}
use Rattle.policy.specs.declared.Scheduler.{Scheduler}
use Rattle.policy.specs.Accounts.{account_of, account_at}
use Rattle.usage_layout.specs.Layout as layout
use Rattle.usage_layout.specs.Layout.{Figures}
use Rattle.usage_write.specs.Written.{figures_of}
use Rattle.page.specs.Page.{vcpu, weight}
use Rattle.page.specs.Numbers.{parts, bytes}
use Rattle.page.specs.UsageFile as page
use Rattle.page.specs.UsageFile.{usge, ran}
use Rattle.page.proofs.Standing.{flight-is}
use Rattle.page.proofs.NumberLaws.{parts_are, bytes_are}

pub start_is : (n k d : ℕ) → layout.start n k d ≡ page.start n k d
start_is n k d = omega arith

-- of weights and services that are the same where they are asked for
pub layout_is : (f : Figures) (weights services : ℕ → ℕ → ℕ)
    → ((d v : ℕ) → d < f.domains → v < f.vcpus → f.weight d v ≡ weights d v)
    → ((d v : ℕ) → d < f.domains → v < f.vcpus → f.service d v ≡ services d v)
    → layout.file f ≡ page.layout f.domains f.vcpus weights services
unfolding layout.file page.layout
layout_is f weights services same_w same_s =
    ap₂ ◌++◌ (ap₂ (λ (a b : List ℕ). usge ++ a ++ b) (bytes_are 2 f.domains) lines) bodies
  where
    n : ℕ
    n = f.domains

    k : ℕ
    k = f.vcpus

    lines : layout.each n (layout.entry n k) ≡ parts n (λ d. bytes 4 (page.start n k d) ++ bytes 2 k)
    lines =
        parts_are n _ _
        (λ d _. ap₂ ◌++◌ (bytes_are 4 (layout.start n k d) ∙ ap (bytes 4) (start_is n k d)) (bytes_are 2 k))

    vcpu-is : (d v : ℕ) → d < n → v < k
        → layout.vcpu_bytes (f.weight d v) (f.service d v) ≡ bytes 4 (weights d v) ++ bytes 16 (services d v)
    vcpu-is d v l m =
        ap₂ ◌++◌ (bytes_are 4 (f.weight d v) ∙ ap (bytes 4) (same_w d v l m))
        (bytes_are 16 (f.service d v) ∙ ap (bytes 16) (same_s d v l m))

    bodies : layout.each n (layout.body_of f)
        ≡ parts n (λ d. parts k (λ v. bytes 4 (weights d v) ++ bytes 16 (services d v)))
    bodies = parts_are n _ _ (λ d l. parts_are k _ _ (λ v m. vcpu-is d v l m))

pub file-is : (s : System) (π : Scheduler) (now : ℕ) → layout.file (figures_of s π now) ≡ page.file s π now
unfolding figures_of page.file account_of account_at vcpu_at
file-is s π now =
    layout_is (figures_of s π now) (weight π) (ran s now) (λ d v _ _. refl)
    (λ d v _ _. ap (λ (n : ℕ). (vcpu s d v).runtime + n) (flight-is (vcpu s d v) now))

pub written_is : (s : System) (π : Scheduler) (now : ℕ) → layout.padded (layout.file (figures_of s π now))
    ≡ page.written s π now
unfolding layout.padded
written_is s π now = ap (λ (l : List ℕ). l ++ replicate (2662 - length l) 0) (file-is s π now)
