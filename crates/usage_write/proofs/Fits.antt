-- What is written can be said: each weight and each run time up to the reading fits its bytes. Assumes nothing.
use Rattle.std.proofs.Common.{ℕ, ◌+◌, ◌*◌, ◌/◌, ◌%◌, ◌^◌, ◌≤◌, ◌<◌, ◌≡◌, ◌⊎◌, inl, inr, arith}
use Rattle.std.proofs.lemmas.Bool.{cases_lt}
use Rattle.system.specs.declared.System.{System}
use Rattle.policy.specs.declared.Scheduler.{Scheduler}
use Rattle.usage_layout.specs.Layout.{Figures, Within}
use Rattle.usage_write.specs.Written.{figures_of}

-- the figures of d/v do
abbrev Fit : Figures → ℕ → ℕ → Type 0
Fit f d v = (f.weight d v < 256 ^ 4) × (f.service d v < 256 ^ 16)

-- those of the vCPUs among the first i slots
pub record FitBelow (f : Figures) (i : ℕ) : Type 0 where
  pub fit : (d v : ℕ) → d * 8 + v < i → v < f.vcpus → (f.weight d v < 256 ^ 4) × (f.service d v < 256 ^ 16)

pub none-fit : (f : Figures) → FitBelow f 0
none-fit f = record { fit = λ d v l m. absurd (omega arith) }

module _ (f : Figures) (k : f.vcpus ≤ 8) (i : ℕ) (h : FitBelow f i) where
  pub next-fit : f.weight (i / 8) (i % 8) < 2 ^ 32 → f.service (i / 8) (i % 8) < 2 ^ 65 → FitBelow f (i + 1)
  next-fit a b = record { fit = one }
    where
      one : (d v : ℕ) → d * 8 + v < i + 1 → v < f.vcpus → Fit f d v
      one d v l m = go (cases_lt (d * 8 + v) i)
        where
          go : (d * 8 + v < i) ⊎ (i ≤ d * 8 + v) → Fit f d v
          go (inl before) = h.fit d v before m
          go (inr here) =
              let row : i / 8 ≡ d = omega arith in
              let column : i % 8 ≡ v = omega arith in
              rw (← row, ← column) (omega arith, omega arith)

  pub absent-fit : f.vcpus ≤ i % 8 → FitBelow f (i + 1)
  absent-fit a = record { fit = λ d v l m. h.fit d v (omega arith) m }

pub figures-within : (s : System) (π : Scheduler) (now i : ℕ) → FitBelow (figures_of s π now) i → (figures_of s π now).domains * 8 ≤ i
    → Within (figures_of s π now)
unfolding figures_of
figures-within s π now i h l =
    record {
      domains = omega arith;
      vcpus = omega arith;
      least = λ d v x y. omega arith;
      weight = λ d v x y. (h.fit d v (omega arith) y).0;
      service = λ d v x y. (h.fit d v (omega arith) y).1;
    }
