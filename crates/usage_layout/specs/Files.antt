-- What holds of usage files: every choice of figures has one, nothing else is accepted, and no two say the same. It is proved as
-- `has-file`, `accepted-file` and `same-file`.
use Rattle.std.specs.Prelude.{ℕ, ◌<◌, true, ◌≡◌, List}
use Rattle.big_endian.specs.Numbers.{AllBytes}
use Rattle.usage_layout.specs.Layout.{Figures, Within, start, body_of, file}
use Rattle.usage_layout.specs.Reading.{domains_in, offset_in, vcpus_in, weight_in, service_in, body_in, accepted, figures_in}

-- bytes that are accepted and say what f says
pub record Says (s : List ℕ) (f : Figures) : Type 0 where
  pub accepted : accepted s ≡ true
  pub domains : domains_in s ≡ f.domains
  pub vcpus : (d : ℕ) → d < f.domains → vcpus_in s d ≡ f.vcpus
  pub offset : (d : ℕ) → d < f.domains → offset_in s d ≡ start f.domains f.vcpus d
  pub body : (d : ℕ) → d < f.domains → body_in s d ≡ body_of f d
  pub weight : (d v : ℕ) → d < f.domains → v < f.vcpus → weight_in (body_in s d) v ≡ f.weight d v
  pub service : (d v : ℕ) → d < f.domains → v < f.vcpus → service_in (body_in s d) v ≡ f.service d v

-- the same counts, weights and services
pub record Alike (s t : List ℕ) : Type 0 where
  pub domains : domains_in s ≡ domains_in t
  pub vcpus : (d : ℕ) → d < domains_in s → vcpus_in s d ≡ vcpus_in t d
  pub weight : (d v : ℕ) → d < domains_in s → v < vcpus_in s d → weight_in (body_in s d) v ≡ weight_in (body_in t d) v
  pub service : (d v : ℕ) → d < domains_in s → v < vcpus_in s d → service_in (body_in s d) v ≡ service_in (body_in t d) v

-- every choice within the limits has a file
abbrev pub EveryChoice : Type 0
EveryChoice = (f : Figures) → Within f → Says (file f) f

-- whatever bytes are accepted are the file of what they say, which is within the limits
abbrev pub NothingElse : Type 0
NothingElse = (s : List ℕ) → AllBytes s → accepted s ≡ true → Within (figures_in s) × (s ≡ file (figures_in s))

-- equal counts, weights and services make equal files
abbrev pub NoTwoAlike : Type 0
NoTwoAlike = (s t : List ℕ) → AllBytes s → AllBytes t → accepted s ≡ true → accepted t ≡ true → Alike s t → s ≡ t
