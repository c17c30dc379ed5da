-- What 2.3 says of usage files: exactly this layout is accepted, every choice is read back, no two files say the same.
use Rattle.std.specs.Prelude.{ℕ, ◌^◌, ◌≤◌, ◌<◌, true, List, ◌≡◌, get_or}
use Rattle.page.specs.UsageFile.{layout, accepted, domains_in, vcpus_in, weight_in, service_in, weight_of, service_of}

abbrev pub Bytes : List ℕ → Type 0
Bytes f = (i : ℕ) → get_or f i 0 < 256

-- what n domains of k vCPUs can have
pub record Within (n k : ℕ) (weights services : ℕ → ℕ → ℕ) : Type 0 where
  pub domains : n ≤ 16
  pub vcpus : k ≤ 8
  pub least : (d v : ℕ) → d < n → v < k → 1 ≤ weights d v
  pub weight : (d v : ℕ) → d < n → v < k → weights d v < 2 ^ 32
  pub service : (d v : ℕ) → d < n → v < k → services d v < 2 ^ 128

-- f is accepted and says these; a file of no domains has no line to say how many vCPUs each would have
pub record Says (f : List ℕ) (n k : ℕ) (weights services : ℕ → ℕ → ℕ) : Type 0 where
  pub accepted : accepted f ≡ true
  pub domains : domains_in f ≡ n
  pub vcpus : 1 ≤ n → vcpus_in f ≡ k
  pub weight : (d v : ℕ) → d < n → v < k → weight_of f d v ≡ weights d v
  pub service : (d v : ℕ) → d < n → v < k → service_of f d v ≡ services d v

-- whatever bytes are accepted are the layout of what they say
abbrev pub Exactly : Type 0
Exactly = (f : List ℕ) → Bytes f → accepted f ≡ true → f ≡ layout (domains_in f) (vcpus_in f) (weight_in f) (service_in f)

-- every choice within the limits has a file
abbrev pub EveryChoice : Type 0
EveryChoice = (n k : ℕ) (weights services : ℕ → ℕ → ℕ) → Within n k weights services
    → Says (layout n k weights services) n k weights services

-- no two accepted files have the same counts, weights and services
abbrev pub NoTwoAlike : Type 0
NoTwoAlike = (f g : List ℕ) → Bytes f → Bytes g → accepted f ≡ true → accepted g ≡ true
    → domains_in f ≡ domains_in g → vcpus_in f ≡ vcpus_in g
    → ((d v : ℕ) → d < domains_in f → v < vcpus_in f → weight_in f d v ≡ weight_in g d v)
    → ((d v : ℕ) → d < domains_in f → v < vcpus_in f → service_in f d v ≡ service_in g d v)
    → f ≡ g
