-- What 2.3 says of usage files holds on the page. Assumes nothing.
use Prim.Native.Nat.{ℕ, suc, ◌+◌, ◌*◌, ◌≤◌, ◌<◌}
use mathlib.Core.Bool.{Bool, true, false, cond, ◌&&◌}
use mathlib.Core.List.{List, [], ◌∷◌, ◌++◌}
use mathlib.Core.Path.{◌≡◌, refl, sym, ◌∙◌, ap, ap₂, subst}
use native.Mathlib.Decide.{ℕ_discrete}
use native.Mathlib.Omega.{arith}
use lib.Dec.{ltb, leb}
use lib.ListN.{length}
use borrow.Author.Tests.{leb-false, lt-ltb}
use Rattle.scans.specs.Booleans.{all_two}
use Rattle.big_endian.specs.Numbers.{number, AllBytes}
use Rattle.big_endian.specs.Laws.{number-within}
use Rattle.system.specs.declared.System.{System}
use Rattle.system.specs.Reads.{vcpu_at}
use Rattle.policy.specs.declared.Scheduler.{Scheduler}
use Rattle.policy.specs.Accounts.{account_of, account_at}
use Rattle.usage_layout.specs.Layout as layout
use Rattle.usage_layout.specs.Layout.{Figures}
use Rattle.usage_layout.specs.Reading as reading
use Rattle.usage_layout.specs.Files as files
use Rattle.usage_layout.proofs.Laws.{accepted-parts, accepted-file, has-file}
use Rattle.usage_parse.specs.Domains as parse
use Rattle.usage_write.specs.Written.{figures_of}
use Rattle.page.specs.Page.{domains, vcpus, vcpu, weight}
use Rattle.page.specs.Numbers.{parts, bytes, field}
use Rattle.page.specs.UsageFile as page
use Rattle.page.specs.UsageFacts.{Bytes, Says, Exactly, EveryChoice, NoTwoAlike}
use Rattle.page.proofs.Standing.{flight-is}
use Rattle.page.proofs.NumberLaws.{parts_same, field_is}
use Rattle.page.proofs.UsageFileLaws.{start_is, layout_is, file-is}
use Rattle.page.proofs.UsageAccepted.{accepted-is, number_at, cut, no_line}
use Rattle.page.proofs.UsageReadLaws.{line-is}

all-bytes : (l : List ℕ) → Bytes l → AllBytes l
all-bytes [] h = tt
all-bytes (x ∷ l) h = (h 0, all-bytes l (λ i. h (suc i)))

module _ (s : List ℕ) (e : reading.accepted s ≡ true) where
  each-is : reading.vcpus_each s ≡ page.vcpus_in s
  each-is = go (leb 12 (length s)) refl
    where
      go : (b : Bool) → leb 12 (length s) ≡ b → cond b (reading.vcpus_in s 0) 0 ≡ page.vcpus_in s
      go true q = field_is s 10 2
      go false q = six (ℕ_discrete (length s) 6)
        where
          whole : length s ≡ page.start (reading.domains_in s) (reading.vcpus_each s) (reading.domains_in s)
          whole = (accepted-parts s e).shape.whole
              ∙ start_is (reading.domains_in s) (reading.vcpus_each s) (reading.domains_in s)

          six : Dec (length s ≡ 6) → 0 ≡ page.vcpus_in s
          six (yes r) = sym (no_line s r)
          six (no r) = absurd (cut s (reading.domains_in s) (reading.vcpus_each s) (leb-false 12 (length s) q) r whole)

  -- what the bytes say of vCPU d/v, in its body and in the file
  module _ (d v : ℕ) (l : d < reading.domains_in s) (m : v < reading.vcpus_each s) where
    has : parse.has_body s d ≡ true
    has = all_two e (lt-ltb d (reading.domains_in s) l)

    there : (i j n : ℕ) → i + n ≤ v * 20 + 20 → page.start_in s d + i ≡ j → number (reading.body_in s d) i n ≡ field s j n
    there i j n small q =
        let due = line-is s d has in
        number-within s (reading.offset_in s d) (reading.vcpus_in s d * 20) i n (omega (arith, due.1, each-is))
        ∙ number_at s (reading.offset_in s d + i) j n (omega (arith, due.0))

    weight_is : reading.weight_in (reading.body_in s d) v ≡ page.weight_in s d v
    weight_is = there (v * 20) (page.start_in s d + 20 * v) 4 (omega arith) (omega arith)

    service-is : reading.service_in (reading.body_in s d) v ≡ page.service_in s d v
    service-is = there (v * 20 + 4) (page.start_in s d + 20 * v + 4) 16 (omega arith) (omega arith)

pub exactly : Exactly
exactly s bytes e =
    let a : reading.accepted s ≡ true = accepted-is s ∙ e in
    (accepted-file s (all-bytes s bytes) a).1
    ∙ (layout_is (reading.figures_in s) (page.weight_in s) (page.service_in s) (weight_is s a) (service-is s a)
    ∙ ap₂ (λ (n k : ℕ). page.layout n k (page.weight_in s) (page.service_in s)) (field_is s 4 2) (each-is s a))

layout-same : (n k : ℕ) (w s x t : ℕ → ℕ → ℕ) → ((d v : ℕ) → d < n → v < k → w d v ≡ x d v)
    → ((d v : ℕ) → d < n → v < k → s d v ≡ t d v) → page.layout n k w s ≡ page.layout n k x t
unfolding page.layout
layout-same n k w s x t a b =
    ap (λ (l : List ℕ). page.usge ++ bytes 2 n ++ parts n (λ d. bytes 4 (page.start n k d) ++ bytes 2 k) ++ l)
    (parts_same n _ _ (λ d l. parts_same k _ _ (λ v m. ap₂ (λ (y z : ℕ). bytes 4 y ++ bytes 16 z) (a d v l m) (b d v l m))))

pub no_two-alike : NoTwoAlike
no_two-alike f g a b p q domains vcpus weights services =
    exactly f a p
    ∙ (layout-same (page.domains_in f) (page.vcpus_in f) _ _ _ _ weights services
    ∙ (ap₂ (λ (n k : ℕ). page.layout n k (page.weight_in g) (page.service_in g)) domains vcpus ∙ sym (exactly g b q)))

-- what `write` promises of its file, in the page's words
says_is : (s : List ℕ) (f : Figures) → files.Says s f → Says s f.domains f.vcpus f.weight f.service
says_is s f h =
    record {
      accepted = sym (accepted-is s) ∙ a;
      domains = sym (field_is s 4 2) ∙ h.domains;
      vcpus = λ some. sym (each-is s a) ∙ sym (count 0 some);
      weight = λ d v l m. shown d v l m (page.weight_in s d v)
          ∙ (sym (weight_is s a d v (within d l) (vcpu d v l m)) ∙ h.weight d v l m);
      service = λ d v l m. shown d v l m (page.service_in s d v)
          ∙ (sym (service-is s a d v (within d l) (vcpu d v l m)) ∙ h.service d v l m);
    }
  where
    a : reading.accepted s ≡ true
    a = h.accepted

    within : (d : ℕ) → d < f.domains → d < reading.domains_in s
    within d l = omega (arith, h.domains)

    count : (d : ℕ) → d < f.domains → f.vcpus ≡ reading.vcpus_each s
    count d l = sym (h.vcpus d l) ∙ (accepted-parts s a).shape.count d (within d l)

    vcpu : (d v : ℕ) → d < f.domains → v < f.vcpus → v < reading.vcpus_each s
    vcpu d v l m = omega (arith, count d l)

    shown : (d v : ℕ) → d < f.domains → v < f.vcpus → (n : ℕ) → cond (page.has s d && ltb v (page.vcpus_in s)) n 0 ≡ n
    shown d v l m n =
        let there : page.has s d ≡ true =
        all_two (sym (accepted-is s) ∙ a) (lt-ltb d (page.domains_in s) (omega (arith, within d l, field_is s 4 2))) in
        let one = lt-ltb v (page.vcpus_in s) (omega (arith, vcpu d v l m, each-is s a)) in
        ap (λ (b : Bool). cond b n 0) (all_two there one)

pub written-says : (s : System) (π : Scheduler) (now : ℕ) → files.Says (layout.file (figures_of s π now)) (figures_of s π now)
    → Says (page.file s π now) (domains s) (vcpus s) (weight π) (page.ran s now)
unfolding figures_of account_of account_at vcpu_at
written-says s π now h =
    let services : (figures_of s π now).service ≡ page.ran s now =
    λ i d v. (vcpu s d v).runtime + flight-is (vcpu s d v) now i in
    subst (λ (l : List ℕ). Says l (domains s) (vcpus s) (weight π) (page.ran s now)) (file-is s π now)
    (subst (λ (f : ℕ → ℕ → ℕ). Says (layout.file (figures_of s π now)) (domains s) (vcpus s) (weight π) f) services
    (says_is (layout.file (figures_of s π now)) (figures_of s π now) h))

pub every-choice : EveryChoice
every-choice n k weights services w =
    subst (λ (l : List ℕ). Says l n k weights services)
    (layout_is figures weights services (λ d v _ _. refl) (λ d v _ _. refl))
    (says_is (layout.file figures) figures (has-file figures limits))
  where
    figures : Figures
    figures = record { domains = n; vcpus = k; weight = weights; service = services }

    limits : layout.Within figures
    limits = record {
      domains = w.domains;
      vcpus = w.vcpus;
      least = w.least;
      weight = w.weight;
      service = w.service;
    }
