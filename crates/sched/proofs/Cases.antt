-- How a call can end: what holds of the system, and of every change that can be made to it, holds of what the call leaves.
-- Assumes nothing.
use Prim.Native.Nat.{ℕ, ◌<◌}
use mathlib.Core.Bool.{Bool, true, false, cond}
use mathlib.Core.Path.{◌≡◌, refl}
use native.Mathlib.Omega.{arith}
use lib.Dec.{ltb}
use borrow.Author.Tests.{ltb-true, lt-ltb}
use Rattle.system.specs.declared.System.{System}
use Rattle.system.specs.declared.Answer.{Answer}
use Rattle.system.specs.declared.Answer.TheVariants.{BadDomain, BadVcpu, BadPcpu, Unsound}
use Rattle.system.specs.Answers.{SystemOutcome}
use Rattle.system.specs.Slots.{domains, vcpus, pcpus, slot, Present}
use Rattle.verdict.specs.Sound.{Sound, sound_iff}
use Rattle.verdict.specs.Violations.{invariants_hold}
use Rattle.changes.specs.Changes.{reaches}
use Rattle.calls.specs.declared.Request.{Request}
use Rattle.sched.specs.Steps.{made, tested, requested, offline_first, offline_all}

module _ (s : System) (P : System → Type 0) (stays : P s) where
  tested_case : (b : Bool) (a : Answer) (r : SystemOutcome) → (b ≡ true → P r.system) → P (tested b a s r).system
  tested_case true a r k = k refl
  tested_case false a r k = stays

  pub requested_case : (d v : ℕ) (q : Request)
      → (Present s (slot d v) → reaches q (pcpus s) ≡ true → P (made s (slot d v) q).system) → P (requested s d v q).system
  unfolding requested
  requested_case d v q f =
      tested_case (invariants_hold s) Unsound _ λ e. tested_case (reaches q (pcpus s)) BadPcpu _ λ r.
      tested_case (ltb d (domains s)) BadDomain _ λ a. tested_case (ltb v (vcpus s)) BadVcpu _ λ b.
      let x = ltb-true d (domains s) a in
      let y = ltb-true v (vcpus s) b in
      f (record { domain = omega arith; vcpu = omega arith }) r

  pub offline-all_case : (d now : ℕ) → (d < domains s → P (offline_first s d now (vcpus s))) → P (offline_all s d now).system
  unfolding offline_all offline_first
  offline-all_case d now f = tested_case (invariants_hold s) Unsound _ λ e. go (ltb d (domains s)) refl
    where
      go : (b : Bool) → ltb d (domains s) ≡ b → P (offline_first s d now (cond b (vcpus s) 0))
      go true e = f (ltb-true d (domains s) e)
      go false e = stays

-- a request of ids in range, of a sound system, is made
pub requested-made : (s : System) → Sound s → (d v : ℕ) → d < domains s → v < vcpus s → (q : Request) → reaches q (pcpus s) ≡ true
    → requested s d v q ≡ made s (slot d v) q
unfolding requested
requested-made s S d v a b q r = rw ((sound_iff s).1 S, r, lt-ltb d (domains s) a, lt-ltb v (vcpus s) b)
