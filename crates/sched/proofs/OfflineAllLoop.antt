-- The turns of `offline_all`: after u of them the first u vCPUs of the domain are taken offline. Assumes nothing.
use Prim.Native.Nat.{ℕ, suc, ◌<◌}
use mathlib.Core.Bool.{true}
use mathlib.Core.Path.{◌≡◌, refl, sym, ◌∙◌, ap, subst}
use native.Mathlib.Omega.{arith}
use Rattle.system.specs.declared.System.{System}
use Rattle.system.specs.Answers.{SystemOutcome}
use Rattle.system.specs.Writes.{Tables}
use Rattle.system.specs.Slots.{domains, vcpus, slot, Present}
use Rattle.verdict.specs.Sound.{Sound, sound_iff}
use Rattle.calls.specs.declared.Request.{Request}
use Rattle.sched.specs.Steps.{made, offline, offline_first}
use Rattle.sched.specs.Invariants.{Keeps}
use Rattle.sched.specs.declared.Frame.{Frame}
use Rattle.sched.specs.RequestInPlace.{framed, in_place}
use Rattle.sched.proofs.Cases.{requested-made}
use Rattle.sched.proofs.Invariants.{first-keeps}
use Rattle.sched.proofs.RequestInPlace.{by-stores}

-- s is s₀ after u turns, and vCPU u of the domain is there
pub record Turn (s₀ s : System) (d now u : ℕ) : Type 0 where
  pub after : s ≡ offline_first s₀ d now u
  pub keeps : Keeps s₀ s
  pub domain : d < domains s
  pub vcpu : u < vcpus s

pub next-turn : {s₀ s : System} {d now u : ℕ} → s ≡ offline_first s₀ d now u → Tables s₀ → Sound s₀ → d < domains s₀ → u < vcpus s₀
    → Turn s₀ s d now u
next-turn {s₀} {s} {d} {now} {u} e t S a l =
    let k : Keeps s₀ s = subst (Keeps s₀) (sym e) (first-keeps s₀ S t d now u a (omega arith)) in
    record { after = e; keeps = k; domain = omega (arith, k.shape.domains); vcpu = omega (arith, k.shape.vcpus) }

module _ {s₀ s : System} {d now u : ℕ} (k : Turn s₀ s d now u) where
  pub turn-present : Present s (slot d u)
  turn-present = let a = k.domain in let b = k.vcpu in record { domain = omega arith; vcpu = omega arith }

  -- the call is made: the vCPU is there, and the system is sound
  pub turn-made : offline s d u now ≡ made s (slot d u) (Request.Offline now)
  turn-made = requested-made s k.keeps.sound d u k.domain k.vcpu (Request.Offline now) refl

  -- what a request in the frame of s₀ leaves is what the call leaves
  pub turned : (in_place s (framed s₀ true) d u (Request.Offline now)).system ≡ offline_first s₀ d now (suc u)
  unfolding offline_first
  turned =
      let h = k.keeps.shape in
      let counts : framed s₀ true ≡ framed s true = rw (h.domains, h.vcpus, h.pcpus) in
      let frame = counts ∙ ap (framed s) (sym ((sound_iff s).1 k.keeps.sound)) in
      ap (λ (f : Frame). (in_place s f d u (Request.Offline now)).system) frame
      ∙ ap (λ (r : SystemOutcome). r.system) (by-stores s d u (Request.Offline now) ∙ turn-made)
      ∙ ap (λ (t : System). (made t (slot d u) (Request.Offline now)).system) k.after
