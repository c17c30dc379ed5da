-- What a change may do to a sound system, and that it leaves a sound one. Assumes nothing.
use Prim.Native.Nat.{ℕ, ◌+◌, ◌-◌, ◌/◌, ◌%◌, ◌^◌, ◌<◌, min}
use mathlib.Core.Bool.{true, false}
use mathlib.Core.Path.{◌≡◌, sym, ◌∙◌}
use native.Mathlib.Omega.{arith}
use native.Mathlib.Decide.{ℕ_discrete}
use Rattle.std.specs.Prelude.{Result, Ok, Err}
use Rattle.masks.specs.Masks.{permits}
use Rattle.scans.specs.Booleans.{zero_one}
use Rattle.system.specs.declared.RunState.{RunState}
use Rattle.system.specs.declared.RunState.TheVariants.{Running}
use Rattle.system.specs.declared.VirtualCpu.{VirtualCpu}
use Rattle.system.specs.declared.Occupant.TheVariants.{Idle, Vcpu}
use Rattle.system.specs.declared.System.{System}
use Rattle.system.specs.declared.Answer.{Answer}
use Rattle.system.specs.declared.Answer.TheVariants.{PcpuBusy}
use Rattle.system.specs.Answers.{SystemOutcome}
use Rattle.system.specs.Records.{elapsed}
use Rattle.system.specs.Reads.{vcpu_at, occupant_at, is_idle, state_at}
use Rattle.system.specs.Writes.{Tables, Wrote, same-pcpus, present-back, present-on}
use Rattle.system.specs.Slots.{pcpus, slot, Present, slot_of}
use Rattle.verdict.specs.Sound.{OnPcpu, Occupies, Sound}
use Rattle.changes.specs.declared.Change.{Change}
use Rattle.changes.specs.declared.Change.TheVariants.{Write, Enter, Leave}
use Rattle.sched.specs.Steps.{refused, done}
use Rattle.sched.specs.CanRun.{CanRun}

abbrev pub NotRunning : RunState → Type 0
NotRunning st = (q : ℕ) → st ≡ Running q → ⊥

-- a record made anew that runs where the old one did, for as long
pub record StaysPut (old new : VirtualCpu) : Type 0 where
  pub time : new.runtime ≡ old.runtime
  pub was : (q : ℕ) → new.state ≡ Running q → old.state ≡ Running q
  pub still : (q : ℕ) → old.state ≡ Running q → new.state ≡ Running q
  pub affine : (q : ℕ) → new.state ≡ Running q → permits old.affinity q ≡ true → permits new.affinity q ≡ true

-- a record whose interval was closed
pub record Closed (old new : VirtualCpu) (now : ℕ) : Type 0 where
  pub rests : NotRunning new.state
  pub time : new.runtime ≡ min (old.runtime + elapsed old now) (2 ^ 64 - 1)

-- a record whose interval was opened on pCPU p
pub record Opened (old new : VirtualCpu) (p : ℕ) : Type 0 where
  pub on : new.state ≡ Running p
  pub affine : permits new.affinity p ≡ true
  pub time : new.runtime ≡ old.runtime

-- a change of the vCPU at slot i that keeps both records of who runs where in step, and what it leaves
pub data Legal (s : System) (i : ℕ) : Result Change Answer → SystemOutcome → Type 0 where
  stays : (a : Answer) → Legal s i (Err a) (refused a s)
  keeps : {v : VirtualCpu} {s' : System} → StaysPut (vcpu_at s i) v → (Tables s → Wrote s s' i v 0 (occupant_at s 0)) → Legal s i (Ok (Write v)) (done s')
  busy : {v : VirtualCpu} {p : ℕ} → p < pcpus s → is_idle (occupant_at s p) ≡ false → Legal s i (Ok (Enter v p)) (refused PcpuBusy s)
  goes_on : {v : VirtualCpu} {p : ℕ} {s' : System} → CanRun s i p → Opened (vcpu_at s i) v p
      → (Tables s → Wrote s s' i v p (Vcpu (i / 8) (i % 8))) → Legal s i (Ok (Enter v p)) (done s')
  goes_off : {v : VirtualCpu} {p : ℕ} {s' : System} (now : ℕ) → state_at s i ≡ Running p → Closed (vcpu_at s i) v now
      → (Tables s → Wrote s s' i v p Idle) → Legal s i (Ok (Leave v p)) (done s')

module _ {s s' : System} {i p : ℕ} {v : VirtualCpu} where
  -- a vCPU goes onto an idle pCPU
  pub sound-on : Sound s → CanRun s i p → Wrote s s' i v p (Vcpu (i / 8) (i % 8)) → v.state ≡ Running p → permits v.affinity p ≡ true
      → Sound s'
  sound-on S c w st af =
      record {
        domains = omega (arith, w.shape.domains, S.domains);
        vcpus = omega (arith, w.shape.vcpus, S.vcpus);
        pcpus = omega (arith, w.shape.pcpus, S.pcpus);
        runs = λ j q h e. runs' j q h e (ℕ_discrete j i);
        occupied = λ q d u l e. occupied' q d u l e (ℕ_discrete q p);
      }
    where
      room : pcpus s' ≡ pcpus s
      room = same-pcpus w.shape

      runs' : (j q : ℕ) → Present s' j → state_at s' j ≡ Running q → Dec (j ≡ i) → OnPcpu s' j q
      runs' j q h e (yes j≡i) =
          let q≡p : q ≡ p = cc in
          let k = c.exists in
          record { exists = omega arith; back = cc; admits = cc }
      runs' j q h e (no j≢i) =
          let f = w.there j j≢i in
          let o = S.runs j q (present-back w.shape h) (cc) in
          let g = w.others q (λ (x : q ≡ p). zero_one cc) in
          let k = o.exists in
          record { exists = omega arith; back = cc; admits = cc }

      occupied' : (q d u : ℕ) → q < pcpus s' → occupant_at s' q ≡ Vcpu d u → Dec (q ≡ p) → Occupies s' q d u
      occupied' q d u l e (yes q≡p) =
          let a : d ≡ i / 8 = cc in
          let b : u ≡ i % 8 = cc in
          let j : slot d u ≡ i = omega arith in
          let k = present-on w.shape c.present in
          record { domain = omega (arith, k.domain); vcpu = omega (arith, k.vcpu); on = cc }
      occupied' q d u l e (no q≢p) =
          let g = w.others q q≢p in
          let h = S.occupied q d u (omega arith) (sym g ∙ e) in
          let r = h.on in
          let f = w.there (slot d u) (λ (x : slot d u ≡ i). zero_one cc) in
          record { domain = omega (arith, w.shape.domains, h.domain); vcpu = omega (arith, w.shape.vcpus, h.vcpu); on = cc }

  -- a vCPU comes off its pCPU
  pub sound-off : Sound s → Present s i → state_at s i ≡ Running p → Wrote s s' i v p Idle → NotRunning v.state → Sound s'
  sound-off S hi on w st =
      record {
        domains = omega (arith, w.shape.domains, S.domains);
        vcpus = omega (arith, w.shape.vcpus, S.vcpus);
        pcpus = omega (arith, w.shape.pcpus, S.pcpus);
        runs = λ j q h e. runs' j q h e (ℕ_discrete j i);
        occupied = λ q d u l e. occupied' q d u l e (ℕ_discrete q p);
      }
    where
      room : pcpus s' ≡ pcpus s
      room = same-pcpus w.shape

      runs' : (j q : ℕ) → Present s' j → state_at s' j ≡ Running q → Dec (j ≡ i) → OnPcpu s' j q
      runs' j q h e (yes j≡i) = absurd (st q (cc))
      runs' j q h e (no j≢i) =
          let f = w.there j j≢i in
          let o = S.runs j q (present-back w.shape h) (cc) in
          let m = S.runs i p hi on in
          let b = o.back in
          let c = m.back in
          let g = w.others q (λ (x : q ≡ p). j≢i (let y : slot (j / 8) (j % 8) ≡ slot (i / 8) (i % 8) = cc in sym (slot_of j) ∙ (y ∙ slot_of i))) in
          let k = o.exists in
          record { exists = omega arith; back = cc; admits = cc }

      occupied' : (q d u : ℕ) → q < pcpus s' → occupant_at s' q ≡ Vcpu d u → Dec (q ≡ p) → Occupies s' q d u
      occupied' q d u l e (yes q≡p) = absurd (zero_one cc)
      occupied' q d u l e (no q≢p) =
          let g = w.others q q≢p in
          let h = S.occupied q d u (omega arith) (sym g ∙ e) in
          let r = h.on in
          let f = w.there (slot d u) (λ (x : slot d u ≡ i). q≢p (cc)) in
          record { domain = omega (arith, w.shape.domains, h.domain); vcpu = omega (arith, w.shape.vcpus, h.vcpu); on = cc }

  -- a vCPU stays where it is
  pub sound-keep : Sound s → Wrote s s' i v p (occupant_at s p) → StaysPut (vcpu_at s i) v → Present s i → Sound s'
  sound-keep S w k hi =
      record {
        domains = omega (arith, w.shape.domains, S.domains);
        vcpus = omega (arith, w.shape.vcpus, S.vcpus);
        pcpus = omega (arith, w.shape.pcpus, S.pcpus);
        runs = λ j q h e. runs' j q h e (ℕ_discrete j i);
        occupied = λ q d u l e. occupied' q d u l e (ℕ_discrete (slot d u) i);
      }
    where
      room : pcpus s' ≡ pcpus s
      room = same-pcpus w.shape

      same : (q : ℕ) → Dec (q ≡ p) → occupant_at s' q ≡ occupant_at s q
      same q (yes e) = let o = w.onto in cc
      same q (no n) = w.others q n

      runs' : (j q : ℕ) → Present s' j → state_at s' j ≡ Running q → Dec (j ≡ i) → OnPcpu s' j q
      runs' j q h e (yes j≡i) =
          let g = same q (ℕ_discrete q p) in
          let r : v.state ≡ Running q = cc in
          let o = S.runs i q hi (k.was q r) in
          let a = k.affine q r o.admits in
          let b = o.back in
          let x = o.exists in
          record { exists = omega arith; back = cc; admits = cc }
      runs' j q h e (no j≢i) =
          let f = w.there j j≢i in
          let g = same q (ℕ_discrete q p) in
          let o = S.runs j q (present-back w.shape h) (cc) in
          let x = o.exists in
          record { exists = omega arith; back = cc; admits = cc }

      occupied' : (q d u : ℕ) → q < pcpus s' → occupant_at s' q ≡ Vcpu d u → Dec (slot d u ≡ i) → Occupies s' q d u
      occupied' q d u l e (yes x) =
          let g = same q (ℕ_discrete q p) in
          let h = S.occupied q d u (omega arith) (sym g ∙ e) in
          let r = h.on in
          let b = k.still q (cc) in
          record { domain = omega (arith, w.shape.domains, h.domain); vcpu = omega (arith, w.shape.vcpus, h.vcpu); on = cc }
      occupied' q d u l e (no n) =
          let g = same q (ℕ_discrete q p) in
          let h = S.occupied q d u (omega arith) (sym g ∙ e) in
          let r = h.on in
          let f = w.there (slot d u) n in
          record { domain = omega (arith, w.shape.domains, h.domain); vcpu = omega (arith, w.shape.vcpus, h.vcpu); on = cc }
